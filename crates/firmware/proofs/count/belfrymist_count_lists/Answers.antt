-- `belfrymist_count_lists` meets its contract: the number of builds of lists, as numbers. Assumes nothing.
use Rattle.firmware.proofs.Laws.{count_flat}
use Rattle.firmware.proofs.count.belfrymist_count_lists.Goals as goal

pub returns : goal.returns
returns c = count_flat c.count_lists.ensures c.from.ensures
