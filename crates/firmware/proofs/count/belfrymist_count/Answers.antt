-- `belfrymist_count` meets its contract: the number of builds of a card, as numbers. Assumes nothing.
use Rattle.firmware.proofs.Laws.{count_flat}
use Rattle.firmware.proofs.count.belfrymist_count.Goals as goal

pub returns : goal.returns
returns c = count_flat c.count_card.ensures c.from.ensures
