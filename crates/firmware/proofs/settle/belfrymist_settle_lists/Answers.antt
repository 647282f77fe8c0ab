-- `belfrymist_settle_lists` meets its contract: what settling lists answers, as numbers. Assumes nothing.
use Rattle.firmware.proofs.Laws.{settle_flat}
use Rattle.firmware.proofs.settle.belfrymist_settle_lists.Goals as goal

pub returns : goal.returns
returns c = settle_flat c.settle_lists.ensures c.from.ensures
