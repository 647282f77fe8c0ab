-- `belfrymist_settle` meets its contract: what settling a card answers, as numbers. Assumes nothing.
use Rattle.firmware.proofs.Laws.{settle_flat}
use Rattle.firmware.proofs.settle.belfrymist_settle.Goals as goal

pub returns : goal.returns
returns c = settle_flat c.settle_card.ensures c.from.ensures
