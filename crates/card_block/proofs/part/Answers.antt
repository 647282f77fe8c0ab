-- `card_block::part` meets its contract. Assumes nothing.
use mathlib.Core.Path.{refl}
use Rattle.card_block.proofs.Laws.{part_is}
use Rattle.card_block.proofs.part.Goals as goal

pub returns : goal.returns
returns c =
    let start = c.args in record { bytes = part_is start.card.now start.k; place = refl }
