-- `card_block::companion` meets its contract: a block that is not all there is absent, and of one that is the answer is the block's own.
-- Assumes nothing.
use mathlib.Core.Path.{sym, ◌∙◌}
use Rattle.base_answers.specs.Answer.{sound}
use native.Mathlib.Omega.{arith}
use Rattle.card_block.proofs.Laws.{absent, present, block_length}
use Rattle.card_block.proofs.companion.Goals as goal

pub returns-then-card-k : goal.returns-then-card-k
returns-then-card-k c = sym (absent _ _ (omega arith))

pub block_holds-requires : goal.block_holds-requires
block_holds-requires c =
    let start = c.args in
    rw c.part.ensures.bytes (block_length start.card.now start.k (omega arith))

pub returns : goal.returns
returns c =
    let start = c.args in
    (rw c.part.ensures.bytes at c.block_holds.ensures) ∙ sym (present start.card.now start.k sound (omega arith))
