-- `card_layout::told_by` meets its contract. Assumes nothing.
use mathlib.Core.Path.{◌∙◌, ap}
use native.Mathlib.Omega.{arith}
use Rattle.card_block.proofs.Laws.{block_length}
use Rattle.card_layout.specs.Layout.{format_of}
use Rattle.card_layout.proofs.told_by.Goals as goal

pub format_of-requires : goal.format_of-requires
format_of-requires c = rw c.part.ensures.bytes (block_length _ _ (omega arith))

pub returns : goal.returns
returns c = c.format_of.ensures ∙ ap format_of c.part.ensures.bytes
