-- `card_layout::slot_of` meets its contract. Assumes nothing.
use Prim.Native.Nat.{ℕ, ◌+◌, ◌/◌, ◌%◌}
use mathlib.Core.Path.{◌∙◌, ap}
use mathlib.Core.List.{List}
use native.Mathlib.Omega.{arith}
use Rattle.card_block.proofs.Laws.{block_length}
use Rattle.card_entries.specs.Slot.{slot_at}
use Rattle.card_layout.specs.Layout.{slot_of, per_block}
use Rattle.card_layout.proofs.slot_of.Goals as goal

pub slot_at-requires : goal.slot_at-requires
slot_at-requires c =
    rw c.part.ensures.bytes (omega (arith, block_length c.args.card.now (1 + c.args.e / per_block) c.requires))

pub returns : goal.returns
unfolding slot_of
returns c = c.slot_at.ensures ∙ ap (λ (b : List ℕ). slot_at b (c.args.e % per_block)) c.part.ensures.bytes
