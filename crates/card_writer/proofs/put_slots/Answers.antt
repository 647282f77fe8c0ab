-- The goals of `card_writer::put_slots` that the check leaves open; Invariants.antt says how it is met. Assumes nothing.
use native.Mathlib.Omega.{arith}
use Rattle.card_writer.proofs.PuttingLaws.{slotted_none, slotted_turn, slotted_length, slotted_all}
use Rattle.card_writer.proofs.put_slots.Goals as goal

pub loop-j-init : goal.loop-j-init
loop-j-init c = slotted_none _ _ _ _ c.requires.room

pub loop-j-preserved : goal.loop-j-preserved
loop-j-preserved c = slotted_turn _ _ _ _ c.loop-j.invariant _ (omega arith) c.slot.ensures c.put_slot.ensures

pub returns : goal.returns
returns c = slotted_all _ _ _ _ c.loop-j.invariant (omega arith)
