-- `card_writer::put_slots` meets its contract: one slot more in each turn (`slotted_turn`). Assumes nothing.
use Rattle.card_entries.specs.Slot.{slot_from}
use Rattle.card_writer.proofs.PuttingLaws.{Slotted}
use Rattle.card_writer.proofs.put_slots.Given as goal

abbrev pub invariant-loop-j : goal.invariant-loop-j
invariant-loop-j l = Slotted l.initial.part (slot_from l.lists.words.now l.lists.ones.now l.lists.twos.now) l.e l.n l.j l.part
