-- `card_writer::put_card` meets its contract: block 0, and then one block more in each turn (`blocked_turn`). Assumes nothing.
use Rattle.card_entries.specs.Slot.{slot_from}
use Rattle.card_writer.proofs.PuttingLaws.{Blocked}
use Rattle.card_writer.proofs.put_card.Given as goal

abbrev pub invariant-loop-k : goal.invariant-loop-k
invariant-loop-k l = Blocked l.initial.out l.f (slot_from l.lists.words.now l.lists.ones.now l.lists.twos.now) l.k l.out
