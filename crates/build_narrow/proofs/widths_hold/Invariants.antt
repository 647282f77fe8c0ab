-- `widths_hold` meets its contract. The invariant: the tests of the entries that are left answer as those of all do. Assumes
-- nothing.
use mathlib.Core.Path.{◌≡◌}
use Prim.Native.Nat.{◌-◌}
use lib.ListN.{length}
use Rattle.base_answers.specs.Answer.{first, sound}
use Rattle.base_lists.specs.Row.{in_turn}
use Rattle.card_entries.specs.Slot.{slot_from, entries_in}
use Rattle.build_narrow.specs.Settling.{width_tests}
use Rattle.build_narrow.proofs.TestLaws.{width_test}
use Rattle.build_narrow.proofs.widths_hold.Given as goal

abbrev pub invariant-loop-e : goal.invariant-loop-e
invariant-loop-e l =
    first (in_turn (width_test (slot_from l.lists.words.now l.lists.ones.now l.lists.twos.now)) l.e (length l.lists.words.now - l.e)) sound
    ≡ first (width_tests 0 (entries_in l.lists.words.now l.lists.ones.now l.lists.twos.now)) sound
