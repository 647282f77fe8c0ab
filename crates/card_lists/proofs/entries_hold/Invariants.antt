-- `card_lists::entries_hold` meets its contract. The invariant: the tests of the entries that are left answer as those of all do.
-- Assumes nothing.
use mathlib.Core.Path.{◌≡◌}
use mathlib.Core.List.{List}
use Prim.Native.Nat.{ℕ, ◌-◌}
use Rattle.base_answers.specs.Answer.{Test, first, sound}
use Rattle.base_lists.specs.Row.{in_turn}
use Rattle.card_entries.specs.declared.Format.{Format}
use Rattle.card_entries.specs.Fault.{entry_tests}
use Rattle.card_entries.specs.Slot.{slot_from}
use Rattle.card_lists.proofs.entries_hold.Given as goal

-- the tests of entry e
abbrev pub listed_tests : Format → List ℕ → List ℕ → List ℕ → ℕ → List Test
listed_tests f words ones twos e = entry_tests f e (slot_from words ones twos e)

abbrev pub invariant-loop-e : goal.invariant-loop-e
invariant-loop-e l =
    first (in_turn (listed_tests l.f l.lists.words.now l.lists.ones.now l.lists.twos.now) l.e (l.f.m - l.e)) sound ≡ first (in_turn (listed_tests l.f l.lists.words.now l.lists.ones.now l.lists.twos.now) 0 l.f.m) sound
