-- `card_reader::reading::slots_hold` meets its contract. The invariant: the tests of the slots that are left answer as those of all do.
-- Assumes nothing.
use mathlib.Core.Path.{◌≡◌}
use Prim.Native.Nat.{ℕ, ◌+◌, ◌-◌}
use mathlib.Core.List.{List}
use Rattle.base_answers.specs.Answer.{Test, first, sound}
use Rattle.base_lists.specs.Row.{in_turn}
use Rattle.card_entries.specs.declared.Format.{Format}
use Rattle.card_entries.specs.Slot.{slot_at}
use Rattle.card_entries.specs.Fault.{entry_tests}
use Rattle.card_reader.specs.Reading.{slots_tests}
use Rattle.card_reader.proofs.reading.slots_hold.Given as goal

-- the tests of the slot j
abbrev pub slot_tests : List ℕ → Format → ℕ → ℕ → List Test
slot_tests part f e j = entry_tests f (e + j) (slot_at part j)

abbrev pub invariant-loop-j : goal.invariant-loop-j
invariant-loop-j l =
    first (in_turn (slot_tests l.part l.f l.e) l.j (l.n - l.j)) sound ≡ first (slots_tests l.f l.part l.e l.n) sound
