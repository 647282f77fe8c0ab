-- `card_reader::reading::laters_hold` meets its contract. The invariant: the tests of the blocks that are left answer as those of all later blocks
-- do. Assumes nothing.
use mathlib.Core.Path.{◌≡◌}
use Prim.Native.Nat.{◌+◌, ◌-◌}
use Rattle.base_answers.specs.Answer.{first, sound}
use Rattle.base_lists.specs.Row.{in_turn}
use Rattle.card_layout.specs.Layout.{entry_blocks}
use Rattle.card_reader.specs.Reading.{later_tests}
use Rattle.card_reader.proofs.reading.laters_hold.Given as goal

-- block k is next
abbrev pub invariant-loop-k : goal.invariant-loop-k
invariant-loop-k l =
    first (in_turn (later_tests l.f l.card) l.k (entry_blocks l.f.m + 1 - l.k)) sound
    ≡ first (in_turn (later_tests l.f l.card) 1 (entry_blocks l.f.m)) sound
