-- The goal of `card_reader::reading::laters_hold` that the check leaves open; Invariants.antt says how it is met. Assumes nothing.
use mathlib.Core.Path.{sym, ◌∙◌}
use native.Mathlib.Omega.{arith}
use Rattle.base_answers.specs.Answer.{sound}
use Rattle.base_answers.proofs.Laws.{turn_holds, turns_end, told_holds}
use Rattle.card_reader.proofs.reading.laters_hold.Goals as goal

-- past the last block
pub returns-in_ok-later_holds : goal.returns-in_ok-later_holds
returns-in_ok-later_holds c =
    sym (turns_end _ _ _ sound (omega arith))
    ∙ turn_holds _ _ _ sound (omega arith) (told_holds c.later_holds.ensures c.in_ok-later_holds.was)
    ∙ c.loop-k.invariant
