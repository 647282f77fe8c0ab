-- The goals of `card_lists::entries_hold` that the check leaves open; Invariants.antt says how it is met. Assumes nothing.
use mathlib.Core.Path.{sym, ◌∙◌}
use native.Mathlib.Omega.{arith}
use Rattle.std.proofs.lemmas.Result.{err_from_is_err_and}
use Rattle.base_answers.specs.Answer.{sound}
use Rattle.base_answers.proofs.Laws.{turn_holds, turn_refused, turns_end, told_holds, told_refused}
use Rattle.card_lists.proofs.entries_hold.Goals as goal

pub returns-in_err-entry_holds : goal.returns-in_err-entry_holds
returns-in_err-entry_holds c =
    let said = rw c.slot.ensures at c.entry_holds.ensures in
    let p = err_from_is_err_and c.from_residual.result c.from_residual.ensures.1 in
    rw (p.1, p.2) (sym (turn_refused _ _ _ sound (omega arith) (told_refused said c.in_err-entry_holds.was)) ∙ c.loop-e.invariant)

pub loop-e-preserved : goal.loop-e-preserved
loop-e-preserved c =
    let said = rw c.slot.ensures at c.entry_holds.ensures in
    turn_holds _ _ _ sound (omega arith) (told_holds said c.in_ok-entry_holds.was) ∙ c.loop-e.invariant

pub returns : goal.returns
returns c = sym (turns_end _ _ _ sound (omega arith)) ∙ c.loop-e.invariant
