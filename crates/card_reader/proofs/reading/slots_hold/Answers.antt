-- The goals of `card_reader::reading::slots_hold` that the check leaves open; Invariants.antt says how it is met. Assumes nothing.
use mathlib.Core.Path.{sym, ◌∙◌}
use native.Mathlib.Omega.{arith}
use Rattle.std.proofs.lemmas.Result.{err_from_is_err_and}
use Rattle.base_answers.specs.Answer.{sound}
use Rattle.base_answers.proofs.Laws.{turn_refused, told_refused}
use Rattle.card_reader.proofs.reading.slots_hold.Goals as goal

pub returns-in_err-entry_holds : goal.returns-in_err-entry_holds
returns-in_err-entry_holds c =
    let said = rw c.slot_at.ensures at c.entry_holds.ensures in
    let p = err_from_is_err_and c.from_residual.result c.from_residual.ensures.1 in
    rw (p.1, p.2) (sym (turn_refused _ _ _ sound (omega arith) (told_refused said c.in_err-entry_holds.was)) ∙ c.loop-j.invariant)
