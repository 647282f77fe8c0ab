-- `can_stand` meets its contract, by its tests. Assumes nothing.
use mathlib.Core.Path.{sym, ap, ◌∙◌}
use mathlib.Core.Bool.{not, true≢false}
use lib.Dec.{eqb}
use borrow.Author.Tests.{eqb-true, eqb-false, eq-eqb}
use Rattle.span_narrow.specs.Digits.{bit}
use Rattle.span_narrow.proofs.StateLaws.{digit_of, stands_not_again, stands_not_placed, stands_by_dues}
use Rattle.span_narrow.proofs.chances.can_stand.Goals as goal
use Rattle.span_narrow.proofs.chances.can_stand.Goals.{then-words-e, else-words-e}

pub returns-then-marks-e-eq0 : goal.returns-then-marks-e-eq0
returns-then-marks-e-eq0 c =
    elim c.if-words-e.branch [
      | then-words-e w ↦ ap (eqb c.args.dues) (c.from.ensures ∙ digit_of _ ∙ ap bit c.is_due.ensures)
          ∙ sym (stands_by_dues c.args.words.now _ _ _ _ _ _ w.if-words-e.true (eqb-true _ _ (sym w.value-is ∙ c.if-marks-e-eq0.true)))
      | else-words-e w ↦ absurd (true≢false (sym c.if-marks-e-eq0.true ∙ w.value-is ∙ ap not (eq-eqb _ _ w.if-words-e.false)))
    ]

pub returns-else-marks-e-eq0 : goal.returns-else-marks-e-eq0
returns-else-marks-e-eq0 c =
    elim c.if-words-e.branch [
      | then-words-e w ↦ c.if-marks-e-eq0.false
          ∙ sym (stands_not_placed c.args.words.now _ _ _ _ _ c.args.tried (eqb-false _ _ (sym w.value-is ∙ c.if-marks-e-eq0.false)))
      | else-words-e w ↦ c.if-marks-e-eq0.false ∙ sym (stands_not_again c.args.words.now _ _ _ _ _ _ w.if-words-e.false)
    ]
