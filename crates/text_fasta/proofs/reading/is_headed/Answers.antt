-- `is_headed` meets its contract. Assumes nothing.
use borrow.Author.Tests.{eqb-true, eqb-false, ltb-true}
use mathlib.Core.Path.{sym, ◌∙◌}
use native.Mathlib.Omega.{arith}
use Rattle.text_fasta.proofs.HeadLaws.{within_reach, no_end, no_mark, headed_by_name}
use Rattle.text_fasta.proofs.reading.is_headed.Goals as goal
use Rattle.text_fasta.proofs.reading.is_headed.Goals.{then-end-bytes, else-end-bytes}

pub overflow_add-end : goal.overflow_add-end
overflow_add-end c = omega (arith, within_reach c.args.bytes.now c.requires)

pub returns-then-bytes-eq-MARK : goal.returns-then-bytes-eq-MARK
returns-then-bytes-eq-MARK c =
    elim c.if-end-bytes.branch [
      | then-end-bytes w ↦
          headed_by_name _ c.requires w.if-end-bytes.true (eqb-true _ _ (sym w.value-is ∙ c.if-bytes-eq-MARK.true)) c.is_name.ensures
      | else-end-bytes w ↦ absurd (omega (arith, ltb-true _ _ (sym w.value-is ∙ c.if-bytes-eq-MARK.true), w.if-end-bytes.false))
    ]

pub returns-else-bytes-eq-MARK : goal.returns-else-bytes-eq-MARK
returns-else-bytes-eq-MARK c =
    c.if-bytes-eq-MARK.false
    ∙ elim c.if-end-bytes.branch [
      | then-end-bytes w ↦ no_mark _ (eqb-false _ _ (sym w.value-is ∙ c.if-bytes-eq-MARK.false))
      | else-end-bytes w ↦ no_end _ c.requires (omega (arith, w.if-end-bytes.false))
    ]
