-- The goals of `letters_hold` that the check leaves open; Invariants.antt says how it is met. Assumes nothing.
use mathlib.Core.Path.{sym, ◌∙◌}
use mathlib.Core.Logic.{inr}
use native.Mathlib.Omega.{arith}
use Rattle.base_answers.specs.Answer.{sound}
use Rattle.text_fasta.proofs.TestLaws.{letters_refused, letters_given}
use Rattle.text_fasta.proofs.LoopLaws.{counting_break, counting_letter, counting_stop, counting_all}
use Rattle.text_fasta.proofs.reading.letters_hold.Goals as goal
use Rattle.text_fasta.proofs.reading.letters_hold.Goals.{then-is_letter, else-is_letter+else-b-ne-NEWLINE}

pub returns-then-b-ne-NEWLINE : goal.returns-then-b-ne-NEWLINE
returns-then-b-ne-NEWLINE c =
    let none = sym c.is_letter.ensures ∙ c.if-is_letter.false in
    let stop = counting_stop c.loop-b.invariant c.loop-b-test.true c.if-b-ne-NEWLINE.true none in
    letters_refused _ sound stop.0 stop.1

pub loop-b-preserved : goal.loop-b-preserved
loop-b-preserved c =
    elim c.if-is_letter.branch [
      | then-is_letter w ↦ rw w.k-is (counting_letter c.loop-b.invariant c.loop-b-test.true (sym c.is_letter.ensures ∙ w.if-is_letter.true))
      | else-is_letter+else-b-ne-NEWLINE w ↦ rw w.k-is (counting_break c.loop-b.invariant c.loop-b-test.true w.if-b-ne-NEWLINE.false)
    ]

pub returns-then-k-eq0 : goal.returns-then-k-eq0
returns-then-k-eq0 c =
    let all = counting_all c.loop-b.invariant c.loop-b-test.false in
    letters_refused _ sound (sym c.if-k-eq0.true ∙ all.1) (inr (sym all.0 ∙ c.if-k-eq0.true))

pub returns : goal.returns
returns c =
    let all = counting_all c.loop-b.invariant c.loop-b-test.false in
    letters_given _ sound (omega (arith, all.0, c.if-k-eq0.false)) (sym all.0 ∙ all.1)
