-- `letters_hold` meets its contract. Assumes nothing.
use borrow.Author.Tests.{eqb-true, eqb-false}
use mathlib.Core.Path.{sym, ◌∙◌}
use mathlib.Core.Logic.{inr}
use Rattle.base_answers.specs.Answer.{sound}
use Rattle.base_letters.specs.Letters.{is_letter}
use Rattle.text_fasta.proofs.TestLaws.{letters_refused, others_refused, all_given}
use Rattle.text_fasta.proofs.writing.letters_hold.Goals as goal
use Rattle.text_fasta.proofs.writing.letters_hold.Goals.{
  else-not-is_empty-via-then-not-is_empty+else-are_letters,
  else-not-is_empty-via-else-not-is_empty,
}

pub returns-then-are_letters : goal.returns-then-are_letters
returns-then-are_letters c =
    all_given _ sound (eqb-false _ 0 (sym c.is_empty.ensures ∙ c.if-not-is_empty.true)) (sym c.are_letters.ensures ∙ c.if-are_letters.true)

pub returns : goal.returns
returns c =
    let lead = c.leading.ensures is_letter (λ b h t e. e) in
    elim c.else-not-is_empty.branch [
      | else-not-is_empty-via-then-not-is_empty+else-are_letters w ↦ others_refused _ sound lead (sym w.are_letters.ensures ∙ w.if-are_letters.false)
      | else-not-is_empty-via-else-not-is_empty w ↦
          letters_refused _ sound lead (inr (eqb-true _ 0 (sym c.is_empty.ensures ∙ w.if-not-is_empty.false)))
    ]
