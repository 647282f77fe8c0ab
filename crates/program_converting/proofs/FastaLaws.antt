-- Laws of what `card2fasta` writes: by the answer of writing a record, and of building from a card. No contract cites this file. Assumes
-- nothing.
use mathlib.Core.Path.{◌≡◌, refl, sym, ap}
use mathlib.Core.List.{List, []}
use Prim.Native.Nat.{ℕ}
use lib.ListN.{length, take}
use Rattle.std.specs.Prelude.{Result, Ok, Err}
use Rattle.base_answers.specs.declared.Refusal.{Refusal}
use Rattle.base_answers.specs.Answer.{Answer, given, refused, says}
use Rattle.base_answers.proofs.Laws.{given_not_refused}
use Rattle.build_sequence.specs.Verdict.{sole, several, no_build, Outcome, settled, unsettled}
use Rattle.base_text.specs.Text.{refusal_line}
use Rattle.base_text.specs.Putting.{Put}
use Rattle.text_fasta.specs.Record.{record_of}
use Rattle.text_fasta.specs.Writing.{writing, Writes}
use Rattle.text_fasta.proofs.ByTests.{writing_long}
use Rattle.build_card.specs.declared.BuildAnswer.{BuildAnswer}
use Rattle.build_card.specs.declared.BuildAnswer.TheVariants.{Sole, Several, None, Unsettled}
use Rattle.build_card.specs.Building.{answer_of, letters_after, Builds}
use Rattle.build_card.proofs.FromLaws.{letters_start}
use Rattle.program_lines.specs.Lines.{program_budget, letters_room}
use Rattle.program_lines.specs.ByAnswer.{verdict_by}
use Rattle.program_lines.proofs.VerdictLaws.{verdict_said}
use Rattle.program_converting.specs.declared.Lengths.{Lengths}
use Rattle.program_converting.specs.Lined.{Lined}
use Rattle.program_converting.specs.Converting.{Streams, on_errors, by_answer, Converted}
use Rattle.program_converting.specs.Fasta.{record_room, fasta_by, ToFasta}
use Rattle.program_converting.proofs.ConvertingLaws.{errors_written, answered}

-- by the answer of building, and the letters that it left
abbrev written_by : ℕ → List ℕ → Answer BuildAnswer → List ℕ → Streams
written_by limit name (given (Sole n k)) letters =
    by_answer (record_of name (take n letters)) (writing name (take n letters) (record_room limit))
written_by limit name (given (Several n k)) letters = on_errors (verdict_by (Several n k) letters)
written_by limit name (given (None k)) letters = on_errors (verdict_by (None k) letters)
written_by limit name (given (Unsettled k)) letters = on_errors (verdict_by (Unsettled k) letters)
written_by limit name (refused n p) letters = on_errors (refusal_line n p)

written_said : (limit : ℕ) (name before : List ℕ) (a : Answer Outcome)
    → written_by limit name (answer_of a) (letters_after a before) ≡ fasta_by limit name a
unfolding fasta_by
written_said limit name before (given (settled (sole s) n)) = rw (letters_start s before)
written_said limit name before (given (settled (several s) n)) = ap on_errors (verdict_said before (settled (several s) n) refl)
written_said limit name before (given (settled no_build n)) = ap on_errors (verdict_said before (settled no_build n) refl)
written_said limit name before (given (unsettled n)) = ap on_errors (verdict_said before (unsettled n) refl)
written_said limit name before (refused n p) = refl

-- what is not `Sole`
other_by : (limit : ℕ) (name letters : List ℕ) (a : BuildAnswer) → ((n k : ℕ) → a ≡ Sole n k → ⊥)
    → on_errors (verdict_by a letters) ≡ written_by limit name (given a) letters
other_by limit name letters (Sole n k) other = absurd (other n k refl)
other_by limit name letters (Several n k) other = refl
other_by limit name letters (None k) other = refl
other_by limit name letters (Unsettled k) other = refl

module _ {limit : ℕ} {card before letters name : List ℕ} {r : Result BuildAnswer Refusal} (room : length before ≡ letters_room limit)
    (built : Builds limit card program_budget before (says r) letters) where
  by_answer_lem : (a : Result BuildAnswer Refusal) {out err out' err' : List ℕ} {q : Lengths} → r ≡ a
      → Converted (written_by limit name (says a) letters) out err q out' err'
      → ToFasta limit card name out err q out' err'
  by_answer_lem a {out} {err} {out'} {err'} {q} is did =
      let same : written_by limit name (says r) letters ≡ fasta_by limit name built.said =
      rw (built.answer, built.output) (written_said limit name before built.said) in
      let own : Converted (written_by limit name (says r) letters) out err q out' err' = rw is did in
      record { said = built.said; says = rw room at built.says; written = rw same at own }

  pub sole_written : {n k : ℕ} {out err out' err' : List ℕ} {q : Lengths} {w : Answer ℕ} → r ≡ Ok (Sole n k)
      → length out ≡ record_room limit
      → Writes name (take n letters) out w out'
      → Lined w err q err'
      → ToFasta limit card name out err q out' err'
  sole_written {n} {k} {out} is there did lined =
      let ls = take n letters in
      let wrote = answered (record_of name ls) out (writing name ls (length out)) did.bytes (λ m. writing_long name ls (length out)) (rw did.answer at lined) in
      by_answer_lem (Ok (Sole n k)) is (rw there at wrote)

  pub refusal_written : {x : Refusal} {out err err' : List ℕ} {q : Lengths} → r ≡ Err x → Lined (says (Err x)) err q err'
      → ToFasta limit card name out err q out err'
  refusal_written {x} {out} is lined =
      by_answer_lem (Err x) is (answered [] out (says (Err x)) refl (λ n e. absurd (given_not_refused (sym e))) lined)

  pub other_written : {a : BuildAnswer} {out err err' : List ℕ} {n : ℕ} → r ≡ Ok a → ((n k : ℕ) → a ≡ Sole n k → ⊥)
      → Put (verdict_by a letters) 0 err n err'
      → ToFasta limit card name out err (record { output = 0; errors = n }) out err'
  other_written {a} {out} is other put =
      by_answer_lem (Ok a) is (rw (other_by limit name letters a other) at (errors_written out put))
