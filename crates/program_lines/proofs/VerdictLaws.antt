-- Laws of line 2: by an answer and the letters that it left, and by what is said of the card; that it is not the line of a refusal. No contract
-- cites this file. Assumes nothing.
use mathlib.Core.Path.{◌≡◌, refl, sym, ap}
use mathlib.Core.List.{List, ◌++◌, map}
use Prim.Native.Nat.{ℕ, ◌≤◌}
use Prim.Native.Char.{code}
use native.Mathlib.Omega.{arith}
use lib.ListN.{length, drop, length-append, length-map}
use Rattle.base_answers.specs.Answer.{Answer, given, refused}
use Rattle.base_answers.proofs.Laws.{given_not_refused}
use Rattle.base_letters.specs.Letters.{letter_of}
use Rattle.build_sequence.specs.Verdict.{sole, several, no_build, Outcome, settled, unsettled}
use Rattle.build_card.specs.declared.BuildAnswer.{BuildAnswer}
use Rattle.build_card.specs.Building.{answer_of, letters_after}
use Rattle.build_card.proofs.FromLaws.{letters_start}
use Rattle.base_text.specs.Text.{refusal_line}
use Rattle.base_text.specs.Putting.{Put}
use Rattle.base_text.proofs.RefusalLaws.{refusal_begins}
use Rattle.program_lines.specs.Lines.{verdict_line}
use Rattle.program_lines.specs.ByAnswer.{verdict_by, length_in}

-- ---- by each case of an answer

module _ {r a : BuildAnswer} (e : r ≡ a) where
  pub verdict_case : (letters : List ℕ) {at n : ℕ} {out after : List ℕ} → Put (verdict_by a letters) at out n after
      → Put (verdict_by r letters) at out n after
  verdict_case letters put = rw e put

  pub length_case : {n : ℕ} → length_in r ≤ n → length_in a ≤ n
  length_case fits = rw e at fits

-- ---- by what is said, with the letters at the start of the buffer

given_one : {a b : BuildAnswer} → ◌≡◌ {A = Answer BuildAnswer} (given a) (given b) → a ≡ b
given_one {a} e = ap got e
  where
    got : Answer BuildAnswer → BuildAnswer
    got (given b) = b
    got (refused n p) = a

letters_fit : (s before : List ℕ) → length s ≤ length (map letter_of s ++ drop (length s) before)
letters_fit s before = omega (arith, length-append (map letter_of s) (drop (length s) before), length-map s letter_of)

module _ (before : List ℕ) where
  pub verdict_said : (o : Outcome) {a : BuildAnswer} → answer_of (given o) ≡ given a
      → verdict_by a (letters_after (given o) before) ≡ verdict_line o
  unfolding verdict_line
  verdict_said (settled (sole s) n) e = rw (sym (given_one e), letters_start s before) refl
  verdict_said (settled (several s) n) e = rw (sym (given_one e), letters_start s before) refl
  verdict_said (settled no_build n) e = rw (sym (given_one e)) refl
  verdict_said (unsettled n) e = rw (sym (given_one e)) refl

  pub length_said : (a : Answer Outcome) {b : BuildAnswer} → answer_of a ≡ given b → length_in b ≤ length (letters_after a before)
  length_said (given (settled (sole s) n)) e = rw (sym (given_one e)) (letters_fit s before)
  length_said (given (settled (several s) n)) e = rw (sym (given_one e)) (letters_fit s before)
  length_said (given (settled no_build n)) e = rw (sym (given_one e)) (omega arith)
  length_said (given (unsettled n)) e = rw (sym (given_one e)) (omega arith)
  length_said (refused n p) e = absurd (given_not_refused (sym e))

-- ---- it is no refusal's line

pub verdict_other : (o : Outcome) (n p : ℕ) → verdict_line o ≡ refusal_line n p → ⊥
unfolding verdict_line
verdict_other (settled (sole s) k) n p e = let z : code "s" ≡ code "r" = refusal_begins n p e in omega arith
verdict_other (settled (several s) k) n p e = let z : code "s" ≡ code "r" = refusal_begins n p e in omega arith
verdict_other (settled no_build k) n p e = let z : code "n" ≡ code "r" = refusal_begins n p e in omega arith
verdict_other (unsettled k) n p e = let z : code "u" ≡ code "r" = refusal_begins n p e in omega arith
