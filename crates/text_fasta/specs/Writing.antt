-- Writing a record (02, §1): "Refusals, in this order: 20 Name …, 21 Letter with the count of letters before it …, 12."
--   letter_test ls                     == that ls are letters, and else 21 with the count of letters before the first that is none
--   writing name ls room              == what writing answers, where the output has `room` bytes: the record's length
--   Writes name ls before r after     == the answer r, and every byte of the output afterwards
-- Assumes nothing.
use Rattle.std.specs.Prelude.{◌≡◌, List, [], ◌∷◌, ℕ, length, leb}
use Rattle.base_answers.specs.Numbers.{Room, Name, Letter}
use Rattle.base_answers.specs.Answer.{Answer, Test, test, first, output_after}
use Rattle.base_letters.specs.Letters.{is_letter}
use Rattle.text_fasta.specs.Record.{leading, is_name, are_letters, record_of}

-- where ls is empty the count is 0: "no letter at all counts, at 0"
abbrev pub letter_test : List ℕ → Test
letter_test ls = test (are_letters ls) Letter (leading is_letter ls)

unfoldable pub writing : List ℕ → List ℕ → ℕ → Answer ℕ
writing name ls room =
    first
    (test (is_name name) Name 0 ∷ letter_test ls ∷ test (leb (length (record_of name ls)) room) Room 0 ∷ [])
    (length (record_of name ls))

pub record Writes (name ls before : List ℕ) (r : Answer ℕ) (after : List ℕ) : Type 0 where
  pub answer : r ≡ writing name ls (length before)
  pub bytes : after ≡ output_after (record_of name ls) before (writing name ls (length before))
