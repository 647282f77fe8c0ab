-- Reading a record (02, §1): "Read the same profile back". "Refusals, in this order: 20 Name (also a missing `>` or no newline after the
-- name), 21 Letter with the count of letters before it (no letter at all counts, at 0), 22 Line where a break is missing or stands elsewhere
-- than the rule puts it, 12." The order is that of tests of the whole record.
--   no_break b                 == the byte b is no newline
--   name_in r, name_length r    == the name of a record r, and its length: what stands after its first byte and before the next newline
--   is_headed r                == r begins with `>`, a name and a newline
--   body_in r                  == what follows the name's line
--   letters_in body            == the bytes of a body but the newlines
--   same xs ys                == whether two lists are equal
--   are_lines body             == the body is the lines of its own letters
--   reading r names letters   == what reading answers, where the outputs have so many bytes: the lengths of the name and of the letters
--   Reads r name letters a name' letters'
--                             == the answer a, and every byte of both outputs afterwards
-- Assumes nothing.
use Rattle.std.specs.Prelude.{◌≡◌, Bool, true, false, not, ◌&&◌, cond, List, [], ◌∷◌, ℕ, ◌+◌, length, get_or, take, drop, eqb, leb}
use Rattle.base_answers.specs.Numbers.{Room, Name, Line}
use Rattle.base_answers.specs.Answer.{Answer, test, first, output_after}
use Rattle.text_fasta.specs.Record.{newline, mark, leading, is_name, in_lines}
use Rattle.text_fasta.specs.Writing.{letter_test}

abbrev pub no_break : ℕ → Bool
no_break b = not (eqb b newline)

unfoldable pub name_length : List ℕ → ℕ
name_length r = leading no_break (drop 1 r)

abbrev pub name_in : List ℕ → List ℕ
name_in r = take (name_length r) (drop 1 r)

unfoldable pub is_headed : List ℕ → Bool
is_headed r = eqb (get_or r 0 0) mark && (is_name (name_in r) && eqb (get_or r (name_length r + 1) 0) newline)

abbrev pub body_in : List ℕ → List ℕ
body_in r = drop (name_length r + 2) r

unfoldable pub letters_in : List ℕ → List ℕ
letters_in [] = []
letters_in (x ∷ xs) = cond (no_break x) (x ∷ letters_in xs) (letters_in xs)

unfoldable pub same : List ℕ → List ℕ → Bool
same [] [] = true
same [] (y ∷ ys) = false
same (x ∷ xs) [] = false
same (x ∷ xs) (y ∷ ys) = eqb x y && same xs ys

unfoldable pub are_lines : List ℕ → Bool
are_lines body = same body (in_lines (letters_in body))

unfoldable pub reading : List ℕ → ℕ → ℕ → Answer (ℕ × ℕ)
reading r names letters =
    let ls = letters_in (body_in r) in
    first
    (test (is_headed r) Name 0
    ∷ letter_test ls
    ∷ test (are_lines (body_in r)) Line 0
    ∷ test (leb (length (name_in r)) names) Room 0
    ∷ test (leb (length ls) letters) Room 0
    ∷ [])
    (length (name_in r), length ls)

pub record Reads (r name letters : List ℕ) (a : Answer (ℕ × ℕ)) (name' letters' : List ℕ) : Type 0 where
  pub answer : a ≡ reading r (length name) (length letters)
  pub in_name : name' ≡ output_after (name_in r) name (reading r (length name) (length letters))
  pub in_letters : letters' ≡ output_after (letters_in (body_in r)) letters (reading r (length name) (length letters))
