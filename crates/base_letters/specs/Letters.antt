-- The letters and their codes (01, "Numbers"): "kept in one table that serves both ways".
--   letters              == the table, in the order of the codes; "Alphabetical order is the order of the codes."
--   letter_of c           == the letter of the code c
--   searched c xs b      == where the byte b first stands in xs, whose first place is counted as c
--   code_of b             == the code that the byte b is the letter of, or that it is no letter
--   is_code r             == whether the reading r is a code
--   is_letter b           == whether the byte b is a letter
--   says_code r           == what an option of a code says
-- Assumes nothing.
use Rattle.std.specs.Prelude.{ℕ, suc, Bool, true, false, cond, List, [], ◌∷◌, get_or, eqb, Option, Some, None}

-- "Letters A, C, G, T have codes 0, 1, 2, 3"
abbrev pub codes : ℕ
codes = 4

unfoldable pub letters : List ℕ
letters = 65 ∷ 67 ∷ 71 ∷ 84 ∷ []

unfoldable pub letter_of : ℕ → ℕ
letter_of c = get_or letters c 0

-- the code of a byte, or none
pub data Reading : Type 0 where
  code : ℕ → Reading
  no_letter : Reading

unfoldable pub searched : ℕ → List ℕ → ℕ → Reading
searched c [] b = no_letter
searched c (x ∷ xs) b = cond (eqb x b) (code c) (searched (suc c) xs b)

unfoldable pub code_of : ℕ → Reading
code_of b = searched 0 letters b

abbrev pub is_code : Reading → Bool
is_code no_letter = false
is_code (code c) = true

abbrev pub is_letter : ℕ → Bool
is_letter b = is_code (code_of b)

abbrev pub says_code : Option ℕ → Reading
says_code (Some c) = code c
says_code None = no_letter
