-- A FASTA record (02, §1): "`>`, a name of 1 to 40 printable ASCII characters without spaces, a newline, then lines of 60 letters with the
-- last one shorter or full, each ended by a newline".
--   leading ok xs        == how many of xs stand before the first that is not ok: all of them where each is
--   are_all ok xs         == each of xs is ok
--   is_printable b        == the byte b is a printable ASCII character and no space
--   is_name name          == a name of the profile
--   are_letters ls        == there are letters, and nothing else
--   line_of ls i          == line i of the letters ls, from 0, with its end
--   lines_for n           == how many lines n letters have
--   in_lines ls           == the letters in lines
--   record_of name ls     == the record of a name and letters
-- Assumes nothing.
use Rattle.std.specs.Prelude.{Bool, ◌&&◌, cond, List, [], ◌∷◌, ◌++◌, ℕ, suc, ◌+◌, ◌*◌, ◌-◌, ◌/◌, length, take, drop, eqb, leb}
use Rattle.base_lists.specs.Row.{in_turn}
use Rattle.base_letters.specs.Letters.{is_letter}

abbrev pub newline : ℕ
newline = 10

-- "`>`"
abbrev pub mark : ℕ
mark = 62

-- "a name of 1 to 40"
abbrev pub least_name : ℕ
least_name = 1

abbrev pub most_name : ℕ
most_name = 40

-- "lines of 60 letters"
abbrev pub line_letters : ℕ
line_letters = 60

unfoldable pub leading : (ℕ → Bool) → List ℕ → ℕ
leading ok [] = 0
leading ok (x ∷ xs) = cond (ok x) (suc (leading ok xs)) 0

abbrev pub are_all : (ℕ → Bool) → List ℕ → Bool
are_all ok xs = eqb (leading ok xs) (length xs)

-- "printable ASCII characters without spaces": 21 to 7E hexadecimal
abbrev pub is_printable : ℕ → Bool
is_printable b = leb 33 b && leb b 126

unfoldable pub is_name : List ℕ → Bool
is_name name = leb least_name (length name) && (leb (length name) most_name && are_all is_printable name)

-- "capitals only"; "no letter at all counts" as one that is none
unfoldable pub are_letters : List ℕ → Bool
are_letters ls = leb 1 (length ls) && are_all is_letter ls

-- 60 letters, or those that are left
abbrev pub line_of : List ℕ → ℕ → List ℕ
line_of ls i = take line_letters (drop (line_letters * i) ls) ++ (newline ∷ [])

-- n / 60, rounded up
abbrev pub lines_for : ℕ → ℕ
lines_for n = (n + (line_letters - 1)) / line_letters

unfoldable pub in_lines : List ℕ → List ℕ
in_lines ls = in_turn (line_of ls) 0 (lines_for (length ls))

unfoldable pub record_of : List ℕ → List ℕ → List ℕ
record_of name ls = mark ∷ (name ++ (newline ∷ in_lines ls))
