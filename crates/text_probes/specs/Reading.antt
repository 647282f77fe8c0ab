-- A line read from its bytes, from left to right. That it reads exactly the texts of fine lines is proofs/LineLaws.antt, `read_line_lem`.
--   Read A               == what was read, and the text that follows it
--   read_codes xs         == the codes of the letters at the start of the text xs, none where it begins with no letter
--   read_digits v xs      == the number v with the digits at the start of xs after its own, if it may be listed
--   read_number xs        == the number at the start of xs, if there is one that may be listed
--   read_listed xs        == what is listed at the start of xs
--   read_first xs         == the line at the start of xs
--   read_line xs          == the line that xs is the text of
-- Assumes nothing.
use Rattle.std.specs.Prelude.{ℕ, ◌+◌, ◌*◌, ◌-◌, Bool, cond, ◌&&◌, List, [], ◌∷◌, length, leb, ltb, eqb}
use Rattle.std.proofs.Math.Option.{Option, none, some}
use Rattle.base_letters.specs.Letters.{Reading, code, no_letter, code_of}
use Rattle.text_probes.specs.declared.line.Marked.{Marked}
use Rattle.text_probes.specs.declared.line.Marked.TheVariants.{Bare, Two, Run}
use Rattle.text_probes.specs.Line.{Line, most_number}

-- in ASCII
abbrev pub tab : ℕ
tab = 9

abbrev pub newline : ℕ
newline = 10

abbrev pub comma : ℕ
comma = 44

abbrev pub hyphen : ℕ
hyphen = 45

abbrev pub digit0 : ℕ
digit0 = 48

abbrev pub digit9 : ℕ
digit9 = 57

pub record Read (A : Type 0) : Type 0 where
  pub what : A
  pub rest : List ℕ

-- ---- letters

abbrev pub letters_from : Reading → List ℕ → Read (List ℕ) → Read (List ℕ)
letters_from no_letter xs later = record { what = []; rest = xs }
letters_from (code c) xs later = record { what = c ∷ later.what; rest = later.rest }

unfoldable pub read_codes : List ℕ → Read (List ℕ)
read_codes [] = record { what = []; rest = [] }
read_codes (b ∷ bs) = letters_from (code_of b) (b ∷ bs) (read_codes bs)

-- ---- numbers

abbrev pub is_digit : ℕ → Bool
is_digit b = leb digit0 b && leb b digit9

-- v with one digit more
abbrev pub next_value : ℕ → ℕ → ℕ
next_value v b = 10 * v + (b - digit0)

unfoldable pub read_digits : ℕ → List ℕ → Option (Read ℕ)
read_digits v [] = some (record { what = v; rest = [] })
read_digits v (b ∷ bs) =
    cond (is_digit b)
    (cond (leb (next_value v b) most_number) (read_digits (next_value v b) bs) none)
    (some (record { what = v; rest = b ∷ bs }))

-- no "needless leading zero": after 0 no digit is read
unfoldable pub read_number : List ℕ → Option (Read ℕ)
read_number [] = none
read_number (b ∷ bs) = cond (eqb b digit0) (some (record { what = 0; rest = bs })) (cond (is_digit b) (read_digits (b - digit0) bs) none)

-- ---- what is listed

-- a mark, and then another number
abbrev pub both_of : (ℕ → ℕ → Marked) → ℕ → Option (Read ℕ) → Option (Read Marked)
both_of mark p none = none
both_of mark p (some q) = some (record { what = mark p q.what; rest = q.rest })

-- what is listed where its first number is p
unfoldable pub read_marked : ℕ → List ℕ → Option (Read Marked)
read_marked p [] = some (record { what = Bare p; rest = [] })
read_marked p (b ∷ bs) =
    cond (eqb b comma) (both_of Two p (read_number bs))
    (cond (eqb b hyphen) (both_of Run p (read_number bs))
    (some (record { what = Bare p; rest = b ∷ bs })))

abbrev pub listed_from : Option (Read ℕ) → Option (Read Marked)
listed_from none = none
listed_from (some p) = read_marked p.what p.rest

unfoldable pub read_listed : List ℕ → Option (Read Marked)
read_listed xs = listed_from (read_number xs)

-- ---- a line

-- the text after the byte b, where it begins with that
unfoldable pub after : ℕ → List ℕ → Option (List ℕ)
after b [] = none
after b (x ∷ xs) = cond (eqb x b) (some xs) none

abbrev pub ended : Line → Option (List ℕ) → Option (Read Line)
ended x none = none
ended x (some rest) = some (record { what = x; rest = rest })

abbrev pub line_from : List ℕ → Option (Read Marked) → Option (Read Line)
line_from word none = none
line_from word (some y) = ended (record { word = word; listed = y.what }) (after newline y.rest)

abbrev pub tabbed : List ℕ → Option (List ℕ) → Option (Read Line)
tabbed word none = none
tabbed word (some rest) = line_from word (read_listed rest)

-- a word that is not empty, a tab, what is listed, and a newline
unfoldable pub read_first : List ℕ → Option (Read Line)
read_first xs = cond (ltb 0 (length (read_codes xs).what)) (tabbed (read_codes xs).what (after tab (read_codes xs).rest)) none

-- nothing follows
abbrev pub alone : Line → List ℕ → Option Line
alone x [] = some x
alone x (b ∷ bs) = none

abbrev pub whole_of : Option (Read Line) → Option Line
whole_of none = none
whole_of (some x) = alone x.what x.rest

unfoldable pub read_line : List ℕ → Option Line
read_line xs = whole_of (read_first xs)
