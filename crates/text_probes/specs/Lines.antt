-- The lines of a text.
--   lines_of xs           == the lines of the text xs, each with its newline, which the last one may lack
--   is_line xs            == xs is the text of a fine line
--   line_of xs            == the line that it is the text of; where it is none, a line of nothing
--   lines_in xs           == the lines of the text xs, read
--   line_in text e        == the line e of the text, from 0
-- Assumes nothing.
use Rattle.std.specs.Prelude.{ℕ, Bool, true, false, cond, List, [], ◌∷◌, map, get_or, eqb}
use Rattle.std.proofs.Math.Option.{Option, none, some}
use Rattle.text_probes.specs.declared.line.Marked.TheVariants.{Bare}
use Rattle.text_probes.specs.Line.{Line}
use Rattle.text_probes.specs.Reading.{newline, read_line}

-- the byte b before the first of some lines
abbrev pub joined : ℕ → List (List ℕ) → List (List ℕ)
joined b [] = (b ∷ []) ∷ []
joined b (x ∷ xs) = (b ∷ x) ∷ xs

unfoldable pub lines_of : List ℕ → List (List ℕ)
lines_of [] = []
lines_of (b ∷ bs) = cond (eqb b newline) ((b ∷ []) ∷ lines_of bs) (joined b (lines_of bs))

abbrev pub is_some : Option Line → Bool
is_some none = false
is_some (some x) = true

abbrev pub or_nothing : Option Line → Line
or_nothing none = record { word = []; listed = Bare 0 }
or_nothing (some x) = x

unfoldable pub is_line : List ℕ → Bool
is_line xs = is_some (read_line xs)

unfoldable pub line_of : List ℕ → Line
line_of xs = or_nothing (read_line xs)

abbrev pub lines_in : List ℕ → List Line
lines_in xs = map line_of (lines_of xs)

-- the line e of a text, from 0
abbrev pub line_in : List ℕ → ℕ → Line
line_in text e = get_or (lines_in text) e (line_of [])
