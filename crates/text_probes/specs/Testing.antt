-- The tests of a text (02, §2): "Refusals, with line from 1: 23 Text …, 24 Mixed …, 25 Uneven …, 26 Zero …; lowest line first, and in that
-- order within a line."
--   mark_of y             == the kind that the mark of a line asks for, 0 where it has none
--   known f xs           == the first of f x, for the lines x, that is not 0; or 0
--   outline_of xs         == what the lines xs say together: their mark; l, which "comes from the first word", as no word is empty; how many they are
--   line_tests s bs       == the tests of the line bs, where the lines before it have the outline s; `said_tests` are those after its text
--   text_tests bs         == the tests of the text bs
--   scanning bs          == what they answer: the outline, or the refusal
--   kind_of mark          == the kind of card: "A list with any comma is a pair card, with any hyphen a span card, with neither a pair card."
-- Assumes nothing.
use Rattle.std.specs.Prelude.{ℕ, ◌+◌, Bool, not, cond, ◌||◌, List, [], ◌∷◌, length, take, get_or, ltb, eqb}
use Rattle.base_answers.specs.Numbers.{Text, Mixed, Uneven, Zero}
use Rattle.base_answers.specs.Answer.{Answer, Test, test, first}
use Rattle.base_lists.specs.Row.{in_turn}
use Rattle.card_entries.specs.Fault.{pair, span}
use Rattle.text_probes.specs.declared.line.Marked.{Marked}
use Rattle.text_probes.specs.declared.line.Marked.TheVariants.{Bare, Two, Run}
use Rattle.text_probes.specs.declared.scanning.Outline.{Outline}
use Rattle.text_probes.specs.Line.{Line}
use Rattle.text_probes.specs.Lines.{lines_of, is_line, line_of, lines_in}

abbrev pub mark_of : Marked → ℕ
mark_of (Bare p) = 0
mark_of (Two p q) = pair
mark_of (Run p q) = span

abbrev pub has_zero : Marked → Bool
has_zero (Bare p) = eqb p 0
has_zero (Two p q) = eqb p 0 || eqb q 0
has_zero (Run p q) = eqb p 0 || eqb q 0

abbrev pub line_mark : Line → ℕ
line_mark x = mark_of x.listed

abbrev pub line_letters : Line → ℕ
line_letters x = length x.word

unfoldable pub known : (Line → ℕ) → List Line → ℕ
known f [] = 0
known f (x ∷ xs) = cond (eqb (f x) 0) (known f xs) (f x)

abbrev pub outline_of : List Line → Outline
outline_of xs = record { mark = known line_mark xs; l = known line_letters xs; m = length xs }

-- one of them is not there, or they are the same
abbrev pub agree : ℕ → ℕ → Bool
agree a b = eqb a 0 || (eqb b 0 || eqb a b)

-- of a word of so many letters, and what is listed after it
unfoldable pub said_tests : Outline → ℕ → Marked → List Test
said_tests s letters listed =
    test (agree s.mark (mark_of listed)) Mixed (s.m + 1)
    ∷ test (agree s.l letters) Uneven (s.m + 1)
    ∷ test (not (has_zero listed)) Zero (s.m + 1)
    ∷ []

unfoldable pub line_tests : Outline → List ℕ → List Test
line_tests s bs = test (is_line bs) Text (s.m + 1) ∷ said_tests s (line_letters (line_of bs)) (line_of bs).listed

-- the tests of line e, from 0
abbrev pub tests_at : List ℕ → ℕ → List Test
tests_at bs e = line_tests (outline_of (take e (lines_in bs))) (get_or (lines_of bs) e [])

unfoldable pub text_tests : List ℕ → List Test
text_tests bs = test (ltb 0 (length bs)) Text 1 ∷ in_turn (tests_at bs) 0 (length (lines_of bs))

abbrev pub scanning : List ℕ → Answer Outline
scanning bs = first (text_tests bs) (outline_of (lines_in bs))

abbrev pub kind_of : ℕ → ℕ
kind_of mark = cond (eqb mark span) span pair
