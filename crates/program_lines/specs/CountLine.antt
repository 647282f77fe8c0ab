-- What the program `count_builds` prints. `limit` is the most entries that a card may have.
--   line_by r                 == its line, by each case of what `build_count` answers
--   count_line a              == its line, where a is what is said of the card
--   CountReports limit card bytes
--                            == what is printed for the card
-- Assumes nothing.
use Rattle.std.specs.Prelude.{List, [], ◌∷◌, ◌++◌, ℕ, Option, Some, None}
use Rattle.base_answers.specs.Answer.{Answer, given, refused}
use Rattle.build_sequence.specs.Many.{Power}
use Rattle.build_count.specs.Counting.{OfCard, number_of, Counts}
use Rattle.base_text.specs.Text.{ascii, decimal, line, refusal_line}

-- "the number is 0 or a power of two, and the exponent is given, or that there is none"
abbrev pub line_by : Answer (Option ℕ) → List ℕ
line_by (given (Some k)) = line (ascii "builds") ((ascii "2^" ++ decimal k) ∷ [])
line_by (given None) = line (ascii "builds") (ascii "0" ∷ [])
line_by (refused n p) = refusal_line n p

abbrev pub count_line : Answer Power → List ℕ
count_line a = line_by (number_of a)

abbrev pub CountReports : ℕ → List ℕ → List ℕ → Type 0
CountReports limit card bytes = Counts count_line (OfCard limit card) bytes
