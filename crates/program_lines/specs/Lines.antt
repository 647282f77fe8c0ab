-- What the program `build` prints (01, the end of "Twelve small tables"). `limit` is the most entries that a card may have.
--   program_budget            == the budget that it builds with
--   letters_room limit        == the room that it lends for the letters: those of the longest sequence
--   kind_name kind            == `pair` or `span`
--   card_line f               == line 1, of a card of this format
--   verdict_line o            == line 2, of this outcome
--   lines_of f a              == all that is printed, where a is what is said of a card of this format
--   ReportsBy Says card bytes
--                            == what is printed for the card, where Says tells what is said of it
--   Reports limit card bytes == what `build` prints for the card
-- Assumes nothing.
use Rattle.std.specs.Prelude.{◌≡◌, cond, List, [], ◌∷◌, ◌++◌, map, ℕ, ◌+◌, ◌-◌, eqb}
use Rattle.base_answers.specs.Answer.{Answer, given, refused}
use Rattle.base_letters.specs.Letters.{letter_of}
use Rattle.card_entries.specs.declared.Format.{Format}
use Rattle.card_entries.specs.Fault.{pair, most_length}
use Rattle.card_layout.specs.Layout.{told_by}
use Rattle.build_sequence.specs.Verdict.{sole, several, no_build, Outcome, settled, unsettled}
use Rattle.build_card.specs.Building.{Says}
use Rattle.base_text.specs.Text.{ascii, decimal, line, refusal_line}

-- "uses budget 1,000,000"
abbrev pub program_budget : ℕ
program_budget = 1000000

-- "A build has m+l−1 letters": m is at most the limit, and l at most 12
abbrev pub letters_room : ℕ → ℕ
letters_room limit = limit + most_length - 1

-- "kind (`pair` or `span`)": an admitted card has one of the two kinds
unfoldable pub kind_name : ℕ → List ℕ
kind_name kind = cond (eqb kind pair) (ascii "pair") (ascii "span")

-- "Line 1: kind (`pair` or `span`), l, m."
unfoldable pub card_line : Format → List ℕ
card_line f = line (ascii "CARD") (kind_name f.kind ∷ decimal f.l ∷ decimal f.m ∷ [])

-- "Line 2: verdict, sequence, placements. Other second lines are `sole` with the same fields, and `none` or `unsettled` with placements."
unfoldable pub verdict_line : Outcome → List ℕ
verdict_line (settled (sole s) n) = line (ascii "sole") (map letter_of s ∷ decimal n ∷ [])
verdict_line (settled (several s) n) = line (ascii "several") (map letter_of s ∷ decimal n ∷ [])
verdict_line (settled no_build n) = line (ascii "none") (decimal n ∷ [])
verdict_line (unsettled n) = line (ascii "unsettled") (decimal n ∷ [])

unfoldable pub lines_of : Format → Answer Outcome → List ℕ
lines_of f (given o) = card_line f ++ verdict_line o
lines_of f (refused n p) = refusal_line n p

pub record ReportsBy (Says : Answer Outcome → Type 0) (card bytes : List ℕ) : Type 0 where
  pub said : Answer Outcome
  pub says : Says said
  pub printed : bytes ≡ lines_of (told_by card) said

-- "The program `build` reads one card from standard input, uses budget 1,000,000, and […] writes"
abbrev pub Reports : ℕ → List ℕ → List ℕ → Type 0
Reports limit card bytes = ReportsBy (Says limit card program_budget (letters_room limit)) card bytes
