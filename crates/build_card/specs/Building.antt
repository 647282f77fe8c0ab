-- Build (01, "What can come back" and "What a build is"): a lent card, a budget, a lent output. `limit` is the most entries that a card may
-- have.
--   letters_in f                     == the letters of a build of a card of this format
--   build_tests limit card room      == the tests, in their order
--   Means kind l es budget o        == the outcome o is true of the entries es of a card of this kind, over all builds
--   Says limit card budget room a   == what is said of the card: an outcome that is true, or the refusal
--   answer_of a                      == that with the enum of the verdicts
--   letters_after a before           == the output afterwards, where it was `before`
--   Builds limit card budget before r after
--                                   == the answer r, and every byte of the output afterwards
-- Assumes nothing.
use Rattle.std.specs.Prelude.{◌≡◌, List, [], ◌∷◌, ◌++◌, map, ℕ, ◌+◌, ◌-◌, length, drop, leb}
use Rattle.base_answers.specs.Numbers.{Room}
use Rattle.base_answers.specs.Answer.{Answer, given, refused, Test, test, first, sound}
use Rattle.base_letters.specs.Letters.{letter_of}
use Rattle.card_entries.specs.declared.Format.{Format}
use Rattle.card_entries.specs.declared.Slot.{Slot}
use Rattle.card_entries.specs.Fault.{pair, span}
use Rattle.card_layout.specs.Layout.{told_by, slots_on}
use Rattle.card_reader.specs.Reading.{reading_order}
use Rattle.build_sequence.specs.Verdict.{sole, several, no_build, Outcome, settled, unsettled}
use Rattle.span_theory.specs.Settling as spans
use Rattle.pair_theory.specs.Settling as pairs
use Rattle.build_card.specs.declared.BuildAnswer.{BuildAnswer}
use Rattle.build_card.specs.declared.BuildAnswer.TheVariants.{Sole, Several, None, Unsettled}

-- "A build has m+l−1 letters"
abbrev pub letters_in : Format → ℕ
letters_in f = f.m + f.l - 1

-- the reading order; "Build then tests 12": "for build below m+l−1 bytes, whichever verdict would follow"
unfoldable pub build_tests : ℕ → List ℕ → ℕ → List Test
build_tests limit card room = reading_order limit card ++ (test (leb (letters_in (told_by card)) room) Room 0 ∷ [])

pub data Means (kind l : ℕ) (es : List Slot) (budget : ℕ) (o : Outcome) : Type 0 where
  on_pairs : kind ≡ pair → pairs.MeansPair l es o → Means kind l es budget o
  on_spans : kind ≡ span → spans.MeansSpan l es budget o → Means kind l es budget o

pub data Says (limit : ℕ) (card : List ℕ) (budget room : ℕ) : Answer Outcome → Type 0 where
  tells : {o : Outcome}
      → first (build_tests limit card room) sound ≡ given sound
      → Means (told_by card).kind (told_by card).l (slots_on card) budget o
      → Says limit card budget room (given o)
  refuses : {n p : ℕ} → first (build_tests limit card room) sound ≡ refused n p → Says limit card budget room (refused n p)

-- "Build answers Sole, Several, None, Unsettled or Refused, each with its own numbers. Sole and Several give the length and the placements
-- […] None gives the placements. Unsettled gives placements equal to the budget."
abbrev pub answer_of : Answer Outcome → Answer BuildAnswer
answer_of (given (settled (sole s) n)) = given (Sole (length s) n)
answer_of (given (settled (several s) n)) = given (Several (length s) n)
answer_of (given (settled no_build n)) = given (None n)
answer_of (given (unsettled n)) = given (Unsettled n)
answer_of (refused n p) = refused n p

-- "the letters stand at the start of the output and later bytes are untouched"; "None, Unsettled and Refused touch no output byte"
abbrev pub letters_after : Answer Outcome → List ℕ → List ℕ
letters_after (given (settled (sole s) n)) before = map letter_of s ++ drop (length s) before
letters_after (given (settled (several s) n)) before = map letter_of s ++ drop (length s) before
letters_after (given (settled no_build n)) before = before
letters_after (given (unsettled n)) before = before
letters_after (refused n p) before = before

pub record Builds (limit : ℕ) (card : List ℕ) (budget : ℕ) (before : List ℕ) (r : Answer BuildAnswer) (after : List ℕ) : Type 0 where
  pub said : Answer Outcome
  pub says : Says limit card budget (length before) said
  pub answer : r ≡ answer_of said
  pub output : after ≡ letters_after said before
