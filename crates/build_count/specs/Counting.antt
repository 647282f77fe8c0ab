-- How many builds a pair card has (request 12), from a card and from lists. `limit` is the most entries that a card may have.
--   count_tests kind ts       == the tests ts of the card or the lists, and then that of the kind
--   Counted ts kind l es a   == what is said of the entries es: how many builds they have, or the refusal
--   OfCard limit card a      == what is said of a card
--   OfLists limit kind l words ones twos a
--                            == what is said of lists
--   number_of a               == what is said, with the exponent as an option
--   Counts form Says r       == the answer r: what is said, which Says tells, in this form
-- Assumes nothing.
use Rattle.std.specs.Prelude.{◌≡◌, List, [], ◌∷◌, ◌++◌, ℕ, eqb, Option, Some, None}
use Rattle.base_answers.specs.Numbers.{Kind}
use Rattle.base_answers.specs.Answer.{Answer, given, refused, Test, test, first, sound}
use Rattle.card_entries.specs.declared.Slot.{Slot}
use Rattle.card_entries.specs.Slot.{entries_in}
use Rattle.card_entries.specs.Fault.{pair}
use Rattle.card_layout.specs.Layout.{told_by, slots_on}
use Rattle.card_reader.specs.Reading.{reading_order}
use Rattle.card_lists.specs.Lists.{lists_tests}
use Rattle.build_sequence.specs.Build.{Build}
use Rattle.build_sequence.specs.Many.{Many, Power, two_to, no_builds, how_many}
use Rattle.pair_theory.specs.Settling.{pair_entries}

-- "Refusals: 5 on a span card."
unfoldable pub count_tests : ℕ → List Test → List Test
count_tests kind ts = ts ++ (test (eqb kind pair) Kind 0 ∷ [])

-- "For every pair card also report how many builds it has". A build is a sequence, so "Two choices that only swap equal words are one build."
pub data Counted (ts : List Test) (kind l : ℕ) (es : List Slot) : Answer Power → Type 0 where
  tells : {p : Power} → first (count_tests kind ts) sound ≡ given sound → Many (Build l (pair_entries es)) (how_many p)
      → Counted ts kind l es (given p)
  refuses : {n q : ℕ} → first (count_tests kind ts) sound ≡ refused n q → Counted ts kind l es (refused n q)

abbrev pub OfCard : ℕ → List ℕ → Answer Power → Type 0
OfCard limit card = Counted (reading_order limit card) (told_by card).kind (told_by card).l (slots_on card)

abbrev pub OfLists : ℕ → ℕ → ℕ → List ℕ → List ℕ → List ℕ → Answer Power → Type 0
OfLists limit kind l words ones twos = Counted (lists_tests limit kind l words ones twos) kind l (entries_in words ones twos)

-- "the exponent is given, or that there is none"
abbrev pub number_of : Answer Power → Answer (Option ℕ)
number_of (given (two_to k)) = given (Some k)
number_of (given no_builds) = given None
number_of (refused n p) = refused n p

pub record Counts {R : Type 0} (form : Answer Power → R) (Says : Answer Power → Type 0) (r : R) : Type 0 where
  pub said : Answer Power
  pub says : Says said
  pub answer : r ≡ form said
