-- What the demands speak of, over cards and what build answers on them.
--   Fits card s              == the sequence s is a build of the card
--   Passes card room         == nothing is refused of the card: it is admitted, and there is room for its sequence
--   PlacementsOf card budget k
--                            == an answer that settles the card under the budget may give k placements
--   Letters s before after   == the sequence s stands at the start of the output
--   Meant card budget before r after
--                            == what the answer r means, by its cases, with the output after it
--   sequence_in r after      == the sequence that the answer r gives, as it stands in the output
--   Widened card card'       == two cards as demand 3 takes them, the second of which allows more
--   HasBuild r, IsSeveral r, Settles r
--                            == the answer r gives a build, says that there are several, settles the card
-- Assumes nothing.
use Rattle.std.specs.Prelude.{◌≡◌, ◌⊎◌, List, [], ◌++◌, map, ℕ, ◌≤◌, ◌<◌, length, take, drop}
use Rattle.base_answers.specs.Answer.{Answer, given, refused, first, sound}
use Rattle.base_letters.specs.Letters.{letter_of}
use Rattle.card_entries.specs.Fault.{pair, span}
use Rattle.card_entries.specs.Bounds.{most_entries}
use Rattle.card_layout.specs.Layout.{told_by, slots_on, entries_on}
use Rattle.base_lists.specs.Members.{Paired}
use Rattle.build_sequence.specs.Build.{Build}
use Rattle.build_sequence.specs.Verdict.{sole, several, no_build, Tells, Widens}
use Rattle.span_theory.specs.Walk.{placements}
use Rattle.build_card.specs.declared.BuildAnswer.{BuildAnswer}
use Rattle.build_card.specs.declared.BuildAnswer.TheVariants.{Sole, Several, None, Unsettled}
use Rattle.build_card.specs.Building.{build_tests}

-- the sequence s is a build of the card (`Build`: what an arrangement of its entries spells)
abbrev pub Fits : List ℕ → List ℕ → Type 0
Fits card s = Build (told_by card).l (entries_on card) s

-- every test of build holds: the card is admitted, and there is "room for the sequence"
abbrev pub Passes : List ℕ → ℕ → Type 0
Passes card room = first (build_tests most_entries card room) sound ≡ given sound

-- "On span cards placements are that walk's, cut at the budget."; "On a pair card placements are 0"
pub record PlacementsOf (card : List ℕ) (budget k : ℕ) : Type 0 where
  pub on_spans : (told_by card).kind ≡ span → (k ≡ placements (told_by card).l (slots_on card)) × (k ≤ budget)
  pub on_pairs : (told_by card).kind ≡ pair → k ≡ 0

-- the letters of s stand at the start of the output, and its later bytes are as they were
abbrev pub Letters : List ℕ → List ℕ → List ℕ → Type 0
Letters s before after = after ≡ map letter_of s ++ drop (length s) before

-- ---- demands 1 and 2: the answers, by their cases

-- "Sole means exactly one sequence fits, several means two or more and gives the alphabetically first, none means none. Unsettled comes
-- only on span cards, exactly when the walk of 01 needs more placements than the budget."; "A refusal carries its number and place, and no
-- byte of a lent buffer differs after it."
abbrev pub Meant : List ℕ → ℕ → List ℕ → Answer BuildAnswer → List ℕ → Type 0
Meant card budget before (given (Sole n k)) after =
    Passes card (length before) × PlacementsOf card budget k
    × ((s : List ℕ) × Tells (Fits card) (sole s) × ((n ≡ length s) × Letters s before after))
Meant card budget before (given (Several n k)) after =
    Passes card (length before) × PlacementsOf card budget k
    × ((s : List ℕ) × Tells (Fits card) (several s) × ((n ≡ length s) × Letters s before after))
Meant card budget before (given (None k)) after =
    Passes card (length before) × PlacementsOf card budget k × (Tells (Fits card) no_build × (after ≡ before))
Meant card budget before (given (Unsettled k)) after =
    Passes card (length before)
    × ((((told_by card).kind ≡ span) × (k ≡ budget) × (budget < placements (told_by card).l (slots_on card))) × (after ≡ before))
Meant card budget before (refused n p) after =
    (first (build_tests most_entries card (length before)) sound ≡ refused n p) × (after ≡ before)

-- ---- demand 3

abbrev pub HasBuild : Answer BuildAnswer → Type 0
HasBuild r = (n : ℕ) × (k : ℕ) × ((r ≡ given (Sole n k)) ⊎ (r ≡ given (Several n k)))

abbrev pub IsSeveral : Answer BuildAnswer → Type 0
IsSeveral r = (n : ℕ) × (k : ℕ) × (r ≡ given (Several n k))

-- neither unsettled nor refused
abbrev pub Settles : Answer BuildAnswer → Type 0
Settles r = HasBuild r ⊎ ((k : ℕ) × (r ≡ given (None k)))

-- the letters that an answer gives stand at the start of the output
abbrev pub sequence_in : Answer BuildAnswer → List ℕ → List ℕ
sequence_in (given (Sole n k)) after = take n after
sequence_in (given (Several n k)) after = take n after
sequence_in (given (None k)) after = []
sequence_in (given (Unsettled k)) after = []
sequence_in (refused n p) after = []

-- "Take two admitted cards of one kind and word length whose entries pair off with equal words, every place allowed on the first being
-- allowed on the second"
pub record Widened (card card' : List ℕ) : Type 0 where
  pub kind : (told_by card).kind ≡ (told_by card').kind
  pub letters : (told_by card).l ≡ (told_by card').l
  pub entries : Paired Widens (entries_on card) (entries_on card')
