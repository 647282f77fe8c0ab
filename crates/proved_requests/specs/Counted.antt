-- How many builds a pair card has (request 12): over cards, what the number means, and how it goes with build's verdict.
--   OnPairCard card          == the card is admitted, and is a pair card
--   NumberMeans card q       == the number q is true of the card
--   GoesWith q r             == the number q goes with the answer r of build
-- Assumes nothing.
use Rattle.std.specs.Prelude.{◌≡◌, List, ℕ, suc, ◌^◌, Option, Some, None}
use Rattle.base_answers.specs.Answer.{Answer, given, refused, first, sound}
use Rattle.card_entries.specs.Fault.{pair}
use Rattle.card_entries.specs.Bounds.{most_entries}
use Rattle.card_layout.specs.Layout.{told_by}
use Rattle.card_reader.specs.Reading.{reading_order}
use Rattle.build_sequence.specs.Many.{Many}
use Rattle.build_card.specs.declared.BuildAnswer.{BuildAnswer}
use Rattle.build_card.specs.declared.BuildAnswer.TheVariants as build
use Rattle.build_count.specs.Counting.{count_tests}
use Rattle.proved_demands.specs.Demanded.{Fits}

pub record OnPairCard (card : List ℕ) : Type 0 where
  pub admitted : first (reading_order most_entries card) sound ≡ given sound
  pub kind : (told_by card).kind ≡ pair

-- "For every pair card also report how many builds it has: the number is 0 or a power of two, and the exponent is given, or that there is
-- none. […] Refusals: 5 on a span card."
abbrev pub NumberMeans : List ℕ → Answer (Option ℕ) → Type 0
NumberMeans card (given (Some k)) = OnPairCard card × Many (Fits card) (2 ^ k)
NumberMeans card (given None) = OnPairCard card × ((s : List ℕ) → Fits card s → ⊥)
NumberMeans card (refused n p) =
    first (count_tests (told_by card).kind (reading_order most_entries card)) sound ≡ refused n p

-- sole exactly at 0, several exactly above, none where there is none
abbrev pub GoesWith : Answer (Option ℕ) → Answer BuildAnswer → Type 0
GoesWith q (given (build.Sole n j)) = q ≡ given (Some 0)
GoesWith q (given (build.Several n j)) = (k : ℕ) × (q ≡ given (Some (suc k)))
GoesWith q (given (build.None j)) = q ≡ given None
GoesWith q (given (build.Unsettled j)) = ⊥
GoesWith q (refused n p) = ⊥
