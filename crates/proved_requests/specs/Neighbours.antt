-- Pair cards whose two places are neighbours, and the span cards that they become (request 12): "Fitters convert pair cards whose two
-- places are neighbours into span cards." The conversion is a claim and no operation.
--   Near s                    == the entry has one place, or p and p + 1
--   AllNear es                == each of the entries has
--   span_of s                 == the entry as one of a span card: one place p becomes the span from p to p
--   Converted es es'          == es' are the entries es of a pair card as entries of a span card
--   Spanned card card'        == a pair card, and the span card that it becomes
--   SameSaid before r after before' r' after'
--                             == the answers r and r' say one verdict, and the outputs, which were before and before', have its letters
--   span_format f             == the format of the span card that a pair card of the format f becomes
--   span_card card            == the bytes of that card
--   span_twos words ones twos == the places two of its entries, from the lists of the pair card; words and places one stay
-- Assumes nothing.
use Rattle.std.specs.Prelude.{◌≡◌, ◌⊎◌, cond, List, map, ℕ, ◌+◌, eqb}
use Rattle.base_answers.specs.Answer.{Answer, given}
use Rattle.card_entries.specs.declared.Format.{Format}
use Rattle.card_entries.specs.declared.Slot.{Slot}
use Rattle.card_entries.specs.Fault.{pair, span, no_place}
use Rattle.card_entries.specs.Slot.{entries_in}
use Rattle.card_layout.specs.Layout.{told_by, slot_of, slots_on}
use Rattle.card_layout.specs.Card.{card_of}
use Rattle.base_lists.specs.Members.{In}
use Rattle.build_sequence.specs.Verdict.{Verdict, settled}
use Rattle.build_card.specs.declared.BuildAnswer.{BuildAnswer}
use Rattle.build_card.specs.Building.{answer_of, letters_after}

-- "where each pair is one place, or p and p+1"
abbrev pub Near : Slot → Type 0
Near s = (s.two ≡ no_place) ⊎ (s.two ≡ s.one + 1)

abbrev pub AllNear : List Slot → Type 0
AllNear es = (s : Slot) → In s es → Near s

-- "with the same words and places"
abbrev pub span_of : Slot → Slot
span_of s = record { word = s.word; one = s.one; two = cond (eqb s.two no_place) s.one s.two }

pub record Converted (es es' : List Slot) : Type 0 where
  pub near : AllNear es
  pub same : es' ≡ map span_of es

-- "the span card with the same words and places"
pub record Spanned (card card' : List ℕ) : Type 0 where
  pub kind : (told_by card).kind ≡ pair
  pub kind' : (told_by card').kind ≡ span
  pub letters : (told_by card).l ≡ (told_by card').l
  pub entries : Converted (slots_on card) (slots_on card')

-- "the same verdict and sequence": one verdict, with placements 0 in the first answer and any in the second (a pair card's and its span
-- card's; for request 11, settling's and build's)
pub record SameSaid (before : List ℕ) (r : Answer BuildAnswer) (after before' : List ℕ) (r' : Answer BuildAnswer) (after' : List ℕ) : Type 0 where
  pub verdict : Verdict
  pub placements : ℕ
  pub answer : r ≡ answer_of (given (settled verdict 0))
  pub output : after ≡ letters_after (given (settled verdict 0)) before
  pub answer' : r' ≡ answer_of (given (settled verdict placements))
  pub output' : after' ≡ letters_after (given (settled verdict placements)) before'

-- ---- the span card itself

abbrev pub span_format : Format → Format
span_format f = record { kind = span; l = f.l; m = f.m }

abbrev pub span_card : List ℕ → List ℕ
span_card card = card_of (span_format (told_by card)) (λ e. span_of (slot_of card e))

abbrev pub span_twos : List ℕ → List ℕ → List ℕ → List ℕ
span_twos words ones twos = map (λ s. (span_of s).two) (entries_in words ones twos)
