-- Narrow span cards settled without a budget (request 11), over cards.
--   SettlesCard card before r after
--                            == what `build_narrow::settle_card` promises: r is its answer on the card, and `after` the output, which was `before`
--   OnNarrowCard card room   == nothing is refused of the card: it is admitted, its sequence has room, it is a span card, and its spans are
--                               narrow
--   FirstWide card e         == the entry e of the card has a span that is not narrow, and each entry before it has one that is
-- Assumes nothing.
use Rattle.std.specs.Prelude.{◌≡◌, true, false, List, ℕ, ◌≤◌, ◌<◌, length}
use Rattle.base_answers.specs.Answer.{Answer, given, first, sound}
use Rattle.card_entries.specs.Fault.{span}
use Rattle.card_entries.specs.Bounds.{most_entries}
use Rattle.card_layout.specs.Layout.{told_by, slot_of, slots_on}
use Rattle.card_reader.specs.Reading.{reading_order}
use Rattle.span_layers.specs.Narrow.{is_narrow, Narrow}
use Rattle.build_card.specs.declared.BuildAnswer.{BuildAnswer}
use Rattle.build_card.specs.Building.{letters_in, answer_of}
use Rattle.build_narrow.specs.Settling.{OfCard, SettlesInto}

abbrev pub SettlesCard : List ℕ → List ℕ → Answer BuildAnswer → List ℕ → Type 0
SettlesCard card before r after = SettlesInto answer_of (OfCard most_entries card (length before)) before r after

-- "Labs with good stages give spans at most 4 wide […] Add a separate call for such cards"
pub record OnNarrowCard (card : List ℕ) (room : ℕ) : Type 0 where
  pub admitted : first (reading_order most_entries card) sound ≡ given sound
  pub room_for : letters_in (told_by card) ≤ room
  pub kind : (told_by card).kind ≡ span
  pub narrow : Narrow (slots_on card)

-- "the first entry over 4"
pub record FirstWide (card : List ℕ) (e : ℕ) : Type 0 where
  pub there : e < (told_by card).m
  pub wide : is_narrow (slot_of card e) ≡ false
  pub earlier : (i : ℕ) → i < e → is_narrow (slot_of card i) ≡ true
