-- Laws of building from a card that was admitted into lists: they hold, they have the card's entries, and what is answered from them is
-- what is answered from the card. Assumes nothing.
use mathlib.Core.Path.{◌≡◌, refl, ap, ◌∙◌}
use mathlib.Core.List.{List, []}
use Prim.Native.Nat.{ℕ, ◌+◌, ◌≤◌, ◌<◌}
use native.Mathlib.Omega.{arith}
use lib.ListN.{length, take}
use lib.Dec.{leb}
use borrow.Author.Tests.{le-leb, lt-leb, leb-true}
use Rattle.std.specs.Prelude.{Result, Ok, Err}
use Rattle.base_answers.specs.declared.Refusal.{Refusal}
use Rattle.base_answers.specs.Numbers.{Room}
use Rattle.base_answers.specs.Answer.{Answer, given, refused, first, sound, number_of, place_of, says}
use Rattle.base_lists.specs.Row.{row}
use Rattle.base_answers.proofs.Laws.{first_holds, first_refused, first_both, first_passed, first_last, first_fail}
use Rattle.base_answers.proofs.Only.{Only, none, also, only_append}
use Rattle.base_lists.proofs.RowLaws.{row_same}
use Rattle.card_entries.specs.declared.Format.{Format}
use Rattle.card_entries.specs.Slot.{slot_from, entries_in}
use Rattle.card_entries.specs.Bounds.{most_entries}
use Rattle.card_layout.specs.Layout.{told_by, slot_of, slots_on}
use Rattle.card_reader.specs.Reading.{reading_order}
use Rattle.card_reader.specs.Fetching.{admission}
use Rattle.card_reader.specs.Listing.{Listed}
use Rattle.card_reader.proofs.RefusalNumbers.{order_only}
use Rattle.card_reader.proofs.FetchingLaws.{admission_admits}
use Rattle.card_reader.proofs.ListingLaws.{listed_admitted, listed_words, listed_ones, listed_twos, listed_not_admitted}
use Rattle.card_entries.specs.Hold.{ListsHold}
use Rattle.card_reader.proofs.AdmittedLaws.{its_words, its_ones, its_twos, length_its, its_told, slot_same, format_same, its_hold}
use Rattle.build_card.specs.declared.BuildAnswer.{BuildAnswer}
use Rattle.build_card.specs.Building.{letters_in, build_tests, Means, tells, refuses, Builds}
use Rattle.build_card.specs.From.{InRoom, short, fits}

-- ---- the tests

module _ (limit : ℕ) (card : List ℕ) (room : ℕ) where
  pub reader_refuses : {n p : ℕ} → first (reading_order limit card) sound ≡ refused n p
      → first (build_tests limit card room) sound ≡ refused n p
  unfolding build_tests
  reader_refuses e = first_refused _ sound (reading_order limit card) e

  pub order_held : first (build_tests limit card room) sound ≡ given sound → first (reading_order limit card) sound ≡ given sound
  unfolding build_tests
  order_held e = (first_both _ sound (reading_order limit card) sound e).0

  pub room_held : first (build_tests limit card room) sound ≡ given sound → letters_in (told_by card) ≤ room
  unfolding build_tests
  room_held e =
      leb-true _ room (first_passed (leb _ room) Room 0 [] sound sound (first_both _ sound (reading_order limit card) sound e).1).0

  -- by which numbers they refuse: the reader's, and 12
  pub build_only : {P : ℕ → Type 0} → ((n : ℕ) → 0 < n → n ≤ Room → P n) → Only P (build_tests limit card room)
  unfolding build_tests
  build_only number =
      only_append (order_only (λ n above below. number n above (omega arith)) limit card) (also (number Room (omega arith) (omega arith)) none)

  module _ (e : first (reading_order limit card) sound ≡ given sound) where
    pub no_room : room < letters_in (told_by card) → first (build_tests limit card room) sound ≡ refused Room 0
    unfolding build_tests
    no_room h = first_holds _ sound (reading_order limit card) e ∙ first_fail (leb _ room) Room 0 [] sound (lt-leb _ room h)

    pub has_room : letters_in (told_by card) ≤ room → first (build_tests limit card room) sound ≡ given sound
    unfolding build_tests
    has_room h = first_holds _ sound (reading_order limit card) e ∙ first_last (leb _ room) Room 0 sound (le-leb _ room h)

-- ---- the lists of an admitted card

module _ (limit : ℕ) (card : List ℕ) {f : Format} (admitted : admission limit card ≡ given f) where
  -- they have the card's entries
  pub its_entries : entries_in (its_words limit card admitted) (its_ones limit card admitted) (its_twos limit card admitted) ≡ slots_on card
  its_entries =
      let slots = slot_from (its_words limit card admitted) (its_ones limit card admitted) (its_twos limit card admitted) in
      let same : row slots 0 f.m ≡ row (slot_of card) 0 f.m =
      row_same slots (slot_of card) 0 f.m (λ e h. let here : 0 + e ≡ e = omega arith in rw here (slot_same limit card admitted e h)) in
      ap (λ (n : ℕ). row slots 0 n) (length_its limit card admitted)
      ∙ same
      ∙ ap (λ (g : Format). row (slot_of card) 0 g.m) (its_told limit card admitted)

module _ {card words ones twos words' ones' twos' : List ℕ} {q : Result Format Refusal} {f : Format}
    (did : Listed most_entries card words ones twos (says q) words' ones' twos') (e : q ≡ Ok f) where
  told : says q ≡ given f
  told = ap says e

  admitted : admission most_entries card ≡ given f
  admitted = listed_admitted did told

  pub listed_few : f.m ≤ most_entries
  listed_few = let had = admission_admits most_entries card admitted in rw had.told had.head.most

  pub listed_hold : ListsHold most_entries f (take f.m words') (take f.m ones') (take f.m twos')
  listed_hold =
      rw (listed_words did told, listed_ones did told, listed_twos did told)
      (rw (format_same most_entries card admitted) at (its_hold most_entries card admitted))

  pub listed_entries : entries_in (take f.m words') (take f.m ones') (take f.m twos') ≡ slots_on card
  listed_entries = rw (listed_words did told, listed_ones did told, listed_twos did told) (its_entries most_entries card admitted)

  -- what is answered from the lists is answered from the card
  pub listed_builds : {budget : ℕ} {before after : List ℕ} {r : Answer BuildAnswer}
      → InRoom f (entries_in (take f.m words') (take f.m ones') (take f.m twos')) budget before r after
      → Builds most_entries card budget before r after
  listed_builds {before} (short h a o) =
      let had = admission_admits most_entries card admitted in
      record {
        said = refused Room 0;
        says = refuses (no_room most_entries card (length before) had.order (rw had.told at h));
        answer = a;
        output = o;
      }
  listed_builds {budget} {before} (fits {o} h means a out) =
      let had = admission_admits most_entries card admitted in
      let over : Means f.kind f.l (slots_on card) budget o = rw listed_entries at means in
      record {
        said = given o;
        says = tells (has_room most_entries card (length before) had.order (rw had.told at h)) (rw had.told at over);
        answer = a;
        output = out;
      }

-- a card that is not admitted is refused with the reader's refusal
pub refused_builds : {card words ones twos words' ones' twos' : List ℕ} {q : Result Format Refusal} {n : Refusal} {budget : ℕ} {before : List ℕ}
    → Listed most_entries card words ones twos (says q) words' ones' twos' → q ≡ Err n
    → most_entries ≤ length words → most_entries ≤ length ones → most_entries ≤ length twos
    → Builds most_entries card budget before (refused (number_of n) (place_of n)) before
refused_builds {card} {words} {ones} {twos} {words'} {ones'} {twos'} {n = n} {before = before} did e a b c =
    let said : Listed most_entries card words ones twos (refused (number_of n) (place_of n)) words' ones' twos' = rw e at did in
    record {
      said = refused (number_of n) (place_of n);
      says = refuses (reader_refuses most_entries card (length before) (listed_not_admitted said a b c));
      answer = refl;
      output = refl;
    }
