-- The laws of admitting into lent lists that this crate's proofs and the crates above cite. No contract cites this file. Assumes nothing.
use mathlib.Core.Path.{◌≡◌, refl, sym, ap, ◌∙◌}
use mathlib.Core.Bool.{true, false, ◌&&◌}
use mathlib.Core.List.{List, [], ◌∷◌, ◌++◌}
use Prim.Native.Nat.{ℕ, suc, ◌+◌, ◌≤◌, ◌<◌}
use native.Mathlib.Numerals.{add-one}
use native.Mathlib.Omega.{arith}
use lib.ListN.{length, take, drop, set}
use lib.Seq.{drop-cons, set_at, append_snoc, take_at}
use lib.Dec.{leb}
use borrow.Author.Tests.{le-leb, lt-leb, leb-true}
use Rattle.base_answers.specs.Numbers.{Room}
use Rattle.base_answers.specs.Answer.{Answer, given, refused, Sound, sound, first}
use Rattle.base_lists.specs.Row.{row}
use Rattle.base_answers.proofs.Laws.{first_fail, first_last, first_holds, first_passed, first_refused}
use Rattle.base_answers.proofs.Laws.{first_both, first_value, first_given_any, given_not_refused, refusal_same}
use Rattle.base_lists.proofs.RowLaws.{length_row, row_none, row_more}
use Rattle.base_lists.proofs.TestLaws.{both}
use Rattle.card_block.specs.Bytes.{AreBytes}
use Rattle.card_entries.specs.declared.Format.{Format}
use Rattle.card_layout.specs.Layout.{told_by, slot_of}
use Rattle.card_reader.specs.Reading.{reading_order}
use Rattle.card_reader.specs.Fetching.{admission}
use Rattle.card_reader.specs.Listing.{has_room, list_tests, listing, filled, Listed}
use Rattle.card_reader.proofs.FetchingLaws.{Admits, order_admits, admission_given, admission_refused, order_refused, admission_admits, told_admitted, told_not_admitted}

-- ---- a list that is filled from the front

-- one more of a row, over a list
row_set : (f : ℕ → ℕ) (before : List ℕ) (e : ℕ) → e < length before
    → set (row f 0 e ++ drop e before) e (f e) ≡ row f 0 (suc e) ++ drop (suc e) before
row_set f before e h =
    let same : 0 + e ≡ e = omega arith in
    let longer : row f 0 (suc e) ≡ row f 0 e ++ (f e ∷ []) = rw (row_more f 0 e, same) in
    ap (λ (l : List ℕ). set (row f 0 e ++ l) e (f e)) (drop-cons before e 0 h)
    ∙ set_at (row f 0 e) _ _ (f e) e (length_row f 0 e)
    ∙ sym (ap (λ (l : List ℕ). l ++ drop (suc e) before) longer ∙ append_snoc (row f 0 e) (f e) (drop (suc e) before))

module _ (number_of : ℕ → ℕ) (before : List ℕ) where
  pub filled_none : before ≡ filled number_of 0 before
  unfolding filled
  filled_none = rw (row_none number_of 0)

  -- the turn that writes the number of entry e
  pub filled_turn : (e : ℕ) {l : List ℕ} {x : ℕ} → e < length before → l ≡ filled number_of e before → x ≡ number_of e
      → set l e x ≡ filled number_of (e + 1) before
  unfolding filled
  filled_turn e {l} {x} h el ex =
      ap (λ (xs : List ℕ). set xs e x) el
      ∙ ap (λ (y : ℕ). set (row number_of 0 e ++ drop e before) e y) ex
      ∙ rw add-one (row_set number_of before e h)

  -- all entries are written
  pub filled_whole : (e m : ℕ) {l : List ℕ} → e ≡ m → l ≡ filled number_of e before → l ≡ filled number_of m before
  filled_whole e m h el = el ∙ ap (λ (n : ℕ). filled number_of n before) h

-- ---- room

-- what room there is where the test holds
pub record Fits (m words ones twos : ℕ) : Type 0 where
  pub in_words : m ≤ words
  pub in_ones : m ≤ ones
  pub in_twos : m ≤ twos

pub room_fits : (m words ones twos : ℕ) → has_room m words ones twos ≡ true → Fits m words ones twos
room_fits m words ones twos e =
    let h = both (leb m words && leb m ones) (leb m twos) e in
    let g = both (leb m words) (leb m ones) h.0 in
    record { in_words = leb-true m words g.0; in_ones = leb-true m ones g.1; in_twos = leb-true m twos h.1 }

pub fits_room : (m words ones twos : ℕ) → Fits m words ones twos → has_room m words ones twos ≡ true
fits_room m words ones twos has =
    rw (le-leb m words has.in_words, le-leb m ones has.in_ones) (le-leb m twos has.in_twos)

-- ---- the three outcomes

module _ (limit : ℕ) (card words ones twos : List ℕ) where
  listing_refused : {n p : ℕ} → admission limit card ≡ refused n p → listing limit card words ones twos ≡ refused n p
  unfolding listing list_tests
  listing_refused e = first_refused _ _ (reading_order limit card) (order_refused limit card e)

  -- nothing is written where the answer is a refusal
  untouched : {n p : ℕ} → AreBytes card → listing limit card words ones twos ≡ refused n p
      → Listed limit card words ones twos (refused n p) words ones twos
  untouched bytes e = record { of_bytes = bytes; answer = sym e; in_words = rw e; in_ones = rw e; in_twos = rw e }

  pub listed_refused : {n p : ℕ} → AreBytes card → admission limit card ≡ refused n p
      → Listed limit card words ones twos (refused n p) words ones twos
  listed_refused bytes e = untouched bytes (listing_refused e)

  module _ {f : Format} (bytes : AreBytes card) (has : Admits limit card f) where
    pub listed_no_room : has_room f.m (length words) (length ones) (length twos) ≡ false
        → Listed limit card words ones twos (refused Room 0) words ones twos
    unfolding listing list_tests
    listed_no_room h = untouched bytes (first_holds _ _ _ has.order ∙ first_fail _ _ _ _ _ (rw has.told at h))

    listing_given : has_room f.m (length words) (length ones) (length twos) ≡ true → listing limit card words ones twos ≡ given f
    unfolding listing list_tests
    listing_given h = first_holds _ _ _ has.order ∙ first_last _ _ _ _ (rw has.told at h) ∙ ap given (sym has.told)

    pub listed_filled : {words' ones' twos' : List ℕ} → has_room f.m (length words) (length ones) (length twos) ≡ true
        → words' ≡ filled (λ e. (slot_of card e).word) f.m words
        → ones' ≡ filled (λ e. (slot_of card e).one) f.m ones
        → twos' ≡ filled (λ e. (slot_of card e).two) f.m twos
        → Listed limit card words ones twos (given f) words' ones' twos'
    listed_filled h w o t =
        let e = listing_given h in
        record { of_bytes = bytes; answer = sym e; in_words = rw e w; in_ones = rw e o; in_twos = rw e t }

-- ---- what the lists hold once a card is admitted into them

-- the numbers at the start of a list that was filled
pub filled_start : (number_of : ℕ → ℕ) (m : ℕ) (before : List ℕ) → take m (filled number_of m before) ≡ row number_of 0 m
unfolding filled
filled_start number_of m before = take_at (row number_of 0 m) (drop m before) m (length_row number_of 0 m)

-- a card that is admitted is listed where there is room
pub listed_given : {limit : ℕ} {card words ones twos words' ones' twos' : List ℕ} {r : Answer Format} {f : Format}
    → Listed limit card words ones twos r words' ones' twos' → admission limit card ≡ given f
    → Fits f.m (length words) (length ones) (length twos) → r ≡ given f
listed_given {limit} {card} {words} {ones} {twos} {f = f} did e has =
    let room = fits_room f.m (length words) (length ones) (length twos) has in
    did.answer ∙ listing_given limit card words ones twos did.of_bytes (admission_admits limit card e) room

module _ {limit : ℕ} {card words ones twos words' ones' twos' : List ℕ} {r : Answer Format} {f : Format}
    (did : Listed limit card words ones twos r words' ones' twos') (said : r ≡ given f) where
  listing_said : listing limit card words ones twos ≡ given f
  listing_said = sym did.answer ∙ said

  pub listed_admitted : admission limit card ≡ given f
  unfolding admission listing list_tests
  listed_admitted =
      let parts = first_both _ _ (reading_order limit card) _ listing_said in
      first_given_any (reading_order limit card) sound sound (told_by card) parts.0
      ∙ ap given (first_value (list_tests limit card words ones twos) (told_by card) f listing_said)

  -- it was listed where there was room
  pub listed_fits : Fits f.m (length words) (length ones) (length twos)
  unfolding listing list_tests
  listed_fits =
      let told = first_value (list_tests limit card words ones twos) (told_by card) f listing_said in
      let room = (first_passed _ _ _ _ _ _ (first_both _ _ (reading_order limit card) _ listing_said).1).0 in
      room_fits f.m (length words) (length ones) (length twos) (rw told at room)

  pub listed_words : take f.m words' ≡ row (λ e. (slot_of card e).word) 0 f.m
  listed_words = ap (take f.m) (rw listing_said at did.in_words) ∙ filled_start (λ e. (slot_of card e).word) f.m words

  pub listed_ones : take f.m ones' ≡ row (λ e. (slot_of card e).one) 0 f.m
  listed_ones = ap (take f.m) (rw listing_said at did.in_ones) ∙ filled_start (λ e. (slot_of card e).one) f.m ones

  pub listed_twos : take f.m twos' ≡ row (λ e. (slot_of card e).two) 0 f.m
  listed_twos = ap (take f.m) (rw listing_said at did.in_twos) ∙ filled_start (λ e. (slot_of card e).two) f.m twos

-- where there is room for as many entries as a card may have, a refusal is the reader's
pub listed_not_admitted : {limit : ℕ} {card words ones twos words' ones' twos' : List ℕ} {n p : ℕ}
    → Listed limit card words ones twos (refused n p) words' ones' twos'
    → limit ≤ length words → limit ≤ length ones → limit ≤ length twos
    → first (reading_order limit card) sound ≡ refused n p
listed_not_admitted {limit} {card} {words} {ones} {twos} {n = n} {p = p} did a b c = go (first (reading_order limit card) sound) refl
  where
    go : (t : Answer Sound) → first (reading_order limit card) sound ≡ t
        → first (reading_order limit card) sound ≡ refused n p
    go (refused k q) e = e ∙ refusal_same (sym (listing_refused limit card words ones twos (admission_refused limit card e)) ∙ sym did.answer)
    go (given sound) e =
        let had = order_admits e in
        let fits : Fits (told_by card).m (length words) (length ones) (length twos) =
        record {
          in_words = omega (arith, had.head.most, a);
          in_ones = omega (arith, had.head.most, b);
          in_twos = omega (arith, had.head.most, c);
        } in
        absurd (given_not_refused (sym (listed_given did (admission_given limit card e) fits)))

-- ---- what the check applies by itself

-- to a list that is filled, and to an admission into lists
pub ruleset fills = (filled_none, filled_turn, filled_whole)

pub ruleset listings = (told_admitted, told_not_admitted, room_fits, listed_refused, listed_no_room, listed_filled)
