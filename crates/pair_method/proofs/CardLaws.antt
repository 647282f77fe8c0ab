-- A pair card's lists, as the method takes them: the list has the entries of the card, and what is found is the verdict on it. Assumes
-- nothing.
use mathlib.Core.Path.{◌≡◌, refl, sym, ap, ◌∙◌}
use mathlib.Core.Logic.{◌⊎◌, inl, inr, ⊎_map, ⊎_elim}
use mathlib.Core.Bool.{cond}
use mathlib.Core.List.{List}
use Prim.Native.Nat.{ℕ, suc, ◌+◌, ◌*◌, ◌-◌, ◌/◌, ◌^◌, ◌≤◌, ◌<◌}
use native.Mathlib.Nat.{pow-le-pow_right}
use native.Mathlib.Omega.{arith}
use Rattle.std.specs.Prelude.{Option, Some, None}
use lib.Dec.{eqb}
use lib.ListN.{length, get_or, length-map}
use Rattle.base_lists.proofs.RowLaws.{length_row, map_row, row_at}
use Rattle.card_entries.specs.declared.Entry.{Entry}
use Rattle.card_entries.specs.declared.Places.TheVariants.{One, Two}
use Rattle.card_entries.specs.Entry.{entry_of}
use Rattle.card_entries.specs.Fault.{most_length, pair, no_place}
use Rattle.card_entries.specs.Bounds.{most_entries}
use Rattle.card_entries.specs.Slot.{slot_from, entries_in}
use Rattle.card_entries.specs.KindLists.{PairLists}
use Rattle.card_entries.proofs.HoldLaws.{some_letter, few_letters, some_entry, lists_fit, lists_pairs}
use Rattle.card_entries.proofs.Allowed.{pair_entry, pair_below}
use Rattle.card_entries.proofs.SlotLaws.{slot_from_lem}
use Rattle.base_lists.specs.Members.{In}
use Rattle.build_sequence.specs.Build.{Build}
use Rattle.build_sequence.specs.Many.{Many, how_many}
use Rattle.build_sequence.proofs.LetterLaws.{overlap_is, is_overlap, mask_tail}
use Rattle.build_sequence.proofs.ManyLaws.{many_none}
use Rattle.pair_theory.specs.Arranged.{HasPlace}
use Rattle.pair_theory.specs.Described.{Described}
use Rattle.pair_theory.specs.Settling.{pair_entries}
use Rattle.base_lists.proofs.Reindexed.{in_index}
use Rattle.pair_theory.proofs.Told.{found_worded, found_many, found_tells, none_tells}
use Rattle.pair_following.specs.Following.{nth, count_in, place_in, word_in, last_in, pairs_of, HoldsPairs}
use Rattle.pair_following.proofs.ExclusionLaws.{inside_of}
use Rattle.pair_following.proofs.Slots.{slot_of_lem}
use Rattle.pair_method.specs.Built.{FindsBuild}
use Rattle.pair_method.specs.PairMethod.{second_of, power_by, Gives}
use Rattle.pair_method.specs.CardList.{HasEntries, Entered}
use Rattle.pair_method.proofs.PlacesLaws.{allowed_two, two_allowed}

-- entry number e of the card
entry_at : (words ones twos : List ℕ) (e : ℕ) → e < length words → (d : Entry)
    → get_or (pair_entries (entries_in words ones twos)) e d
    ≡ record {
      word = get_or words e 0;
      places = cond (eqb (get_or twos e 0) no_place) (One (get_or ones e 0)) (Two (get_or ones e 0) (get_or twos e 0));
    }
entry_at words ones twos e h d =
    ap (λ (xs : List Entry). get_or xs e d) (map_row (entry_of pair) (slot_from words ones twos) 0 (length words))
    ∙ row_at (λ i. entry_of pair (slot_from words ones twos i)) d 0 (length words) e h
    ∙ ap (λ (i : ℕ). entry_of pair (slot_from words ones twos i)) (omega arith)
    ∙ ap (entry_of pair) (slot_from_lem words ones twos e)
    ∙ pair_entry (record { word = get_or words e 0; one = get_or ones e 0; two = get_or twos e 0 })

module _ {l : ℕ} {words ones twos : List ℕ} (k : PairLists l words ones twos) {card : List ℕ} (p : HasEntries words ones twos card) {mask : ℕ}
    (c : suc mask ≡ 4 ^ (l - 1)) where
  masks : mask + 1 ≡ 4 ^ (l - 1)
  masks = omega (arith, c)

  pub many : count_in card ≡ length words
  many = omega (arith, p.size)

  low : {e : ℕ} → e < count_in card → e < length words
  low h = rw many at h

  -- ---- the places of an entry

  module _ (e : ℕ) (h : e < length words) where
    -- each is a place of the card
    below : (q : ℕ) → (q ≡ nth ones e) ⊎ (q ≡ second_of (nth ones e) (nth twos e)) → q < length words
    below q x = pair_below (length words) (nth ones e) (nth twos e) q (lists_pairs k refl e h) (two_allowed (nth ones e) (nth twos e) q x)

    one_below : place_in card (2 * e) < count_in card
    one_below = omega (arith, p.one e h, many, below (nth ones e) (inl refl))

    two_below : place_in card (2 * e + 1) < count_in card
    two_below = omega (arith, p.two e h, many, below (second_of (nth ones e) (nth twos e)) (inr refl))

    stands_two : (q : ℕ) → (q ≡ nth ones e) ⊎ (q ≡ second_of (nth ones e) (nth twos e)) → HasPlace (pairs_of card mask) e q
    stands_two q x = ⊎_map (λ y. y ∙ sym (p.one e h)) (λ y. y ∙ sym (p.two e h)) x

    two_stands : (q : ℕ) → HasPlace (pairs_of card mask) e q → (q ≡ nth ones e) ⊎ (q ≡ second_of (nth ones e) (nth twos e))
    two_stands q x = ⊎_map (λ y. y ∙ p.one e h) (λ y. y ∙ p.two e h) x

  -- ---- the list

  pub card_of_lem : HoldsPairs card mask
  card_of_lem = record { inside = inside; words = λ e h. short e (low h); ones = (l - 1, masks) }
    where
      inside : (x : ℕ) → x < 2 * count_in card → place_in card x < count_in card
      inside x h =
          let e : x / 2 < length words = omega (arith, many) in
          ⊎_elim (λ y. rw y (one_below (x / 2) e)) (λ y. rw y (two_below (x / 2) e)) (slot_of_lem {x = x})

      short : (e : ℕ) → e < length words → word_in card e < 2 ^ 32
      short e h =
          let top : 4 ^ l ≤ 4 ^ most_length = pow-le-pow_right {n = 4} (omega arith) {i = l} {j = most_length} (few_letters k) in
          omega (arith, p.word e h, lists_fit k e h)

  -- what `link` asks
  pub link_asks : Entered words ones twos card
      → ((x : ℕ) → x < 2 * count_in card → place_in card x < count_in card) × ((t : ℕ) → t < count_in card → last_in card t ≡ 0)
  link_asks g = (card_of_lem.inside, λ t h. g.empty t (low h))

  described : Described l (pair_entries (entries_in words ones twos)) (pairs_of card mask)
  described =
      record {
        many = length-map (entries_in words ones twos) (entry_of pair) ∙ length_row (slot_from words ones twos) 0 (length words) ∙ sym many;
        some_entry = rw many (some_entry k);
        some_letter = some_letter k;
        inside = inside_of card_of_lem;
        fits = λ e h. rw (p.word e (low h)) (lists_fit k e (low h));
        word = λ d e h. ap (λ (x : Entry). x.word) (entry_at words ones twos e (low h) d) ∙ sym (p.word e (low h));
        allowed = λ d e q h a.
            stands_two e (low h) q (allowed_two (nth ones e) (nth twos e) q (rw (entry_at words ones twos e (low h) d) at a));
        allows_it = λ d e q h s.
            rw (entry_at words ones twos e (low h) d) (two_allowed (nth ones e) (nth twos e) q (two_stands e (low h) q s));
        meets = λ e f g h o. mask_tail l mask (word_in card e) masks ∙ overlap_is l (word_in card e) (word_in card f) o;
        met = λ e f g h o. is_overlap l (word_in card e) (word_in card f) (sym (mask_tail l mask (word_in card e) masks) ∙ o);
      }

  -- ---- the verdict

  pub gives : {ws : List ℕ} {choices : Option ℕ} → length ws ≡ length words → FindsBuild (pairs_of card mask) ws choices
      → Gives l (entries_in words ones twos) choices ws
  gives {ws} {choices} all b =
      record {
        worded = λ n h. found_worded described ws n (all ∙ sym many) (b.yes n h);
        told = λ n h. found_tells described ws n (all ∙ sym many) (b.yes n h);
        many = counted choices refl;
      }
    where
      counted : (o : Option ℕ) → choices ≡ o → Many (Build l (pair_entries (entries_in words ones twos))) (how_many (power_by o))
      counted (Some n) h = found_many described ws n (b.yes n h)
      counted None h = many_none (none_tells described (b.no h))

-- the lists of m entries have room in those of as many as a card may have
pub six_fit : {m : ℕ} → m ≤ most_entries → 6 * m ≤ 6 * most_entries
six_fit h = omega arith

-- the words of the card's entries have l letters
pub entry_fits : {l : ℕ} {words ones twos : List ℕ} → PairLists l words ones twos → (e : Entry) → In e (pair_entries (entries_in words ones twos))
    → e.word < 4 ^ l
entry_fits {l} {words} {ones} {twos} k e h =
    let u = in_index (record { word = 0; places = One 0 }) h in
    let low : u.0 < length words = omega (arith, u.1, many) in
    rw u.2 (rw (ap (λ (x : Entry). x.word) (entry_of_lem u.0 low)) (lists_fit k u.0 low))
  where
    many : length (pair_entries (entries_in words ones twos)) ≡ length words
    many = length-map (entries_in words ones twos) (entry_of pair) ∙ length_row (slot_from words ones twos) 0 (length words)

    entry_of_lem : (i : ℕ) → i < length words
        → get_or (pair_entries (entries_in words ones twos)) i (record { word = 0; places = One 0 })
        ≡ record {
          word = get_or words i 0;
          places = cond (eqb (get_or twos i 0) no_place) (One (get_or ones i 0)) (Two (get_or ones i 0) (get_or twos i 0));
        }
    entry_of_lem i g = entry_at words ones twos i g (record { word = 0; places = One 0 })
