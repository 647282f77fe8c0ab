-- The two ways to give an arrangement of a pair card: the entries in the order of their places, and the place of each entry.
--   blank             == an entry for places past the end
--   Placed c σ ws     == σ is an arrangement, and ws has the word of each entry at its place
--   Ordered l es c σ  == the same arrangement as σ, by the entries in order
-- Assumes nothing.
use mathlib.Core.Path.{◌≡◌, refl, sym, ap, ◌∙◌}
use mathlib.Core.Logic.{◌≢◌}
use mathlib.Core.Bool.{true}
use mathlib.Core.List.{List}
use Prim.Native.Nat.{ℕ, suc, ◌+◌, ◌<◌}
use native.Mathlib.Omega.{arith}
use lib.ListN.{length, get_or, get_or-map}
use Rattle.card_entries.specs.declared.Places.TheVariants.{One}
use Rattle.card_entries.specs.declared.Entry.{Entry}
use Rattle.card_entries.specs.Entry.{allows}
use Rattle.build_sequence.specs.Arrangement.{overlaps, Arrangement, words}
use Rattle.base_lists.proofs.ReorderedLaws.{reordered_length}
use Rattle.pair_theory.specs.Arranged.{Pairs, HasPlace, Goes, Arranged}
use Rattle.pair_theory.specs.Described.{Described}
use Rattle.base_lists.proofs.Pigeons.{OneToOne, reached}
use Rattle.pair_theory.proofs.Extends.{one_to_one, filled}
use Rattle.base_lists.proofs.Undone.{Undone, undone, undone_apart}
use Rattle.base_lists.proofs.Reindexed.{Reindexed, reordered_index, index_reordered}
use Rattle.base_lists.proofs.Listed.{listed, length_listed, get_d_listed}
use Rattle.build_sequence.proofs.PlaceByPlace.{PlaceByPlace, standing_places, places_standing}

abbrev pub blank : Entry
blank = record { word = 0; places = One 0 }

pub record Placed (c : Pairs) (σ : ℕ → ℕ) (ws : List ℕ) : Type 0 where
  pub arranged : Arranged c σ
  pub inside : (e : ℕ) → e < c.m → σ e < c.m
  pub has : (e : ℕ) → e < c.m → get_or ws (σ e) 0 ≡ c.word e

pub record Ordered (l : ℕ) (es : List Entry) (c : Pairs) (σ : ℕ → ℕ) : Type 0 where
  pub order : List Entry
  pub arrangement : Arrangement l es order
  pub placed : Placed c σ (words order)

-- ---- entries that are the same in both

-- entry e of es is the one at the place σ e of the order
record Matched (m : ℕ) (es order : List Entry) (σ : ℕ → ℕ) : Type 0 where
  many : length order ≡ m
  one_to_one : OneToOne m σ
  same : (e : ℕ) → e < m → get_or order (σ e) blank ≡ get_or es e blank

module _ {l : ℕ} {es order : List Entry} {c : Pairs} {σ : ℕ → ℕ} (d : Described l es c) (k : Matched c.m es order σ) where
  -- each entry has its word at its place
  word_same : (e : ℕ) → e < c.m → (get_or order (σ e) blank).word ≡ c.word e
  word_same e p = ap (λ x. x.word) (k.same e p) ∙ d.word blank e p

  -- and so in the list of the words
  words_same : (e : ℕ) → e < c.m → get_or (words order) (σ e) 0 ≡ c.word e
  words_same e p = get_or-map (λ x. x.word) order (σ e) blank ∙ word_same e p

  -- an arrangement with the words of the order
  matched_placed : Arranged c σ → Placed c σ (words order)
  matched_placed a = record { arranged = a; inside = k.one_to_one.inside; has = words_same }

  -- what can stand at each place is arranged
  places_arranged : PlaceByPlace l blank 0 order → Arranged c σ
  places_arranged b = record { allowed = allowed; goes = goes }
    where
      allowed : (e : ℕ) → e < c.m → HasPlace c e (σ e)
      allowed e p =
          let z : 0 + σ e ≡ σ e = omega arith in
          let h = b.allowed (σ e) (omega (arith, k.one_to_one.inside e p)) in
          d.allowed blank e (σ e) p (rw (z, k.same e p) at h)

      on : (e f : ℕ) → e < c.m → f < c.m → suc (σ e) ≡ σ f → c.tail e ≡ c.head f
      on e f p q h =
          let v = b.overlapping (σ e) (omega (arith, k.one_to_one.inside f q)) in
          let w : overlaps l (c.word e) (c.word f) ≡ true = rw (h, word_same e p, word_same f q) at v in
          d.meets e f p q w

      goes : (e f : ℕ) → e < c.m → f < c.m → e ≢ f → Goes c e (σ e) f (σ f)
      goes e f p q n = record { apart = λ h. n (k.one_to_one.apart e f p q h); on = on e f p q; back = on f e q p }

  -- what is arranged can stand at each place
  arranged_places : Arranged c σ → PlaceByPlace l blank 0 order
  arranged_places a = record { allowed = allowed; overlapping = overlapping }
    where
      allowed_at : (e : ℕ) → e < c.m → allows (get_or order (σ e) blank).places (0 + σ e) ≡ true
      allowed_at e p =
          let z : 0 + σ e ≡ σ e = omega arith in rw (z, k.same e p) (d.allows_it blank e (σ e) p (a.allowed e p))

      overlap_at : (e f : ℕ) → e < c.m → f < c.m → suc (σ e) ≡ σ f
          → overlaps l (get_or order (σ e) blank).word (get_or order (suc (σ e)) blank).word ≡ true
      overlap_at e f p q h =
          let n : e ≢ f = λ x. let z : σ e ≡ σ f = ap σ x in omega arith in
          rw (h, word_same e p, word_same f q) (d.met e f p q ((a.goes e f p q n).on h))

      allowed : (t : ℕ) → t < length order → allows (get_or order t blank).places (0 + t) ≡ true
      allowed t h = let r = reached c.m σ k.one_to_one t (omega arith) in rw r.2 at (allowed_at r.0 r.1)

      overlapping : (t : ℕ) → suc t < length order → overlaps l (get_or order t blank).word (get_or order (suc t) blank).word ≡ true
      overlapping t h =
          let r = reached c.m σ k.one_to_one t (omega arith) in
          let s = reached c.m σ k.one_to_one (suc t) (omega arith) in
          rw r.2 at (overlap_at r.0 s.0 r.1 s.1 (ap suc r.2 ∙ sym s.2))

-- ---- the place of each entry, from the order

-- each entry has a place in an order of the entries
reindexed_matched : {es order : List Entry} → length order ≡ length es → Reindexed blank es order
    → (σ : ℕ → ℕ) × Matched (length es) es order σ
reindexed_matched {es} {order} n x =
    let u = undone (length es) x.index (reached (length es) x.index x.apart) in (
      u.back,
      record {
        many = n;
        one_to_one = undone_apart u;
        same = λ e p. x.has (u.back e) (u.inside e p) ∙ ap (λ i. get_or es i blank) (u.there e p);
      },
    )

-- an order of the entries gives the place of each entry
pub arrangement_placed : {l : ℕ} {es order : List Entry} {c : Pairs} → Described l es c → Arrangement l es order
    → (σ : ℕ → ℕ) × Placed c σ (words order)
arrangement_placed {es} {order} {c} d a =
    let x = reindexed_matched (reordered_length a.each) (reordered_index blank a.each) in
    let k : Matched c.m es order x.0 = rw d.many at x.1 in
    (x.0, matched_placed d k (places_arranged d k (standing_places blank a.standing)))

-- ---- the order, from the place of each entry

module _ {l : ℕ} {es : List Entry} {c : Pairs} (d : Described l es c) (σ : ℕ → ℕ) (a : Arranged c σ) where
  -- the entry at each place
  at_places : Undone c.m σ
  at_places = undone c.m σ (filled c σ d.inside a)

  -- the entries by their places
  order_of : List Entry
  order_of = listed (λ t. get_or es (at_places.back t) blank) c.m

  -- what it has at each place
  order_has : (t : ℕ) → t < c.m → get_or order_of t blank ≡ get_or es (at_places.back t) blank
  unfolding order_of
  order_has t h = get_d_listed blank (λ t. get_or es (at_places.back t) blank) c.m t h

  -- it has all the places
  order_length : length order_of ≡ c.m
  unfolding order_of
  order_length = length_listed (λ t. get_or es (at_places.back t) blank) c.m

  -- it has each entry at its place
  order_matched : Matched c.m es order_of σ
  order_matched = record { many = order_length; one_to_one = o; same = same }
    where
      o : OneToOne c.m σ
      o = one_to_one c σ d.inside a

      same : (e : ℕ) → e < c.m → get_or order_of (σ e) blank ≡ get_or es e blank
      same e p =
          let u = at_places in
          let h = o.inside e p in
          let back : u.back (σ e) ≡ e = o.apart (u.back (σ e)) e (u.inside (σ e) h) p (u.there (σ e) h) in
          order_has (σ e) h ∙ ap (λ i. get_or es i blank) back

  -- each place has an entry of its own
  order_reindexed : Reindexed blank es order_of
  order_reindexed =
      record {
        index = at_places.back;
        apart = rw d.many (undone_apart at_places);
        has = λ t p. order_has t (omega (arith, d.many));
      }

  -- the place of each entry gives an order of the entries
  pub arranged_ordered : Ordered l es c σ
  arranged_ordered =
      record {
        order = order_of;
        arrangement = record {
          each = index_reordered blank es order_of (order_length ∙ sym d.many) order_reindexed;
          standing = places_standing blank order_of (λ h. refl) (arranged_places d order_matched a);
        };
        placed = matched_placed d order_matched a;
      }
