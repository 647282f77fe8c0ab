-- Going through the list of a place, a slot at a time. No contract cites this file. Assumes nothing.
use mathlib.Core.Path.{◌≡◌, sym, ap, ◌∙◌}
use mathlib.Core.List.{List}
use mathlib.Core.Logic.{◌≢◌, ◌⊎◌, inl, inr, ⊎_elim, by_cases}
use Prim.Native.Nat.{ℕ, ◌+◌, ◌-◌, ◌*◌, ◌/◌, ◌<◌, ◌≤◌}
use native.Mathlib.Omega.{arith}
use native.Mathlib.Decide.{ℕ_discrete}
use Rattle.pair_theory.specs.Arranged.{HasPlace}
use Rattle.pair_theory.specs.Chosen.{Seen, Possible}
use Rattle.pair_following.specs.Following.{nth, count_in, place_in, prev_in, last_in, pairs_of, Links}
use Rattle.pair_following.proofs.ExclusionLaws.{seen_next}

pub slot_of_lem : {x : ℕ} → (x ≡ 2 * (x / 2)) ⊎ (x ≡ 2 * (x / 2) + 1)
slot_of_lem {x} = by_cases (ℕ_discrete x (2 * (x / 2))) inl (λ d. inr (omega (arith, d)))

-- slot b − 1 is the next of the list of q; 0 is its end
pub record Listing (card : List ℕ) (q b : ℕ) : Type 0 where
  pub low : b ≤ 2 * count_in card
  pub here : 0 < b → place_in card (b - 1) ≡ q

module _ {card : List ℕ} (l : Links card) {q : ℕ} (qp : q < count_in card) where
  pub list_start : Listing card q (last_in card q)
  list_start = record { low = (l.top q qp).0; here = (l.top q qp).2 }

  -- before the last slot of the list there is none
  pub list_none : (mask f : ℕ) → f < count_in card → Seen (pairs_of card mask) q (last_in card q) f → ⊥
  list_none mask f fp (inl (x, y)) = (l.top q qp).1 (2 * f) y (omega arith) (sym x)
  list_none mask f fp (inr (x, y)) = (l.top q qp).1 (2 * f + 1) y (omega arith) (sym x)

module _ {card : List ℕ} (l : Links card) {q b : ℕ} (r : Listing card q b) (more : 0 < b) where
  pub slot_low : b - 1 < 2 * count_in card
  slot_low = omega (arith, r.low)

  pub list_entry : (b - 1) / 2 < count_in card
  list_entry = omega (arith, r.low)

  pub list_stands : (mask : ℕ) → HasPlace (pairs_of card mask) ((b - 1) / 2) q
  list_stands mask =
      ⊎_elim (λ x. inl (sym (r.here more) ∙ ap (place_in card) x)) (λ x. inr (sym (r.here more) ∙ ap (place_in card) x)) (slot_of_lem)

  pub list_more : Listing card q (prev_in card (b - 1))
  list_more =
      record {
        low = omega (arith, (l.next (b - 1) slot_low).0, r.low);
        here = λ x. (l.next (b - 1) slot_low).2 x ∙ r.here more;
      }

  pub list_less : prev_in card (b - 1) < b
  list_less = omega (arith, (l.next (b - 1) slot_low).0)

  gap : (y : ℕ) → prev_in card (b - 1) ≤ y → y < b - 1 → place_in card y ≢ q
  gap y p z x = (l.next (b - 1) slot_low).1 y p z (x ∙ sym (r.here more))

  pub list_next : (mask f : ℕ) → f < count_in card → Seen (pairs_of card mask) q (prev_in card (b - 1)) f
      → (f ≡ (b - 1) / 2) ⊎ Seen (pairs_of card mask) q b f
  list_next mask f fp z =
      ⊎_elim inl (λ y. inr (rw back at y))
      (seen_next (pairs_of card mask) (slot_of_lem) (λ g. gap (2 * g)) (λ g. gap (2 * g + 1)) f z)
    where
      back : (b - 1) + 1 ≡ b
      back = omega arith

-- ---- looking for an entry that can still come to stand at a place

-- the entries from slot b on cannot
pub record NoneFrom (card put : List ℕ) (q b : ℕ) : Type 0 where
  pub listing : Listing card q b
  pub none : (mask e : ℕ) → e < count_in card → Seen (pairs_of card mask) q b e → Possible (pairs_of card mask) (nth put) q e → ⊥

module _ {card put : List ℕ} (l : Links card) {q : ℕ} where
  pub none_start : q < count_in card → NoneFrom card put q (last_in card q)
  none_start qp = record { listing = list_start l qp; none = λ mask e p z. absurd (list_none l qp mask e p z) }

  pub none_more : {b : ℕ} → NoneFrom card put q b → 0 < b
      → ((mask : ℕ) → Possible (pairs_of card mask) (nth put) q ((b - 1) / 2) → ⊥) → NoneFrom card put q (prev_in card (b - 1))
  none_more r more x =
      record {
        listing = list_more l r.listing more;
        none = λ mask e p z y. ⊎_elim (λ h. x mask (rw h at y)) (λ h. r.none mask e p h y) (list_next l r.listing more mask e p z);
      }

pub none_end : {card put : List ℕ} {q b : ℕ} → NoneFrom card put q b → b ≤ 0 → (mask e : ℕ) → e < count_in card
    → Possible (pairs_of card mask) (nth put) q e → ⊥
none_end r h mask e p y = r.none mask e p (⊎_elim (λ x. inl (x, omega arith)) (λ x. inr (x, omega arith)) y.0) y
