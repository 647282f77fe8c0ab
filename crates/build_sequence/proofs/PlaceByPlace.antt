-- Entries that can stand in their places, said of each place.
--   PlaceByPlace l d i es   == the entry at t is allowed at i + t, and each word overlaps the next one; d is for places past the end
-- Assumes nothing.
use mathlib.Core.Path.{◌≡◌}
use mathlib.Core.Bool.{true}
use mathlib.Core.List.{List, [], ◌∷◌}
use mathlib.Core.Option.{Option, some}
use Prim.Native.Nat.{ℕ, zero, suc, ◌+◌, ◌<◌}
use native.Mathlib.Omega.{arith}
use lib.ListN.{length, get_or}
use Rattle.card_entries.specs.declared.Entry.{Entry}
use Rattle.card_entries.specs.Entry.{allows}
use Rattle.build_sequence.specs.Arrangement.{overlaps, follows, Standing, nobody, stands}

pub record PlaceByPlace (l : ℕ) (d : Entry) (i : ℕ) (es : List Entry) : Type 0 where
  pub allowed : (t : ℕ) → t < length es → allows (get_or es t d).places (i + t) ≡ true
  pub overlapping : (t : ℕ) → suc t < length es → overlaps l (get_or es t d).word (get_or es (suc t) d).word ≡ true

-- the first of some entries that stand after a word follows it
first_follows : {l i v : ℕ} (d : Entry) {es : List Entry} → Standing l i (some v) es → 0 < length es
    → overlaps l v (get_or es 0 d).word ≡ true
first_follows d nobody h = absurd (omega arith)
first_follows d (stands a f more) h = f

-- what stands stands at each place
pub standing_places : {l i : ℕ} {p : Option ℕ} (d : Entry) {es : List Entry} → Standing l i p es → PlaceByPlace l d i es
standing_places d nobody = record { allowed = λ t h. absurd (omega arith); overlapping = λ t h. absurd (omega arith) }
standing_places {l} {i} d (stands {e} {es} a f more) =
    let b = standing_places d more in record { allowed = at b; overlapping = on b }
  where
    at : PlaceByPlace l d (suc i) es → (t : ℕ) → t < suc (length es) → allows (get_or (e ∷ es) t d).places (i + t) ≡ true
    at b zero h = let z : i + 0 ≡ i = omega arith in rw z a
    at b (suc t) h = let z : i + suc t ≡ suc i + t = omega arith in rw z (b.allowed t (omega arith))

    on : PlaceByPlace l d (suc i) es → (t : ℕ) → suc t < suc (length es)
        → overlaps l (get_or (e ∷ es) t d).word (get_or es t d).word ≡ true
    on b zero h = first_follows d more (omega arith)
    on b (suc t) h = b.overlapping t (omega arith)

-- what can stand at each place stands
pub places_standing : {l i : ℕ} {p : Option ℕ} (d : Entry) (es : List Entry) → (0 < length es → follows l p (get_or es 0 d).word ≡ true)
    → PlaceByPlace l d i es
    → Standing l i p es
places_standing d [] f b = nobody
places_standing {l} {i} d (e ∷ es) f b =
    stands at_first (f (omega arith)) (places_standing d es (λ h. b.overlapping 0 (omega arith)) after)
  where
    at_first : allows e.places i ≡ true
    at_first = let z : i + 0 ≡ i = omega arith in rw z at (b.allowed 0 (omega arith))

    after : PlaceByPlace l d (suc i) es
    after =
        record {
          allowed = λ t h. let z : i + suc t ≡ suc i + t = omega arith in rw z at (b.allowed (suc t) (omega arith));
          overlapping = λ t h. b.overlapping (suc t) (omega arith);
        }
