-- Laws of second places that are missing, filled with the first. Assumes nothing.
use mathlib.Core.Path.{◌≡◌, refl, ap, ◌∙◌}
use mathlib.Core.Bool.{cond}
use mathlib.Core.List.{List, [], ◌∷◌, ◌++◌, append-nil}
use Prim.Native.Nat.{ℕ, zero, suc, ◌+◌, ◌≤◌, ◌<◌}
use native.Mathlib.Numerals.{add-one}
use native.Mathlib.Omega.{arith}
use lib.ListN.{length, get_or, take, drop, set, drop_of_length-le}
use lib.Seq.{take_all}
use lib.Dec.{eqb}
use borrow.Author.Tests.{eq-eqb, ne_eqb}
use Rattle.card_entries.specs.Fault.{no_place}
use Rattle.text_probes.specs.Keeping.{closed}

-- the first e are closed, the others as they were
pub record Closed (ones before : List ℕ) (e : ℕ) (twos : List ℕ) : Type 0 where
  pub within : e ≤ length before
  pub stands : twos ≡ take e (closed ones before) ++ drop e before

pub closed_length : (ones before : List ℕ) → length before ≡ length ones → length (closed ones before) ≡ length before
closed_length [] [] h = refl
closed_length [] (q ∷ qs) h = absurd (omega arith)
closed_length (p ∷ ps) [] h = refl
closed_length (p ∷ ps) (q ∷ qs) h = ap suc (closed_length ps qs (omega arith))

-- slot e, and what it becomes
slot_is : (ones before : List ℕ) (e : ℕ) → length before ≡ length ones → e < length before
    → (get_or (take e (closed ones before) ++ drop e before) e 0 ≡ get_or before e 0)
    × (set (take e (closed ones before) ++ drop e before) e (cond (eqb (get_or before e 0) no_place) (get_or ones e 0) (get_or before e 0))
    ≡ take (suc e) (closed ones before) ++ drop (suc e) before)
slot_is [] before e h g = absurd (omega arith)
slot_is (p ∷ ps) [] e h g = absurd (omega arith)
slot_is (p ∷ ps) (q ∷ qs) zero h g = (refl, refl)
slot_is (p ∷ ps) (q ∷ qs) (suc e) h g =
    let rest = slot_is ps qs e (omega arith) (omega arith) in
    (rest.0, ap (λ (l : List ℕ). cond (eqb q no_place) p q ∷ l) rest.1)

module _ {ones before : List ℕ} (same : length before ≡ length ones) {e : ℕ} {twos : List ℕ} (so_far : Closed ones before e twos) where
  module _ (h : e < length before) where
    here : get_or twos e 0 ≡ get_or before e 0
    here = ap (λ (l : List ℕ). get_or l e 0) so_far.stands ∙ (slot_is ones before e same h).0

    closed_turn : {v : ℕ} → v ≡ cond (eqb (get_or twos e 0) no_place) (get_or ones e 0) (get_or twos e 0) → Closed ones before (e + 1) (set twos e v)
    closed_turn is =
        let put = rw here at is in
        record { within = omega arith; stands = rw (add-one e) (rw put (rw so_far.stands (slot_is ones before e same h).1)) }

    pub closed_filled : get_or twos e 0 ≡ no_place → Closed ones before (e + 1) (set twos e (get_or ones e 0))
    closed_filled q = closed_turn (rw (eq-eqb (get_or twos e 0) no_place q) refl)

    pub closed_kept : (get_or twos e 0 ≡ no_place → ⊥) → Closed ones before (e + 1) (set twos e (get_or twos e 0))
    closed_kept n = closed_turn (rw (ne_eqb (get_or twos e 0) no_place n) refl)

  pub closed_all : length before ≤ e → twos ≡ closed ones before
  closed_all h =
      let all = take_all e (closed ones before) (omega (arith, closed_length ones before same)) in
      let none = drop_of_length-le before h in
      so_far.stands ∙ rw (all, none) (append-nil (closed ones before))
