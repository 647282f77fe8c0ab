-- Laws of the alphabetical order: of two sequences that are not one, exactly one comes before the other. Assumes nothing.
use mathlib.Core.Path.{◌≡◌, refl, sym, ap}
use mathlib.Core.Logic.{◌⊎◌, inl, inr, ⊎_elim, ⊎_map}
use mathlib.Core.List.{List, [], ◌∷◌, ◌++◌}
use Prim.Native.Nat.{ℕ, zero, suc, ◌<◌}
use native.Mathlib.Omega.{arith}
use lib.ListN.{length, get_or}
use Rattle.build_sequence.specs.Verdict.{Before}

pub before_asym : (s t : List ℕ) → Before s t → Before t s → ⊥
before_asym [] [] b c = b
before_asym [] (d ∷ t) b c = c
before_asym (a ∷ s) [] b c = b
before_asym (a ∷ s) (d ∷ t) (inl h) (inl g) = omega arith
before_asym (a ∷ s) (d ∷ t) (inl h) (inr g) = omega arith
before_asym (a ∷ s) (d ∷ t) (inr h) (inl g) = omega arith
before_asym (a ∷ s) (d ∷ t) (inr h) (inr g) = before_asym s t h.1 g.1

pub before_irr : (s : List ℕ) → Before s s → ⊥
before_irr s b = before_asym s s b b

pub before_trans : (s t u : List ℕ) → Before s t → Before t u → Before s u
before_trans [] [] u b c = absurd b
before_trans [] (d ∷ t) [] b c = absurd c
before_trans [] (d ∷ t) (e ∷ u) b c = tt
before_trans (a ∷ s) [] u b c = absurd b
before_trans (a ∷ s) (d ∷ t) [] b c = absurd c
before_trans (a ∷ s) (d ∷ t) (e ∷ u) (inl h) (inl g) = inl (omega arith)
before_trans (a ∷ s) (d ∷ t) (e ∷ u) (inl h) (inr g) = inl (omega arith)
before_trans (a ∷ s) (d ∷ t) (e ∷ u) (inr h) (inl g) = inl (omega arith)
before_trans (a ∷ s) (d ∷ t) (e ∷ u) (inr h) (inr g) = inr (omega arith, before_trans s t u h.1 g.1)

-- sequences of one length compare as whatever goes on from them
pub before_append : (s t u v : List ℕ) → length s ≡ length t → Before s t → Before (s ++ u) (t ++ v)
before_append [] [] u v e b = absurd b
before_append [] (d ∷ t) u v e b = absurd (omega arith)
before_append (a ∷ s) [] u v e b = absurd b
before_append (a ∷ s) (d ∷ t) u v e (inl h) = inl h
before_append (a ∷ s) (d ∷ t) u v e (inr h) = inr (h.0, before_append s t u v (omega arith) h.1)

-- what goes on from one sequence compares as what comes after it
pub append_before : (s u v : List ℕ) → Before u v → Before (s ++ u) (s ++ v)
append_before [] u v b = b
append_before (a ∷ s) u v b = inr (refl, append_before s u v b)

pub less_or_more : (a d : ℕ) → (a ≡ d) ⊎ ((a < d) ⊎ (d < a))
less_or_more zero zero = inl refl
less_or_more zero (suc d) = inr (inl (omega arith))
less_or_more (suc a) zero = inr (inr (omega arith))
less_or_more (suc a) (suc d) = ⊎_map (ap suc) (⊎_map (λ h. omega arith) (λ h. omega arith)) (less_or_more a d)

pub before_or_after : (s t : List ℕ) → (s ≡ t) ⊎ (Before s t ⊎ Before t s)
before_or_after [] [] = inl refl
before_or_after [] (d ∷ t) = inr (inl tt)
before_or_after (a ∷ s) [] = inr (inr tt)
before_or_after (a ∷ s) (d ∷ t) =
    ⊎_elim (λ e. ⊎_map (λ f. cc) (⊎_map (λ b. inr (e, b)) (λ b. inr (sym e, b))) (before_or_after s t)) (λ h. inr (⊎_map inl inl h))
    (less_or_more a d)

-- of two sequences of one length, the one that has the smaller member where they first differ comes before the other
pub first_differs : (s t : List ℕ) (at : ℕ) → length s ≡ length t → at < length s → ((i : ℕ) → i < at → get_or s i 0 ≡ get_or t i 0)
    → get_or s at 0 < get_or t at 0
    → Before s t
first_differs [] t at n h same less = absurd (omega arith)
first_differs (a ∷ s) [] at n h same less = absurd (omega arith)
first_differs (a ∷ s) (d ∷ t) zero n h same less = inl less
first_differs (a ∷ s) (d ∷ t) (suc at) n h same less =
    inr (same 0 (omega arith), first_differs s t at (omega arith) (omega arith) (λ i g. same (suc i) (omega arith)) less)
