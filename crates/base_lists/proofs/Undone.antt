-- Maps of the numbers below n that can be undone.
--   Undone n f    == a map back: what it gives is below n, and f sends it to where it came from
-- Assumes nothing.
use mathlib.Core.Path.{◌≡◌, sym, ap, ◌∙◌}
use mathlib.Core.Logic.{by_cases}
use Prim.Native.Nat.{ℕ, ◌<◌}
use native.Mathlib.Decide.{dec_lt}
use Rattle.base_lists.proofs.Pigeons.{OneToOne}

pub record Undone (n : ℕ) (f : ℕ → ℕ) : Type 0 where
  pub back : ℕ → ℕ
  pub inside : (t : ℕ) → t < n → back t < n
  pub there : (t : ℕ) → t < n → f (back t) ≡ t

-- a map that reaches each number below n can be undone
pub undone : (n : ℕ) (f : ℕ → ℕ) → ((t : ℕ) → t < n → (i : ℕ) × (i < n) × (f i ≡ t)) → Undone n f
undone n f reach = record { back = λ t. (one t).0; inside = λ t h. ((one t).1 h).0; there = λ t h. ((one t).1 h).1 }
  where
    one : (t : ℕ) → (i : ℕ) × (t < n → (i < n) × (f i ≡ t))
    one t = by_cases (dec_lt t n) (λ h. let r = reach t h in (r.0, λ g. (r.1, r.2))) (λ h. (0, λ g. absurd (h g)))

-- the map back sends different numbers to different ones
pub undone_apart : {n : ℕ} {f : ℕ → ℕ} (u : Undone n f) → OneToOne n u.back
undone_apart {f} u = record { inside = u.inside; apart = λ s t p q e. sym (u.there s p) ∙ ap f e ∙ u.there t q }
