-- A list by what it has at each place.
--   listed f n    == f 0, f 1, …, as a list of n
-- Assumes nothing.
use mathlib.Core.Path.{◌≡◌, refl, ap}
use mathlib.Core.List.{List, [], ◌∷◌}
use Prim.Native.Nat.{ℕ, zero, suc, ◌<◌}
use native.Mathlib.Omega.{arith}
use lib.ListN.{length, get_or}

module _ {A : Type 0} where
  abbrev pub listed : (ℕ → A) → ℕ → List A
  listed f zero = []
  listed f (suc n) = f 0 ∷ listed (λ t. f (suc t)) n

  -- it has n members
  pub length_listed : (f : ℕ → A) (n : ℕ) → length (listed f n) ≡ n
  length_listed f zero = refl
  length_listed f (suc n) = ap suc (length_listed (λ t. f (suc t)) n)

  -- what it has at t
  pub get_d_listed : (d : A) (f : ℕ → A) (n t : ℕ) → t < n → get_or (listed f n) t d ≡ f t
  get_d_listed d f zero t h = absurd (omega arith)
  get_d_listed d f (suc n) zero h = refl
  get_d_listed d f (suc n) (suc t) h = get_d_listed d (λ s. f (suc s)) n t (omega arith)
