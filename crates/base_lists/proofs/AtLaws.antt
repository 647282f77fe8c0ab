-- Laws of a member by its number. Assumes nothing.
use mathlib.Core.Path.{◌≡◌, ap, ◌∙◌}
use mathlib.Core.List.{List}
use Prim.Native.Nat.{ℕ, zero, suc, ◌+◌, ◌<◌}
use native.Mathlib.Omega.{arith}
use lib.ListN.{length}
use Rattle.base_lists.specs.Row.{row}
use Rattle.base_lists.specs.Members.{In, first, later}
use Rattle.base_lists.specs.At.{At, here, there}

module _ {A : Type 0} where
  pub at_below : {x : A} {xs : List A} {i : ℕ} → At i x xs → i < length xs
  at_below here = omega arith
  at_below (there a) = omega (arith, at_below a)

  pub at_in : {x : A} {xs : List A} {i : ℕ} → At i x xs → In x xs
  at_in here = first
  at_in (there a) = later (at_in a)

  pub in_at : {x : A} {xs : List A} → In x xs → (i : ℕ) × At i x xs
  in_at first = (0, here)
  in_at (later m) = let a = in_at m in (suc a.0, there a.1)

  -- of a row
  pub row_has : (f : ℕ → A) (k n i : ℕ) → i < n → At i (f (k + i)) (row f k n)
  unfolding row
  row_has f k zero i h = absurd (omega arith)
  row_has f k (suc n) zero h = let z : k + 0 ≡ k = omega arith in rw z here
  row_has f k (suc n) (suc i) h =
      let next : k + suc i ≡ suc k + i = omega arith in rw next (there (row_has f (suc k) n i (omega arith)))

  pub at_row : (f : ℕ → A) (k n : ℕ) {i : ℕ} {x : A} → At i x (row f k n) → (i < n) × (x ≡ f (k + i))
  unfolding row
  at_row f k (suc n) here = (omega arith, ap f (omega arith))
  at_row f k (suc n) (there {i = i} a) = let h = at_row f (suc k) n a in (omega (arith, h.0), h.1 ∙ ap f (omega arith))
  at_row f k zero {i = i} h = elim h [ ]
