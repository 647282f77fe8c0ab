-- Zeros: what `is_zeros` says of a list. Assumes nothing.
use mathlib.Core.Path.{◌≡◌, refl, ap, ◌∙◌}
use mathlib.Core.Bool.{true}
use mathlib.Core.List.{List, [], ◌∷◌}
use Prim.Native.Nat.{ℕ, zero, suc}
use lib.ListN.{length, replicate}
use lib.Dec.{eqb}
use borrow.Author.Tests.{eqb-true}
use Rattle.base_lists.proofs.TestLaws.{both}
use Rattle.card_layout.specs.Layout.{is_zeros}

pub zeros_are : (n : ℕ) → is_zeros (replicate n 0) ≡ true
zeros_are zero = refl
zeros_are (suc n) = zeros_are n

pub are_zeros : (xs : List ℕ) → is_zeros xs ≡ true → xs ≡ replicate (length xs) 0
are_zeros [] h = refl
are_zeros (x ∷ xs) h =
    let parts = both (eqb x 0) (is_zeros xs) h in
    ap (λ (y : ℕ). y ∷ xs) (eqb-true x 0 parts.0) ∙ ap (λ (ys : List ℕ). 0 ∷ ys) (are_zeros xs parts.1)
