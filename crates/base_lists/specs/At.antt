-- A member of a list by its number.
--   At i x xs    == x is the member number i of xs, from 0
-- Assumes nothing.
use Rattle.std.specs.Prelude.{List, ◌∷◌, ℕ, suc}

pub data At {A : Type 0} : ℕ → A → List A → Type 0 where
  here : {x : A} {xs : List A} → At 0 x (x ∷ xs)
  there : {i : ℕ} {x y : A} {xs : List A} → At i x xs → At (suc i) x (y ∷ xs)
