-- A list by its elements, and by its parts in turn: what several lists of the scope are.
--   row f k n       == f k, f (k + 1), …: n elements
--   in_turn f k n    == the lists f k, f (k + 1), …, n of them, one after the other
-- Assumes nothing.
use Rattle.std.specs.Prelude.{List, [], ◌∷◌, ◌++◌, ℕ, zero, suc}

unfoldable pub row : {A : Type 0} → (ℕ → A) → ℕ → ℕ → List A
row f k zero = []
row f k (suc n) = f k ∷ row f (suc k) n

unfoldable pub in_turn : {A : Type 0} → (ℕ → List A) → ℕ → ℕ → List A
in_turn f k zero = []
in_turn f k (suc n) = f k ++ in_turn f (suc k) n
