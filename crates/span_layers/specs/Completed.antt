-- What the walk completes from a state. A state of the walk at the place i is the word p before it and the entries that are left.
--   paths l n i p left       == the lists of n words that the walk completes from there, in its order
--   is_some ps                == there is one in the list
-- Assumes nothing.
use Rattle.std.specs.Prelude.{Bool, true, false, ℕ, zero, suc}
use mathlib.Core.List.{List, [], ◌∷◌, map, flat_map}
use Rattle.std.proofs.Math.Option.{Option, some}
use Rattle.card_entries.specs.declared.Slot.{Slot}
use Rattle.span_theory.specs.Walk.{word_of, tried}

unfoldable pub paths : ℕ → ℕ → ℕ → Option ℕ → List Slot → List (List ℕ)
unfolding flat_map
paths l zero i p left = [] ∷ []
paths l (suc n) i p left = flat_map (λ c. map (λ ws. word_of c ∷ ws) (paths l n (suc i) (some (word_of c)) c.left)) (tried l i p left)

abbrev pub is_some : {A : Type 0} → List A → Bool
is_some [] = false
is_some (x ∷ xs) = true
