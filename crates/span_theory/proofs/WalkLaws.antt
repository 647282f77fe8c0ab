-- The walk, one place after the other; and what it reaches and completes on a card, by the walk from the first place. Assumes nothing.
use mathlib.Core.Path.{◌≡◌, refl}
use mathlib.Core.List.{List, [], ◌∷◌, map, flat_map}
use mathlib.Core.Option.{Option, none, some}
use Prim.Native.Nat.{ℕ, suc}
use lib.Dec.{eqb}
use lib.ListN.{length}
use Rattle.card_entries.specs.declared.Slot.{Slot}
use Rattle.base_lists.specs.Members.{keep}
use Rattle.span_theory.specs.Walk.{word_of, tried, walk, walked, builds}

module _ (l : ℕ) where
  -- past the last place nothing is reached
  pub walk_end : (i : ℕ) (p : Option ℕ) (left : List Slot) → walk l 0 i p left ≡ []
  unfolding walk
  walk_end i p left = refl

  -- what is tried is reached, and then what the walk reaches after it
  pub walk_more : (n i : ℕ) (p : Option ℕ) (left : List Slot)
      → walk l (suc n) i p left
      ≡ flat_map (λ c. map (λ ws. word_of c ∷ ws) ([] ∷ walk l n (suc i) (some (word_of c)) c.left)) (tried l i p left)
  unfolding walk
  walk_more n i p left = refl

  -- on a card, from the first place on
  pub walked_is : (es : List Slot) → walked l es ≡ walk l (length es) 0 none es
  unfolding walked
  walked_is es = refl

  pub builds_is : (es : List Slot) → builds l es ≡ keep (λ ws. eqb (length ws) (length es)) (walked l es)
  unfolding builds
  builds_is es = refl
