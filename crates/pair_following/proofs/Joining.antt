-- A number more, among numbers of which the least and their number (none, one or more) are known: a law for each outcome. Assumes nothing.
use mathlib.Core.Path.{◌≡◌, refl}
use Prim.Native.Nat.{ℕ, ◌<◌, ◌≤◌}
use native.Mathlib.Omega.{arith}
use Rattle.pair_following.specs.Common.{Joined}

-- the first word
pub joined_first : {a n w : ℕ} → n ≡ 0 → Joined a n w w 1
joined_first h =
    record { first = λ _. (refl, refl); same = λ x. absurd (x h); less = λ x. absurd (x h); more = λ x. absurd (x h) }

module _ {a n w : ℕ} (some : n ≡ 0 → ⊥) where
  -- the least word again
  pub joined_same : w ≡ a → Joined a n w a n
  joined_same h =
      record {
        first = λ x. absurd (some x);
        same = λ _ _. (refl, refl);
        less = λ _ x. absurd (omega arith);
        more = λ _ x. absurd (omega arith);
      }

  -- a smaller one
  pub joined_less : w < a → Joined a n w w 2
  joined_less h =
      record {
        first = λ x. absurd (some x);
        same = λ _ x. absurd (omega arith);
        less = λ _ _. (refl, refl);
        more = λ _ x. absurd (omega arith);
      }

  -- a larger one
  pub joined_more : (w ≡ a → ⊥) → a ≤ w → Joined a n w a 2
  joined_more d h =
      record { first = λ x. absurd (some x); same = λ _ x. absurd (d x); less = λ _ x. absurd (omega arith); more = λ _ _. (refl, refl) }
