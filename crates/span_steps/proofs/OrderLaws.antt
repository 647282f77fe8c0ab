-- Laws of the order of a place's list. Assumes nothing.
use mathlib.Core.Path.{◌≡◌, ap}
use mathlib.Core.Logic.{inl, inr, ⊎_elim}
use mathlib.Core.List.{List}
use Prim.Native.Nat.{ℕ}
use native.Mathlib.Omega.{arith}
use lib.ListN.{get_or}
use Rattle.base_lists.specs.Members.{Rising, flat, rises}
use Rattle.span_theory.proofs.Order as order
use Rattle.span_tables.specs.Prepared.{Sooner}
use Rattle.span_steps.specs.Steps.{span_at}

-- an entry does not come before itself
pub sooner_apart : (words twos : List ℕ) (j k : ℕ) → Sooner words twos j k → j ≡ k → ⊥
sooner_apart words twos j k (inl h) e = omega (arith, ap (λ x. get_or words x 0) e)
sooner_apart words twos j k (inr h) e = ⊎_elim (λ g. omega (arith, ap (λ x. get_or twos x 0) e)) (λ g. omega (arith, g.1)) h.1

-- the order of a place's list is the order in which the walk picks
pub sooner_is : (words ones twos : List ℕ) (j k : ℕ) → Sooner words twos j k
    → order.Sooner (λ x. (span_at words ones twos x).word) (λ x. (span_at words ones twos x).two) j k
sooner_is words ones twos j k (inl h) = record { words = omega arith; ahead = λ e. absurd (omega arith) }
sooner_is words ones twos j k (inr h) = record {
  words = omega (arith, h.0);
  ahead = λ e. ⊎_elim (λ g. record { ends = omega arith; ties = λ f. absurd (omega arith) })
      (λ g. record { ends = omega (arith, g.0); ties = λ f. omega (arith, g.1) }) h.1;
}

pub rising_each : {R S : ℕ → ℕ → Type 0} {js : List ℕ} → ((j k : ℕ) → R j k → S j k) → Rising R js → Rising S js
rising_each h flat = flat
rising_each h (rises {x = j} up r) = rises (λ k m. h j k (up k m)) (rising_each h r)
