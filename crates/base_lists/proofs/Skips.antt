-- Numbers with one left out, and put back, and maps of places to numbers with one place more or less.
--   skip k i         == the number i of those that are not k, from 0
--   unskip k x       == which of the numbers that are not k the number x is
--   add-place k f    == the map f with a place in front, which gets k, and k left out for the others
-- Assumes nothing.
use mathlib.Core.Path.{◌≡◌, refl, sym, ap, ◌∙◌}
use mathlib.Core.Logic.{◌≢◌}
use Prim.Native.Nat.{ℕ, zero, suc, ◌<◌, ◌≤◌}
use native.Mathlib.Omega.{arith}
use Rattle.base_lists.proofs.Pigeons.{OneToOne}

abbrev pub skip : ℕ → ℕ → ℕ
skip zero i = suc i
skip (suc k) zero = zero
skip (suc k) (suc i) = suc (skip k i)

abbrev pub unskip : ℕ → ℕ → ℕ
unskip zero zero = zero
unskip zero (suc x) = x
unskip (suc k) zero = zero
unskip (suc k) (suc x) = suc (unskip k x)

-- k is left out
pub skip_off : (k i : ℕ) → skip k i ≢ k
skip_off zero i e = omega arith
skip_off (suc k) zero e = omega arith
skip_off (suc k) (suc i) e = skip_off k i (omega arith)

-- different numbers stay different
pub skip_apart : (k i j : ℕ) → skip k i ≡ skip k j → i ≡ j
skip_apart zero i j e = omega arith
skip_apart (suc k) zero zero e = refl
skip_apart (suc k) zero (suc j) e = absurd (omega arith)
skip_apart (suc k) (suc i) zero e = absurd (omega arith)
skip_apart (suc k) (suc i) (suc j) e = ap suc (skip_apart k i j (omega arith))

-- one number more than there were
pub skip_below : (k i n : ℕ) → i < n → skip k i < suc n
skip_below zero i n h = omega arith
skip_below (suc k) zero n h = omega arith
skip_below (suc k) (suc i) zero h = absurd (omega arith)
skip_below (suc k) (suc i) (suc n) h = let g = skip_below k i n (omega arith) in omega arith

-- a number that is not k comes back
pub skip_unskip : (k x : ℕ) → x ≢ k → skip k (unskip k x) ≡ x
skip_unskip zero zero h = absurd (h refl)
skip_unskip zero (suc x) h = refl
skip_unskip (suc k) zero h = refl
skip_unskip (suc k) (suc x) h = ap suc (skip_unskip k x (λ e. h (ap suc e)))

-- one number less than there were
pub unskip_below : (k x n : ℕ) → k ≤ n → x ≤ n → x ≢ k → unskip k x < n
unskip_below zero zero n h g d = absurd (d refl)
unskip_below zero (suc x) n h g d = omega arith
unskip_below (suc k) zero n h g d = omega arith
unskip_below (suc k) (suc x) zero h g d = absurd (omega arith)
unskip_below (suc k) (suc x) (suc n) h g d =
    let u = unskip_below k x n (omega arith) (omega arith) (λ e. d (ap suc e)) in omega arith

-- ---- one place more, or less

unfoldable pub add_place : ℕ → (ℕ → ℕ) → ℕ → ℕ
add_place k f zero = k
add_place k f (suc t) = skip k (f t)

-- a place more in front
pub add_apart : (n k : ℕ) (f : ℕ → ℕ) → k < suc n → OneToOne n f → OneToOne (suc n) (add_place k f)
unfolding add_place
add_apart n k f h o = record { inside = in_range; apart = one_one }
  where
    in_range : (t : ℕ) → t < suc n → add_place k f t < suc n
    in_range zero p = h
    in_range (suc t) p = skip_below k (f t) n (o.inside t (omega arith))

    one_one : (s t : ℕ) → s < suc n → t < suc n → add_place k f s ≡ add_place k f t → s ≡ t
    one_one zero zero p q e = refl
    one_one zero (suc t) p q e = absurd (skip_off k (f t) (sym e))
    one_one (suc s) zero p q e = absurd (skip_off k (f s) e)
    one_one (suc s) (suc t) p q e = ap suc (o.apart s t (omega arith) (omega arith) (skip_apart k (f s) (f t) e))

module _ (n : ℕ) (f : ℕ → ℕ) (o : OneToOne (suc n) f) where
  -- the other places get other numbers than the one in front
  pub others_off : (t : ℕ) → t < n → f (suc t) ≢ f 0
  others_off t p e = let z = o.apart (suc t) 0 (omega arith) (omega arith) e in omega arith

  -- the place in front left out, and its number
  pub drop_place : OneToOne n (λ t. unskip (f 0) (f (suc t)))
  drop_place = record { inside = in_range; apart = one_one }
    where
      in_range : (t : ℕ) → t < n → unskip (f 0) (f (suc t)) < n
      in_range t p =
          unskip_below (f 0) (f (suc t)) n (omega (arith, o.inside 0 (omega arith))) (omega (arith, o.inside (suc t) (omega arith)))
          (others_off t p)

      one_one : (s t : ℕ) → s < n → t < n → unskip (f 0) (f (suc s)) ≡ unskip (f 0) (f (suc t)) → s ≡ t
      one_one s t p q e =
          let same : f (suc s) ≡ f (suc t) =
          sym (skip_unskip (f 0) (f (suc s)) (others_off s p)) ∙ ap (skip (f 0)) e ∙ skip_unskip (f 0) (f (suc t)) (others_off t q) in
          let z = o.apart (suc s) (suc t) (omega arith) (omega arith) same in omega arith
