-- Laws of numbers in decimal: the two equations that `decimal` is known by, and how long it is.
-- Assumes nothing.
use mathlib.Core.Path.{◌≡◌, refl, sym, ap, ◌∙◌}
use mathlib.Core.Logic.{⊎_elim}
use mathlib.Core.List.{List, [], ◌∷◌, ◌++◌}
use Prim.Native.Nat.{ℕ, zero, suc, ◌+◌, ◌-◌, ◌^◌, ◌/◌, ◌%◌, ◌≤◌, ◌<◌}
use native.Mathlib.Nat.{pow-zero, pow-succ', eq-zero-or-pos}
use native.Mathlib.Omega.{arith}
use lib.ListN.{length, length-append}
use Rattle.base_text.specs.Text.{digit, digits_in, decimal}
use Rattle.base_text.specs.Putting.{most_digits}

-- ---- the two equations

digits_none : (k : ℕ) → digits_in k 0 ≡ []
unfolding digits_in
digits_none zero = refl
digits_none (suc k) = refl

-- how many there may be has no part in it, where it is enough
digits_same : (k k' n : ℕ) → n ≤ k → n ≤ k' → digits_in k n ≡ digits_in k' n
unfolding digits_in
digits_same zero k' zero h g = sym (digits_none k')
digits_same zero k' (suc n) h g = absurd (omega arith)
digits_same (suc k) k' zero h g = sym (digits_none k')
digits_same (suc k) zero (suc n) h g = absurd (omega arith)
digits_same (suc k) (suc k') (suc n) h g =
    ap (λ (xs : List ℕ). xs ++ (digit (suc n % 10) ∷ [])) (digits_same k k' (suc n / 10) (omega arith) (omega arith))

-- those of a number that is not 0 are the number in decimal
digits_decimal : (k n : ℕ) → 0 < n → n ≤ k → digits_in k n ≡ decimal n
unfolding digits_in decimal
digits_decimal k zero h g = absurd (omega arith)
digits_decimal zero (suc n) h g = absurd (omega arith)
digits_decimal (suc k) (suc n) h g =
    ap (λ (xs : List ℕ). xs ++ (digit (suc n % 10) ∷ [])) (digits_same k (suc n) (suc n / 10) (omega arith) (omega arith))

pub decimal_one : (n : ℕ) → n < 10 → decimal n ≡ digit n ∷ []
unfolding decimal
decimal_one n h =
    let none : n / 10 ≡ 0 = omega arith in
    let all : n % 10 ≡ n = omega arith in
    rw (none, all) (ap (λ (xs : List ℕ). xs ++ (digit n ∷ [])) (digits_none n))

pub decimal_more : (n : ℕ) → 10 ≤ n → decimal n ≡ decimal (n / 10) ++ (digit (n % 10) ∷ [])
unfolding decimal
decimal_more n h = ap (λ (xs : List ℕ). xs ++ (digit (n % 10) ∷ [])) (digits_decimal n (n / 10) (omega arith) (omega arith))

-- ---- how long

pub length_one : (n : ℕ) → n < 10 → length (decimal n) ≡ 1
length_one n h = ap length (decimal_one n h)

pub length_more : (n : ℕ) → 10 ≤ n → length (decimal n) ≡ length (decimal (n / 10)) + 1
length_more n h = ap length (decimal_more n h) ∙ length-append (decimal (n / 10)) (digit (n % 10) ∷ [])

pub decimal_length : (k n : ℕ) → n < 10 ^ suc k → length (decimal n) ≤ suc k
decimal_length zero n h = omega (arith, ap length (decimal_one n (omega (arith, pow-succ' 10 0, pow-zero 10))))
decimal_length (suc k) n h = ⊎_elim one (more (decimal_length k (n / 10))) (eq-zero-or-pos (n / 10))
  where
    one : n / 10 ≡ 0 → length (decimal n) ≤ suc (suc k)
    one e = omega (arith, ap length (decimal_one n (omega arith)))

    more : (n / 10 < 10 ^ suc k → length (decimal (n / 10)) ≤ suc k) → 0 < n / 10 → length (decimal n) ≤ suc (suc k)
    more shorter g =
        let up = pow-succ' 10 (suc k) in
        let longer = ap length (decimal_more n (omega arith)) in
        omega (arith, length-append (decimal (n / 10)) (digit (n % 10) ∷ []), shorter (omega arith))

-- a number of 64 bits
pub decimal_few : (n : ℕ) → n < 2 ^ 64 → length (decimal n) ≤ most_digits
decimal_few n h = decimal_length (most_digits - 1) n (omega arith)
