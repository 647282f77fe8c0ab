-- Laws of the line of a refusal: it tells its number, as every number in decimal is told by its digits. No contract cites this file.
-- Assumes nothing.
use mathlib.Core.Path.{◌≡◌, refl, sym, ap, ◌∙◌}
use mathlib.Core.Logic.{⊎_elim}
use mathlib.Core.Bool.{cond}
use mathlib.Core.List.{List, [], ◌∷◌, ◌++◌}
use Prim.Native.Nat.{ℕ, zero, suc, ◌+◌, ◌-◌, ◌*◌, ◌/◌, ◌%◌, ◌≤◌, ◌<◌}
use Prim.Native.Char.{code}
use native.Mathlib.Nat.{eq-zero-or-pos}
use native.Mathlib.Omega.{arith}
use lib.ListN.{length, get_or, drop}
use lib.Seq.{append_snoc}
use lib.Dec.{ltb}
use borrow.Author.Tests.{le-ltb}
use Rattle.base_text.specs.Text.{ascii, digit, decimal, refusal_line}
use Rattle.base_text.proofs.DecimalLaws.{decimal_one, decimal_more}

-- ---- a number, by its digits

-- the number that the digits at the start of a text tell, after digits that told v
told : ℕ → List ℕ → ℕ
told v [] = v
told v (b ∷ bs) = cond (ltb b (code "0")) v (told (10 * v + (b - code "0")) bs)

told_digit : (v d : ℕ) (rest : List ℕ) {n : ℕ} → 10 * v + d ≡ n → told v (digit d ∷ rest) ≡ told n rest
unfolding told
told_digit v d rest e =
    let value : digit d - code "0" ≡ d = omega arith in
    rw (le-ltb (digit d) (code "0") (omega arith), value, e) refl

told_one : (n : ℕ) (rest : List ℕ) → n < 10 → told 0 (decimal n ++ rest) ≡ told n rest
told_one n rest h = rw (decimal_one n h) (told_digit 0 n rest (omega arith))

-- a number in decimal tells itself; k is at least the number
told_decimal : (k n : ℕ) (rest : List ℕ) → n ≤ k → told 0 (decimal n ++ rest) ≡ told n rest
told_decimal zero n rest h = told_one n rest (omega arith)
told_decimal (suc k) n rest h = ⊎_elim (λ e. told_one n rest (omega (arith, e))) (more (told_decimal k (n / 10))) (eq-zero-or-pos (n / 10))
  where
    more : ((after : List ℕ) → n / 10 ≤ k → told 0 (decimal (n / 10) ++ after) ≡ told (n / 10) after) → 0 < n / 10
        → told 0 (decimal n ++ rest) ≡ told n rest
    more shorter g =
        ap (λ (xs : List ℕ). told 0 (xs ++ rest)) (decimal_more n (omega arith))
        ∙ ap (told 0) (append_snoc (decimal (n / 10)) (digit (n % 10)) rest)
        ∙ shorter (digit (n % 10) ∷ rest) (omega arith)
        ∙ told_digit (n / 10) (n % 10) rest (omega arith)

-- numbers before a space that are written alike are one
decimal_told : (n m : ℕ) (xs ys : List ℕ) → decimal n ++ (ascii " " ++ xs) ≡ decimal m ++ (ascii " " ++ ys) → n ≡ m
unfolding told
decimal_told n m xs ys e =
    sym (told_decimal n n (ascii " " ++ xs) (omega arith)) ∙ ap (told 0) e ∙ told_decimal m m (ascii " " ++ ys) (omega arith)

-- ---- the line

-- it begins with an r
pub refusal_begins : (n p : ℕ) {xs : List ℕ} → xs ≡ refusal_line n p → get_or xs 0 0 ≡ code "r"
refusal_begins n p e = ap (λ (xs : List ℕ). get_or xs 0 0) e

-- and tells its number
pub refusal_number : (n p m q : ℕ) → refusal_line n p ≡ refusal_line m q → n ≡ m
refusal_number n p m q e = decimal_told n m _ _ (ap (drop (length (ascii "refused "))) e)
