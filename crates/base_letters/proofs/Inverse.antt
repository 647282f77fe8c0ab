-- The table serves both ways: spelling a code and reading a letter are inverse, and "alphabetical order is the order of the codes".
-- Assumes nothing.
use mathlib.Core.Path.{◌≡◌, refl, ap}
use mathlib.Core.Bool.{Bool, true, false, cond}
use mathlib.Core.List.{List, [], ◌∷◌}
use mathlib.Core.Logic.{◌↔◌}
use Prim.Native.Nat.{ℕ, zero, suc, ◌+◌, ◌-◌, ◌≤◌, ◌<◌}
use native.Mathlib.Omega.{arith}
use lib.ListN.{length, get_or}
use lib.Dec.{eqb, ltb}
use borrow.Author.Tests.{eqb-true, ltb-true, ltb-false}
use Rattle.base_letters.specs.Letters.{codes, letters, letter_of, Reading, code, no_letter, searched, code_of, is_code, is_letter}

-- the letter of a code reads as that code
pub code_letter : (c : ℕ) → c < codes → code_of (letter_of c) ≡ code c
unfolding code_of letter_of letters searched
code_letter zero h = refl
code_letter (suc zero) h = refl
code_letter (suc (suc zero)) h = refl
code_letter (suc (suc (suc zero))) h = refl
code_letter (suc (suc (suc (suc c)))) h = absurd (omega arith)

-- what a search finds stands at that place of what it searched
record Found (k : ℕ) (xs : List ℕ) (b c : ℕ) : Type 0 where
  from : k ≤ c
  within : c < k + length xs
  there : get_or xs (c - k) 0 ≡ b

searched_found : (k : ℕ) (xs : List ℕ) (b c : ℕ) → searched k xs b ≡ code c → Found k xs b c
unfolding searched
searched_found k [] b c e = let z : ◌≡◌ {A = ℕ} 0 1 = cc in absurd (omega arith)
searched_found k (x ∷ xs) b c e = go (searched_found (suc k) xs b c) (eqb x b) refl e
  where
    go : (searched (suc k) xs b ≡ code c → Found (suc k) xs b c) → (t : Bool) → eqb x b ≡ t
        → cond t (code k) (searched (suc k) xs b) ≡ code c → Found k (x ∷ xs) b c
    go later true q e =
        let same : k ≡ c = cc in
        let none : c - k ≡ 0 = omega arith in
        record { from = omega arith; within = omega arith; there = rw none (eqb-true x b q) }
    go later false q e =
        let f = later e in
        let one : c - k ≡ suc (c - suc k) = omega arith in
        record { from = omega arith; within = omega arith; there = rw one f.there }

-- a byte that reads as a code is the letter of that code
pub letter_code : (b c : ℕ) → code_of b ≡ code c → (c < codes) × (letter_of c ≡ b)
unfolding code_of letter_of letters
letter_code b c e =
    let f = searched_found 0 letters b c e in
    let all : c - 0 ≡ c = omega arith in
    (f.within, rw all at f.there)

-- a byte is no letter exactly if it is none of the table
pub not_a_letter : (b : ℕ) → (code_of b ≡ no_letter) ↔ ((c : ℕ) → c < codes → letter_of c ≡ b → ⊥)
not_a_letter b = (λ e c h q. let z : ◌≡◌ {A = ℕ} 0 1 = cc (code_letter c h) in omega arith, λ n. go n (code_of b) refl)
  where
    go : ((c : ℕ) → c < codes → letter_of c ≡ b → ⊥) → (r : Reading) → code_of b ≡ r → code_of b ≡ no_letter
    go n no_letter q = q
    go n (code c) q = let s = letter_code b c q in absurd (n c s.0 s.1)

-- spelling a code gives a letter
pub letter_is : (c : ℕ) → c < codes → is_letter (letter_of c) ≡ true
letter_is c h = ap is_code (code_letter c h)

-- each letter is a capital in ASCII
told_capital : (c : ℕ) → c < codes → (65 ≤ letter_of c) × (letter_of c ≤ 90)
unfolding letter_of letters
told_capital zero h = (omega arith, omega arith)
told_capital (suc zero) h = (omega arith, omega arith)
told_capital (suc (suc zero)) h = (omega arith, omega arith)
told_capital (suc (suc (suc zero))) h = (omega arith, omega arith)
told_capital (suc (suc (suc (suc c)))) h = absurd (omega arith)

-- so no byte before them is one
pub no_capital : (b : ℕ) → b < 65 → code_of b ≡ no_letter
no_capital b h = (not_a_letter b).1 (λ c g e. omega (arith, h, e, (told_capital c g).0))

pub letter_capital : (b : ℕ) → is_letter b ≡ true → (65 ≤ b) × (b ≤ 90)
letter_capital b e = read (code_of b) refl e
  where
    read : (r : Reading) → code_of b ≡ r → is_code r ≡ true → (65 ≤ b) × (b ≤ 90)
    read no_letter q e = let z : ◌≡◌ {A = ℕ} 0 1 = cc in absurd (omega arith)
    read (code c) q e = let s = letter_code b c q in let t = told_capital c s.0 in (omega (arith, s.1, t.0), omega (arith, s.1, t.1))

-- each letter stands before the next
letter_next : (c : ℕ) → suc c < codes → letter_of c < letter_of (suc c)
unfolding letter_of letters
letter_next zero h = omega arith
letter_next (suc zero) h = omega arith
letter_next (suc (suc zero)) h = omega arith
letter_next (suc (suc (suc c))) h = absurd (omega arith)

-- "Alphabetical order is the order of the codes."
pub in_order : (c d : ℕ) → c < d → d < codes → letter_of c < letter_of d
in_order c zero h t = absurd (omega arith)
in_order c (suc d) h t = go (λ q. in_order c d q (omega arith)) (ltb c d) refl
  where
    go : (c < d → letter_of c < letter_of d) → (b : Bool) → ltb c d ≡ b → letter_of c < letter_of (suc d)
    go before true q = omega (arith, before (ltb-true c d q), letter_next d t)
    go before false q = let same : c ≡ d = omega (arith, ltb-false c d q) in rw same (letter_next d t)
