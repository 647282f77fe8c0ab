-- The laws of the plain sums: their remainders may be taken at the end, and no sum of a block passes its bound, which is reached.
-- Assumes nothing.
use mathlib.Core.Path.{◌≡◌, refl, sym, ap}
use mathlib.Core.List.{List, [], ◌∷◌, foldl, foldl-append}
use Prim.Native.Nat.{ℕ, zero, suc, ◌+◌, ◌*◌, ◌%◌, ◌≤◌, ◌<◌}
use native.Mathlib.Omega.{arith}
use mir.Syntax.{w32}
use mir.Val.{Fits}
use native.Mathlib.Numerals.{add-one}
use lib.ListN.{length, get_or, take, replicate}
use lib.Seq.{take-suc}
use Rattle.card_block.specs.declared.check.Sums.{Sums}
use Rattle.card_block.specs.Bytes.{AreBytes}
use Rattle.card_block.specs.Check.{modulus, step_of, sums_of, check_bytes, check_at}
use Rattle.card_block.specs.Plain.{plain_step, plain_of, reduced, most_a, most_b}

-- ---- the remainders may be taken at the end

late : (x y : ℕ) → (x % modulus + y) % modulus ≡ (x + y) % modulus
late x y = omega arith

both_late : (x y : ℕ) → (x % modulus + y % modulus) % modulus ≡ (x + y) % modulus
both_late x y = omega arith

step_reduced : (s : Sums) (x : ℕ) → step_of (reduced s) x ≡ reduced (plain_step s x)
step_reduced s x =
    let first = late s.a x in
    rw first (ap (λ (b : ℕ). record { a = (s.a + x) % modulus; b = b }) (both_late s.b (s.a + x)))

fold_reduced : (s : Sums) (xs : List ℕ) → foldl step_of (reduced s) xs ≡ reduced (foldl plain_step s xs)
fold_reduced s [] = refl
fold_reduced s (x ∷ xs) = rw (step_reduced s x) (fold_reduced (plain_step s x) xs)

pub sums_reduced : (xs : List ℕ) → sums_of xs ≡ reduced (plain_of xs)
unfolding sums_of plain_of
sums_reduced xs = fold_reduced (record { a = 0; b = 0 }) xs

-- the check bytes by the plain sums
pub check_reduced : (xs : List ℕ) (s : Sums) → s ≡ plain_of xs → record { first = s.a % modulus; second = s.b % modulus } ≡ check_bytes xs
unfolding check_bytes
check_reduced xs s e = rw e (ap (λ (t : Sums). record { first = t.a; second = t.b }) (sym (sums_reduced xs)))

-- ---- one byte more

pub plain_more : (l : List ℕ) (i : ℕ) → i < length l → plain_of (take (i + 1) l) ≡ plain_step (plain_of (take i l)) (get_or l i 0)
unfolding plain_of
plain_more l i h = rw (add-one, take-suc l i 0 h) (foldl-append plain_step (record { a = 0; b = 0 }) (take i l) (get_or l i 0 ∷ []))

-- ---- no sum of a block passes its bound

-- 1 + 2 + … + n
abbrev up_to : ℕ → ℕ
up_to zero = 0
up_to (suc n) = up_to n + suc n

up_to_rises : (i n : ℕ) → i ≤ n → up_to i ≤ up_to n
up_to_rises zero n h = omega arith
up_to_rises (suc i) zero h = absurd (omega arith)
up_to_rises (suc i) (suc n) h = let g = up_to_rises i n (omega arith) in omega arith

up_to_all : 255 * up_to check_at ≡ most_b
up_to_all = refl

-- the sums after i bytes are at most those of i bytes of 255
record Within (i : ℕ) (s : Sums) : Type 0 where
  a_within : s.a ≤ 255 * i
  b_within : s.b ≤ 255 * up_to i

within_next : (i : ℕ) (s : Sums) (x : ℕ) → x < 256 → Within i s → Within (i + 1) (plain_step s x)
within_next i s x h f =
    let next : i + 1 ≡ suc i = omega arith in
    rw next (record { a_within = omega (arith, f.a_within); b_within = omega (arith, f.a_within, f.b_within) })

-- of bytes that go on from the sums after i others
within_all : (i : ℕ) (s : Sums) (xs : List ℕ) → AreBytes xs → Within i s → Within (i + length xs) (foldl plain_step s xs)
within_all i s [] bytes f = let none : i + 0 ≡ i = omega arith in rw none f
within_all i s (x ∷ xs) bytes f =
    let one : i + suc (length xs) ≡ i + 1 + length xs = omega arith in
    rw one (within_all (i + 1) (plain_step s x) xs (λ j. bytes (suc j)) (within_next i s x (bytes 0) f))

-- "The largest plain b is 33,227,775": of at most 510 bytes none is larger,
pub plain_most : (xs : List ℕ) → AreBytes xs → length xs ≤ check_at → ((plain_of xs).a ≤ most_a) × ((plain_of xs).b ≤ most_b)
unfolding plain_of
plain_most xs bytes h =
    let none : Within 0 (record { a = 0; b = 0 }) = record { a_within = omega arith; b_within = omega arith } in
    let all = within_all 0 (record { a = 0; b = 0 }) xs bytes none in
    (omega (arith, all.a_within), omega (arith, all.b_within, up_to_rises (0 + length xs) check_at (omega arith), up_to_all))

-- 510 bytes of 255 reach it,
pub plain_reached : plain_of (replicate check_at 255) ≡ record { a = most_a; b = most_b }
unfolding plain_of
plain_reached = refl

-- and `u32` holds it, and so each sum on the way
pub plain_fits : (xs : List ℕ) → AreBytes xs → length xs ≤ check_at → Fits w32 (plain_of xs).a × Fits w32 (plain_of xs).b
plain_fits xs bytes h =
    let most = plain_most xs bytes h in
    (record { fits = omega (arith, most.0) }, record { fits = omega (arith, most.1) })
