-- The laws of numbers in bytes, and of writing and reading them, that this crate's proofs and the crates above cite. Assumes nothing.
use mathlib.Core.Path.{◌≡◌, refl, sym, ap, ◌∙◌}
use mathlib.Core.List.{List, ◌∷◌, ◌++◌, append_assoc}
use Prim.Native.Nat.{ℕ, suc, ◌+◌, ◌*◌, ◌/◌, ◌%◌, ◌≤◌, ◌<◌}
use native.Mathlib.Omega.{arith}
use lib.ListN.{length, get_or, drop, length-append}
use lib.Seq.{drop-cons, get_or_at, get_or-append-add}
use Rattle.card_block.specs.Bytes.{two_at, four_at, two_bytes, four_bytes, AreBytes}
use Rattle.std.specs.Int.{w16, w32, to_le_bytes}

-- ---- numbers in bytes

-- std's bytes are these
pub two_le : (x : ℕ) → x < 65536 → to_le_bytes w16 x ≡ two_bytes x
unfolding two_bytes
two_le x h = let high : x / 256 % 256 ≡ x / 256 = omega arith in rw high

pub four_le : (x : ℕ) → x < 4294967296 → to_le_bytes w32 x ≡ four_bytes x
unfolding four_bytes two_bytes
four_le x h =
    let first : x % 65536 % 256 ≡ x % 256 = omega arith in
    let second : x % 65536 / 256 ≡ x / 256 % 256 = omega arith in
    let fourth : x / 65536 / 256 ≡ x / 16777216 % 256 = omega arith in
    rw (first, second, fourth)

pub length_two : (x : ℕ) → length (two_bytes x) ≡ 2
unfolding two_bytes
length_two x = refl

pub length_four : (x : ℕ) → length (four_bytes x) ≡ 4
unfolding four_bytes two_bytes
length_four x = refl

-- ---- a number that was written is read

pub two_read : (p q : List ℕ) (at x : ℕ) → length p ≡ at → two_at (p ++ (two_bytes x ++ q)) at ≡ x
unfolding two_at two_bytes
two_read p q at x stands =
    let low = get_or_at p (x % 256) (x / 256 ∷ q) 0 at stands in
    let high = rw stands at (get_or-append-add p (x % 256 ∷ x / 256 ∷ q) 1 0) in
    omega (arith, low, high)

pub four_read : (p q : List ℕ) (at x : ℕ) → length p ≡ at → four_at (p ++ (four_bytes x ++ q)) at ≡ x
unfolding four_at four_bytes
four_read p q at x stands =
    let lows = two_bytes (x % 65536) in
    let highs = two_bytes (x / 65536) in
    let split : p ++ (lows ++ highs ++ q) ≡ p ++ (lows ++ (highs ++ q)) = ap (λ (xs : List ℕ). p ++ xs) (append_assoc lows highs q) in
    let after : p ++ (lows ++ (highs ++ q)) ≡ p ++ lows ++ (highs ++ q) = sym (append_assoc p lows (highs ++ q)) in
    let low : two_at (p ++ (lows ++ highs ++ q)) at ≡ x % 65536 =
    ap (λ (xs : List ℕ). two_at xs at) split ∙ two_read p (highs ++ q) at (x % 65536) stands in
    let high : two_at (p ++ (lows ++ highs ++ q)) (at + 2) ≡ x / 65536 =
    ap (λ (xs : List ℕ). two_at xs (at + 2)) (split ∙ after)
    ∙ two_read (p ++ lows) q (at + 2) (x / 65536) (omega (arith, length-append p lows, length_two (x % 65536))) in
    omega (arith, low, high)

-- ---- bytes that were read are written

-- the next two bytes
pub drop_two : (l : List ℕ) (at : ℕ) → at + 2 ≤ length l → drop at l ≡ get_or l at 0 ∷ get_or l (at + 1) 0 ∷ drop (at + 2) l
drop_two l at h =
    let two : at + 2 ≡ suc (suc at) = omega arith in
    let one : at + 1 ≡ suc at = omega arith in
    drop-cons l at 0 (omega arith) ∙ ap (λ (xs : List ℕ). get_or l at 0 ∷ xs) (rw (two, one) (drop-cons l (suc at) 0 (omega arith)))

pub two_again : (l : List ℕ) (at : ℕ) → AreBytes l → at + 2 ≤ length l → two_bytes (two_at l at) ++ drop (at + 2) l ≡ drop at l
unfolding two_at two_bytes
two_again l at bytes h =
    let low : (get_or l at 0 + 256 * get_or l (at + 1) 0) % 256 ≡ get_or l at 0 = omega (arith, bytes at) in
    let high : (get_or l at 0 + 256 * get_or l (at + 1) 0) / 256 ≡ get_or l (at + 1) 0 = omega (arith, bytes at) in
    rw (low, high) (sym (drop_two l at h))

-- two bytes hold less than 65,536
pub two_below : (l : List ℕ) (at : ℕ) → AreBytes l → two_at l at < 65536
unfolding two_at
two_below l at bytes = omega (arith, bytes at, bytes (at + 1))

pub four_again : (l : List ℕ) (at : ℕ) → AreBytes l → at + 4 ≤ length l → four_bytes (four_at l at) ++ drop (at + 4) l ≡ drop at l
unfolding four_at four_bytes
four_again l at bytes h =
    let low : (two_at l at + 65536 * two_at l (at + 2)) % 65536 ≡ two_at l at = omega (arith, two_below l at bytes) in
    let high : (two_at l at + 65536 * two_at l (at + 2)) / 65536 ≡ two_at l (at + 2) = omega (arith, two_below l at bytes) in
    let four : at + 4 ≡ at + 2 + 2 = omega arith in
    rw (low, high, four)
    (append_assoc (two_bytes (two_at l at)) (two_bytes (two_at l (at + 2))) (drop (at + 2 + 2) l)
    ∙ ap (λ (xs : List ℕ). two_bytes (two_at l at) ++ xs) (two_again l (at + 2) bytes (omega arith))
    ∙ two_again l at bytes (omega arith))
