-- Laws of the letters of a word, and the evidence that `overlaps` is the scope's sentence: "the last l−1 letters of each word are the first
-- l−1 of the next". Assumes nothing.
use mathlib.Core.Path.{◌≡◌, refl, sym, ◌∙◌, ap, ap₂}
use mathlib.Core.Logic.{inl, ⊎_elim}
use mathlib.Core.Bool.{true}
use mathlib.Core.List.{[], ◌∷◌, ◌++◌}
use Prim.Native.Nat.{ℕ, zero, suc, ◌+◌, ◌-◌, ◌*◌, ◌^◌, ◌/◌, ◌%◌, ◌≤◌, ◌<◌}
use native.Mathlib.Omega.{arith}
use native.Mathlib.Nat.{eq-or-lt_of_le, pow-suc, mod-lt}
use lib.ListN.{length, take, drop, length-append}
use lib.Arith.{mod-mul}
use lib.Bits.{bit_and, and_mask}
use lib.Pow.{pow_mono}
use lib.Seq.{take_at}
use borrow.Author.Tests.{eqb-true, eq-eqb}
use Rattle.base_lists.specs.Members.{In}
use Rattle.build_sequence.specs.Arrangement.{overlaps}
use Rattle.build_sequence.specs.Build.{letters_of}
use Rattle.build_sequence.specs.Verdict.{Before}
use Rattle.base_lists.proofs.ListLaws.{not_in_nil, in_cons, in_append}
use Rattle.build_sequence.proofs.OrderLaws.{before_irr, before_append, append_before, less_or_more}

-- ---- the letters of a word

pub length_letters : (l w : ℕ) → length (letters_of l w) ≡ l
length_letters zero w = refl
length_letters (suc l) w = omega (arith, length-append (letters_of l (w / 4)) (w % 4 ∷ []), length_letters l (w / 4))

-- each is one of the four codes
pub letters_coded : (l w : ℕ) {c : ℕ} → In c (letters_of l w) → c < 4
letters_coded zero w is = absurd (not_in_nil is)
letters_coded (suc l) w is =
    ⊎_elim (letters_coded l (w / 4)) (λ last. ⊎_elim (λ e. omega (arith, e)) (λ none. absurd (not_in_nil none)) (in_cons last))
    (in_append (letters_of l (w / 4)) is)

-- words compare as their letters
pub letters_before : (l w v : ℕ) → w < 4 ^ l → v < 4 ^ l → w < v → Before (letters_of l w) (letters_of l v)
letters_before zero w v h g lt = absurd (omega arith)
letters_before (suc l) w v h g lt =
    let same : w / 4 ≡ v / 4 → Before (letters_of (suc l) w) (letters_of (suc l) v) =
    λ e. rw e (append_before (letters_of l (v / 4)) (w % 4 ∷ []) (v % 4 ∷ []) (inl (omega arith))) in
    let less : w / 4 < v / 4 → Before (letters_of (suc l) w) (letters_of (suc l) v) =
    λ k. before_append (letters_of l (w / 4)) (letters_of l (v / 4)) (w % 4 ∷ []) (v % 4 ∷ [])
    (length_letters l (w / 4) ∙ sym (length_letters l (v / 4)))
    (letters_before l (w / 4) (v / 4) (omega arith) (omega arith) k) in
    ⊎_elim same less (eq-or-lt_of_le (omega arith))

-- words of the same letters are one
pub letters_one : (l w v : ℕ) → w < 4 ^ l → v < 4 ^ l → letters_of l w ≡ letters_of l v → w ≡ v
letters_one l w v h g e =
    ⊎_elim (λ same. same)
    (⊎_elim (λ k. absurd (before_irr (letters_of l v) (rw e at (letters_before l w v h g k))))
    (λ k. absurd (before_irr (letters_of l v) (rw e at (letters_before l v w g h k)))))
    (less_or_more w v)

pub pow_pos : (k : ℕ) → 0 < 4 ^ k
pow_pos zero = omega arith
pow_pos (suc k) = let h = pow_pos k in omega arith

four_pow : (k : ℕ) → 4 ^ k ≡ 2 ^ (2 * k)
four_pow zero = refl
four_pow (suc k) = let h = four_pow k in let e : 2 * suc k ≡ suc (suc (2 * k)) = omega arith in rw e (omega arith)

-- how many words of l letters there are, by bits
pub words_bits : (l most : ℕ) → l ≤ most → 4 ^ l ≤ 2 ^ (2 * most)
words_bits l most h = let g : 2 ^ (2 * l) ≤ 2 ^ (2 * most) = pow_mono {i = 2 * l} {j = 2 * most} (omega arith) in omega (arith, g, four_pow l)

-- a mask of ones takes the last letters of a word
pub mask_tail : (l mask w : ℕ) → mask + 1 ≡ 4 ^ (l - 1) → bit_and w mask ≡ w % 4 ^ (l - 1)
mask_tail l mask w e =
    let ones : mask ≡ 2 ^ (2 * (l - 1)) - 1 = omega (arith, four_pow (l - 1)) in
    ap (bit_and w) ones ∙ and_mask w (2 * (l - 1)) ∙ ap (λ x. w % x) (sym (four_pow (l - 1)))

-- the first letter, and the letters of what is below it
pub letters_cons : (k w : ℕ) → (d : ℕ) × (letters_of (suc k) w ≡ d ∷ letters_of k (w % 4 ^ k))
letters_cons zero w = (w % 4, refl)
letters_cons (suc k) w =
    let s = letters_cons k (w / 4) in
    let q : w % 4 ^ suc k ≡ w / 4 % 4 ^ k * 4 + w % 4 = rw (pow-suc 4 k) (mod-mul w (pow_pos k) (omega arith)) in
    let high : w % 4 ^ suc k / 4 ≡ w / 4 % 4 ^ k = rw q (omega arith) in
    let low : w % 4 ^ suc k % 4 ≡ w % 4 = rw q (omega arith) in
    (s.0, ap (λ x. x ++ (w % 4 ∷ [])) s.1 ∙ ap₂ (λ x y. s.0 ∷ (letters_of k x ++ (y ∷ []))) (sym high) (sym low))

-- ---- overlapping

pub overlap_is : (l v w : ℕ) → overlaps l v w ≡ true → v % 4 ^ (l - 1) ≡ w / 4
unfolding overlaps
overlap_is l v w h = eqb-true (v % 4 ^ (l - 1)) (w / 4) h

pub is_overlap : (l v w : ℕ) → v % 4 ^ (l - 1) ≡ w / 4 → overlaps l v w ≡ true
unfolding overlaps
is_overlap l v w e = eq-eqb (v % 4 ^ (l - 1)) (w / 4) e

-- the last l−1 letters, and the first l−1
lasts_are : (k v : ℕ) → drop 1 (letters_of (suc k) v) ≡ letters_of k (v % 4 ^ k)
lasts_are k v = rw (letters_cons k v).1 refl

firsts_are : (k w : ℕ) → take k (letters_of (suc k) w) ≡ letters_of k (w / 4)
firsts_are k w = take_at (letters_of k (w / 4)) (w % 4 ∷ []) k (length_letters k (w / 4))

pub overlap_letters : (l v w : ℕ) → 0 < l → overlaps l v w ≡ true → drop 1 (letters_of l v) ≡ take (l - 1) (letters_of l w)
overlap_letters zero v w pos h = absurd (omega arith)
overlap_letters (suc k) v w pos h =
    let e : suc k - 1 ≡ k = omega arith in
    rw e (lasts_are k v ∙ ap (letters_of k) (rw e at (overlap_is (suc k) v w h)) ∙ sym (firsts_are k w))

pub letters_overlap : (l v w : ℕ) → 0 < l → w < 4 ^ l → drop 1 (letters_of l v) ≡ take (l - 1) (letters_of l w) → overlaps l v w ≡ true
letters_overlap zero v w pos h e = absurd (omega arith)
letters_overlap (suc k) v w pos h e =
    let q : suc k - 1 ≡ k = omega arith in
    let same : letters_of k (v % 4 ^ k) ≡ letters_of k (w / 4) = sym (lasts_are k v) ∙ rw q at e ∙ firsts_are k w in
    is_overlap (suc k) v w (rw q (letters_one k (v % 4 ^ k) (w / 4) (mod-lt v (pow_pos k)) (omega arith) same))
