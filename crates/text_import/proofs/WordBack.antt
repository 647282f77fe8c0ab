-- A word's letters and its value, there and back. Assumes nothing.
use mathlib.Core.Path.{◌≡◌, refl, sym, ap, ◌∙◌}
use mathlib.Core.Bool.{true}
use mathlib.Core.List.{List, [], ◌∷◌, ◌++◌, append-nil, append_assoc}
use Prim.Native.Nat.{ℕ, zero, suc, ◌+◌, ◌*◌, ◌^◌, ◌/◌, ◌%◌, ◌<◌}
use native.Mathlib.Nat.{pow-zero, pow-succ'}
use native.Mathlib.Omega.{arith}
use lib.ListN.{length}
use lib.Dec.{ltb}
use borrow.Author.Tests.{ltb-true}
use Rattle.base_lists.proofs.TestLaws.{both}
use Rattle.base_letters.specs.Letters.{codes}
use Rattle.build_sequence.specs.Build.{letters_of}
use Rattle.text_probes.specs.Line.{are_codes}
use Rattle.text_probes.specs.Listing.{value_from, value_of}

-- ---- the value of a word's letters

value_more : (v : ℕ) (cs : List ℕ) (c : ℕ) → value_from v (cs ++ (c ∷ [])) ≡ codes * value_from v cs + c
value_more v [] c = refl
value_more v (d ∷ cs) c = value_more (codes * v + d) cs c

pub value_letters : (l w : ℕ) → w < 4 ^ l → value_of (letters_of l w) ≡ w
value_letters zero w h = omega (arith, pow-zero 4)
value_letters (suc l) w h =
    let up = pow-succ' 4 l in
    let rest = value_letters l (w / 4) (omega arith) in
    value_more 0 (letters_of l (w / 4)) (w % 4) ∙ omega arith

-- the value of k codes is below 4^k
below_from : (k v : ℕ) (cs : List ℕ) → are_codes cs ≡ true → v < 4 ^ k → value_from v cs < 4 ^ (k + length cs)
below_from k v [] h small = let none : k + 0 ≡ k = omega arith in rw none small
below_from k v (c ∷ cs) h small =
    let parts = both (ltb c codes) (are_codes cs) h in
    let below = ltb-true c codes parts.0 in
    let next : k + suc (length cs) ≡ suc k + length cs = omega arith in
    let up = pow-succ' 4 k in
    rw next (below_from (suc k) (codes * v + c) cs parts.1 (omega arith))

pub value_below : (cs : List ℕ) → are_codes cs ≡ true → value_of cs < 4 ^ length cs
value_below cs h = let all : 0 + length cs ≡ length cs = omega arith in rw all at (below_from 0 0 cs h (omega arith))

-- ---- the letters of a word's value

letters_from_lem : (k v : ℕ) (cs : List ℕ) → are_codes cs ≡ true → letters_of (k + length cs) (value_from v cs) ≡ letters_of k v ++ cs
letters_from_lem k v [] h = let none : k + 0 ≡ k = omega arith in rw none (sym (append-nil (letters_of k v)))
letters_from_lem k v (c ∷ cs) h =
    let parts = both (ltb c codes) (are_codes cs) h in
    let small = ltb-true c codes parts.0 in
    let next : k + suc (length cs) ≡ suc k + length cs = omega arith in
    let high : (4 * v + c) / 4 ≡ v = omega arith in
    let low : (4 * v + c) % 4 ≡ c = omega arith in
    ap (λ (n : ℕ). letters_of n (value_from (4 * v + c) cs)) next
    ∙ letters_from_lem (suc k) (4 * v + c) cs parts.1
    ∙ append_assoc (letters_of k ((4 * v + c) / 4)) ((4 * v + c) % 4 ∷ []) cs
    ∙ rw (high, low) refl

pub letters_value : (cs : List ℕ) → are_codes cs ≡ true → letters_of (length cs) (value_of cs) ≡ cs
letters_value cs h = let all : 0 + length cs ≡ length cs = omega arith in rw all at (letters_from_lem 0 0 cs h)
