-- Laws of keys: the marks of few entries are a small number, and equal keys are of equal places, marks and last letters. Assumes nothing.
use mathlib.Core.Path.{◌≡◌, refl, sym, ap, ◌∙◌}
use mathlib.Core.Logic.{⊎_elim}
use mathlib.Core.Bool.{Bool, true, false, cond}
use mathlib.Core.List.{List, [], ◌∷◌, foldl}
use Prim.Native.Nat.{ℕ, ◌+◌, ◌*◌, ◌/◌, ◌%◌, ◌^◌, ◌≤◌, ◌<◌}
use native.Mathlib.Omega.{arith}
use native.Mathlib.Nat.{pow-suc, pow-zero, mul_comm, mul_assoc, mul-add-div_right, div-eq_of_lt, mul-add-mod_self_right, mod-eq_of_lt}
use lib.Pow.{pow_mono}
use lib.Dec.{eqb}
use lib.ListN.{length, get_or, drop}
use Rattle.base_lists.proofs.Fold.{fold_end}
use Rattle.base_lists.specs.Members.{In, first, later}
use Rattle.base_lists.proofs.ListLaws.{not_in_nil, in_cons}
use Rattle.span_memory.specs.Memory.{few_marks, mark_values, mark_of, with_mark, bits_of, Bits, KeyOf}

-- ---- the marks as digits

pub mark_small : (marks : List ℕ) (j : ℕ) → mark_of marks j ≤ 1
mark_small marks j = go (eqb (get_or marks j 0) 0)
  where
    go : (b : Bool) → cond b 0 1 ≤ 1
    go true = omega arith
    go false = omega arith

-- the digits, one entry after the other
pub bits_is : (marks js : List ℕ) → bits_of marks js ≡ foldl (with_mark marks) 0 js
unfolding bits_of
bits_is marks js = refl

-- where each entry is left they are all 0
pub bits_none : (marks js : List ℕ) → ((j : ℕ) → In j js → eqb (get_or marks j 0) 0 ≡ true) → bits_of marks js ≡ 0
unfolding bits_of
bits_none marks [] h = refl
bits_none marks (j ∷ js) h = rw (h j first) (bits_none marks js (λ k m. h k (later m)))

fold_few : (marks : List ℕ) (b c : ℕ) (js : List ℕ) → b < c → foldl (with_mark marks) b js < c * 2 ^ length js
fold_few marks b c [] h = omega (arith, pow-zero 2)
fold_few marks b c (j ∷ js) h =
    let more = fold_few marks (with_mark marks b j) (c * 2) js (omega (arith, mark_small marks j)) in
    rw (pow-suc 2 (length js)) (rw (mul_comm (2 ^ length js) 2) (rw (← mul_assoc c 2 (2 ^ length js)) more))

-- the marks of a list are a number of as many digits
pub bits_few : (marks js : List ℕ) → bits_of marks js < 2 ^ length js
unfolding bits_of
bits_few marks js = omega (arith, fold_few marks 0 1 js (omega arith))

-- so few marks are not many values
few_bits : (n bits : ℕ) → n ≤ few_marks → bits < 2 ^ n → bits < mark_values
few_bits n bits h b = let g : 2 ^ n ≤ 2 ^ few_marks = pow_mono {i = n} {j = few_marks} h in omega (arith, g)

-- the loop: the marks of the first k entries are told
pub record Telling (marks js : List ℕ) (k bits : ℕ) : Type 0 where
  pub in_list : k ≤ length js
  pub few : bits < 2 ^ k
  pub rest : foldl (with_mark marks) bits (drop k js) ≡ bits_of marks js

module _ (marks js : List ℕ) where
  pub telling_none : Telling marks js 0 0
  unfolding bits_of
  telling_none = record { in_list = omega arith; few = omega arith; rest = refl }

  module _ {k bits : ℕ} (s : Telling marks js k bits) (short : length js ≤ few_marks) where
    pub telling_few : bits < mark_values
    telling_few = few_bits k bits (omega (arith, s.in_list)) s.few

    pub telling_all : length js ≤ k → Bits marks js bits
    telling_all h = record { all = sym (fold_end (with_mark marks) bits js k h) ∙ s.rest; few = telling_few }

-- ---- equal digits are equal marks

split_bit : (a a' : Bool) (b b' : ℕ) → 2 * b + cond a 0 1 ≡ 2 * b' + cond a' 0 1 → (b ≡ b') × (a ≡ a')
split_bit true true b b' e = (omega arith, refl)
split_bit true false b b' e = absurd (omega arith)
split_bit false true b b' e = absurd (omega arith)
split_bit false false b b' e = (omega arith, refl)

digits_same : (marks marks' js : List ℕ) (b b' : ℕ) → foldl (with_mark marks) b js ≡ foldl (with_mark marks') b' js
    → (b ≡ b') × ((j : ℕ) → In j js → eqb (get_or marks j 0) 0 ≡ eqb (get_or marks' j 0) 0)
digits_same marks marks' [] b b' e = (e, λ j h. absurd (not_in_nil h))
digits_same marks marks' (j ∷ js) b b' e =
    let u = digits_same marks marks' js (with_mark marks b j) (with_mark marks' b' j) e in
    let s = split_bit (eqb (get_or marks j 0) 0) (eqb (get_or marks' j 0) 0) b b' u.0 in
    (s.0, λ k h. ⊎_elim (λ q. rw q s.1) (λ m. u.1 k m) (in_cons h))

pub bits_same : (marks marks' js : List ℕ) → bits_of marks js ≡ bits_of marks' js
    → (j : ℕ) → In j js → eqb (get_or marks j 0) 0 ≡ eqb (get_or marks' j 0) 0
unfolding bits_of
bits_same marks marks' js e = (digits_same marks marks' js 0 0 e).1

-- ---- equal keys

split : {n : ℕ} (x w x' w' : ℕ) → w < n → w' < n → x * n + w ≡ x' * n + w' → (x ≡ x') × (w ≡ w')
split {n} x w x' w' h h' e = (sym (quotient x w h) ∙ ap (λ k. k / n) e ∙ quotient x' w' h', sym (rest x w h) ∙ ap (λ k. k % n) e ∙ rest x' w' h')
  where
    quotient : (y v : ℕ) → v < n → (y * n + v) / n ≡ y
    quotient y v g = let some : 0 < n = omega arith in mul-add-div_right some y v ∙ ap (λ k. y + k) (div-eq_of_lt g) ∙ omega arith

    rest : (y v : ℕ) → v < n → (y * n + v) % n ≡ v
    rest y v g = mul-add-mod_self_right y n v ∙ mod-eq_of_lt g

-- what a key tells: the place, the marks in the list of the place, and the last letters
pub key_tells : {marks js marks' js' : List ℕ} {i want i' want' key : ℕ} → KeyOf marks js i want key → KeyOf marks' js' i' want' key
    → (i ≡ i') × (bits_of marks js ≡ bits_of marks' js') × (want ≡ want')
key_tells {marks} {js} {marks'} {js'} {i} {want} {i'} {want'} k k' =
    let tail = split (i * mark_values + bits_of marks js) want (i' * mark_values + bits_of marks' js') want' k.low k'.low
    (omega (arith, k.made, k'.made)) in
    let head = split i (bits_of marks js) i' (bits_of marks' js') k.few k'.few tail.0 in
    (head.0, head.1, tail.1)
