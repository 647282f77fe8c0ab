-- Numbers that may be listed: what is read is a number in decimal, and a number in decimal reads as itself. Assumes nothing.
use mathlib.Core.Path.{◌≡◌, refl, sym, ap, ◌∙◌}
use mathlib.Core.Logic.{◌⊎◌, inl, inr, ⊎_elim}
use mathlib.Core.Bool.{Bool, true, false, cond}
use mathlib.Core.List.{List, [], ◌∷◌, ◌++◌, append_assoc}
use mathlib.Core.Option.{none, some}
use Prim.Native.Nat.{ℕ, zero, suc, ◌-◌, ◌/◌, ◌%◌, ◌≤◌, ◌<◌}
use native.Mathlib.Omega.{arith}
use lib.ListN.{length}
use lib.Dec.{leb, ltb, eqb}
use borrow.Author.Tests.{leb-true, ltb-true, ltb-false, le-leb, ne_eqb, eqb-true, eqb-false}
use Rattle.base_lists.proofs.TestLaws.{both}
use Rattle.base_text.specs.Text.{digit, decimal}
use Rattle.base_text.proofs.DecimalLaws.{decimal_one, decimal_more}
use Rattle.text_probes.specs.Line.{most_number}
use Rattle.text_probes.specs.Reading.{digit0, digit9, Read, is_digit, next_value, read_digits, read_number}
use Rattle.text_probes.proofs.FindLaws.{first_at, lack_joined, lack_one}

pub lt_or_le : (a b : ℕ) → (a < b) ⊎ (b ≤ a)
lt_or_le a b = go (ltb a b) refl
  where
    go : (t : Bool) → ltb a b ≡ t → (a < b) ⊎ (b ≤ a)
    go true q = inl (ltb-true a b q)
    go false q = inr (ltb-false a b q)

-- ---- one digit

pub digit_is : (b : ℕ) → is_digit b ≡ true → (digit0 ≤ b) × (b ≤ digit9)
digit_is b e = let ends = both (leb digit0 b) (leb b digit9) e in (leb-true digit0 b ends.0, leb-true b digit9 ends.1)

pub is_digit_lem : (b : ℕ) → digit0 ≤ b → b ≤ digit9 → is_digit b ≡ true
is_digit_lem b from to = rw (le-leb digit0 b from) (le-leb b digit9 to)

module _ (v b : ℕ) (bs : List ℕ) where
  pub digits_more : is_digit b ≡ true → leb (next_value v b) most_number ≡ true → read_digits v (b ∷ bs) ≡ read_digits (next_value v b) bs
  unfolding read_digits
  digits_more d s = rw d (rw s refl)

  pub digits_end : is_digit b ≡ false → read_digits v (b ∷ bs) ≡ some (record { what = v; rest = b ∷ bs })
  unfolding read_digits
  digits_end d = rw d refl

-- ---- what is read

-- a number that is not 0, with digits after it
module _ (b : ℕ) (v : ℕ) (some-digit : 0 < v) (of : is_digit b ≡ true) where
  pub decimal_next : decimal v ++ (b ∷ []) ≡ decimal (next_value v b)
  decimal_next =
      let ends = digit_is b of in
      let tens : next_value v b / 10 ≡ v = omega (arith, ends.0, ends.1) in
      let ones : digit (next_value v b % 10) ≡ b = omega (arith, ends.0, ends.1) in
      sym (decimal_more (next_value v b) (omega arith) ∙ rw (tens, ones) refl)

pub record IsRead (xs : List ℕ) (r : Read ℕ) : Type 0 where
  pub text : xs ≡ decimal r.what ++ r.rest
  pub small : r.what ≤ most_number

digits_read : (v : ℕ) (xs : List ℕ) (r : Read ℕ) → 0 < v → v ≤ most_number → read_digits v xs ≡ some r → IsRead (decimal v ++ xs) r
unfolding read_digits
digits_read v [] r h g e = let same : record { what = v; rest = [] } ≡ r = cc in rw (sym same) (record { text = refl; small = g })
digits_read v (b ∷ bs) r h g e = go (digits_read (next_value v b) bs r) (is_digit b) refl (leb (next_value v b) most_number) refl e
  where
    go : (0 < next_value v b → next_value v b ≤ most_number → read_digits (next_value v b) bs ≡ some r → IsRead (decimal (next_value v b) ++ bs) r)
        → (t : Bool) → is_digit b ≡ t → (u : Bool) → leb (next_value v b) most_number ≡ u
        → cond t (cond u (read_digits (next_value v b) bs) none) (some (record { what = v; rest = b ∷ bs })) ≡ some r
        → IsRead (decimal v ++ (b ∷ bs)) r
    go next false q u s e = let same : record { what = v; rest = b ∷ bs } ≡ r = cc in rw (sym same) (record { text = refl; small = g })
    go next true q false s e = let z : ◌≡◌ {A = ℕ} 0 1 = cc in absurd (omega arith)
    go next true q true s e =
        let later = next (omega arith) (leb-true (next_value v b) most_number s) e in
        let joined : decimal v ++ (b ∷ bs) ≡ decimal (next_value v b) ++ bs =
        sym (append_assoc (decimal v) (b ∷ []) bs) ∙ ap (λ (ys : List ℕ). ys ++ bs) (decimal_next b v h q) in
        record { text = joined ∙ later.text; small = later.small }

pub number_read : (xs : List ℕ) (r : Read ℕ) → read_number xs ≡ some r → IsRead xs r
unfolding read_number
number_read [] r e = let z : ◌≡◌ {A = ℕ} 0 1 = cc in absurd (omega arith)
number_read (b ∷ bs) r e = go (eqb b digit0) refl (is_digit b) refl e
  where
    go : (t : Bool) → eqb b digit0 ≡ t → (u : Bool) → is_digit b ≡ u
        → cond t (some (record { what = 0; rest = bs })) (cond u (read_digits (b - digit0) bs) none) ≡ some r → IsRead (b ∷ bs) r
    go true q u d e =
        let same : record { what = 0; rest = bs } ≡ r = cc in
        rw (sym same) (record { text = ap (λ (x : ℕ). x ∷ bs) (eqb-true b digit0 q) ∙ ap (λ (ys : List ℕ). ys ++ bs) (sym (decimal_one 0 (omega arith))); small = omega arith })
    go false q false d e = let z : ◌≡◌ {A = ℕ} 0 1 = cc in absurd (omega arith)
    go false q true d e =
        let ends = digit_is b d in
        let other = eqb-false b digit0 q in
        let above : 0 < b - digit0 = ⊎_elim (λ h. h) (λ h. absurd (other (omega (arith, ends.0)))) (lt_or_le 0 (b - digit0)) in
        let own : decimal (b - digit0) ≡ b ∷ [] =
        decimal_one (b - digit0) (omega (arith, ends.1)) ∙ ap (λ (x : ℕ). x ∷ []) (omega (arith, ends.0)) in
        let later = digits_read (b - digit0) bs r above (omega (arith, ends.1)) e in
        record { text = ap (λ (ys : List ℕ). ys ++ bs) (sym own) ∙ later.text; small = later.small }

-- ---- what is written

module _ (ys : List ℕ) where
  number_one : (n : ℕ) → 0 < n → n < 10 → read_number (decimal n ++ ys) ≡ read_digits n ys
  unfolding read_number
  number_one n h g =
      let own = decimal_one n g in
      let not-0 : eqb (digit n) digit0 ≡ false = ne_eqb (digit n) digit0 (λ e. omega arith) in
      let is : is_digit (digit n) ≡ true = is_digit_lem (digit n) (omega arith) (omega arith) in
      let value : digit n - digit0 ≡ n = omega arith in
      rw own (rw not-0 (rw is (rw value refl)))

-- through the digits of n
number_through : (k n : ℕ) → n ≤ k → 0 < n → n ≤ most_number → (ys : List ℕ) → read_number (decimal n ++ ys) ≡ read_digits n ys
number_through zero n h g few ys = absurd (omega arith)
number_through (suc k) n h g few ys =
    ⊎_elim (number_one ys n g)
    (λ more. longer more (number_through k (n / 10) (omega arith) (omega arith) (omega arith) (digit (n % 10) ∷ ys))) (lt_or_le n 10)
  where
    longer : 10 ≤ n → read_number (decimal (n / 10) ++ (digit (n % 10) ∷ ys)) ≡ read_digits (n / 10) (digit (n % 10) ∷ ys)
        → read_number (decimal n ++ ys) ≡ read_digits n ys
    longer more through =
        let value : next_value (n / 10) (digit (n % 10)) ≡ n = omega arith in
        let is : is_digit (digit (n % 10)) ≡ true = is_digit_lem (digit (n % 10)) (omega arith) (omega arith) in
        let joined : decimal n ++ ys ≡ decimal (n / 10) ++ (digit (n % 10) ∷ ys) =
        ap (λ (xs : List ℕ). xs ++ ys) (decimal_more n more) ∙ append_assoc (decimal (n / 10)) (digit (n % 10) ∷ []) ys in
        ap read_number joined
        ∙ through
        ∙ digits_more (n / 10) (digit (n % 10)) ys is (rw value (le-leb n most_number few))
        ∙ ap (λ (v : ℕ). read_digits v ys) value

number_zero : (ys : List ℕ) → read_number (decimal 0 ++ ys) ≡ some (record { what = 0; rest = ys })
unfolding read_number
number_zero ys = rw (decimal_one 0 (omega arith)) refl

-- a number, up to a byte that is no digit
pub number_text : (n b : ℕ) (bs : List ℕ) → n ≤ most_number → is_digit b ≡ false
    → read_number (decimal n ++ (b ∷ bs)) ≡ some (record { what = n; rest = b ∷ bs })
number_text zero b bs few other = number_zero (b ∷ bs)
number_text (suc n) b bs few other =
    number_through (suc n) (suc n) (omega arith) (omega arith) few (b ∷ bs) ∙ digits_end (suc n) b bs other

-- ---- a number has no byte but digits

module _ (b : ℕ) (other : is_digit b ≡ false) where
  digit_lacks : (d : ℕ) → d < 10 → first_at b (digit d ∷ []) ≡ 1
  unfolding first_at
  digit_lacks d h = lack_one b (digit d) [] apart refl
    where
      apart : digit d ≡ b → ⊥
      apart e =
          let is : is_digit b ≡ true = rw (sym e) (is_digit_lem (digit d) (omega arith) (omega arith)) in
          let z : ◌≡◌ {A = ℕ} 0 1 = cc in
          omega arith

  pub decimal_lacks : (k n : ℕ) → n ≤ k → first_at b (decimal n) ≡ length (decimal n)
  decimal_lacks zero n h = rw (decimal_one n (omega arith)) (digit_lacks n (omega arith))
  decimal_lacks (suc k) n h =
      ⊎_elim (λ few. rw (decimal_one n few) (digit_lacks n few))
      (λ more. rw (decimal_more n more)
      (lack_joined b (decimal (n / 10)) (digit (n % 10) ∷ []) (decimal_lacks k (n / 10) (omega arith)) (digit_lacks (n % 10) (omega arith))))
      (lt_or_le n 10)
