-- How many sequences fit: there is one number, what a map does to it, and what the verdict says of it. Assumes nothing.
use mathlib.Core.Path.{◌≡◌, refl, sym, ◌∙◌}
use mathlib.Core.Logic.{◌≢◌, ◌⊎◌, by_cases, ⊎_elim}
use mathlib.Core.List.{List, [], ◌∷◌, map}
use Prim.Native.Nat.{ℕ, suc, ◌^◌, ◌<◌, ◌≤◌}
use native.Mathlib.Nat.{pow-suc}
use native.Mathlib.Omega.{arith}
use native.Mathlib.Decide.{ℕ_discrete, dec_lt}
use lib.ListN.{length, length-map}
use lib.Pow.{pow-lt, pow_pos}
use Rattle.base_lists.specs.Members.{In, Rising, flat, rises, first, later}
use Rattle.build_sequence.specs.Verdict.{Before, Verdict, sole, several, no_build, Tells}
use Rattle.build_sequence.specs.Many.{Many}
use Rattle.base_lists.proofs.ListLaws.{in_map, map_in, in_cast, rising_shorter, not_in_nil, in_cons}
use Rattle.build_sequence.proofs.OrderLaws.{before_irr, before_or_after}

-- as many as are in the one list are in the other
pub many_one : {Fits : List ℕ → Type 0} {n n' : ℕ} → Many Fits n → Many Fits n' → n ≡ n'
many_one p q =
    let a = rising_shorter (λ x d. d refl) q.all p.differ (λ s h. q.none_else s (p.fit s h)) in
    let b = rising_shorter (λ x d. d refl) p.all q.differ (λ s h. p.none_else s (q.fit s h)) in
    omega (arith, p.count, q.count)

-- nothing fits
pub many_none : {Fits : List ℕ → Type 0} → ((s : List ℕ) → Fits s → ⊥) → Many Fits 0
many_none h =
    record { all = []; count = refl; differ = flat; fit = λ s x. absurd (not_in_nil x); none_else = λ s x. absurd (h s x) }

-- where 0 fit, none does
pub many_empty : {Fits : List ℕ → Type 0} → Many Fits 0 → (s : List ℕ) → Fits s → ⊥
many_empty m s f = go m.all m.count (m.none_else s f)
  where
    go : (xs : List (List ℕ)) → length xs ≡ 0 → In s xs → ⊥
    go [] e h = not_in_nil h
    go (x ∷ xs) e h = omega arith

-- a map that keeps the members of a list apart
pub differ_map : (f : List ℕ → List ℕ) {xs : List (List ℕ)} → Rising (λ (s t : List ℕ). s ≢ t) xs
    → ((s t : List ℕ) → In s xs → In t xs → f s ≡ f t → s ≡ t)
    → Rising (λ (s t : List ℕ). s ≢ t) (map f xs)
differ_map f flat one = flat
differ_map f (rises {x = a} {xs} up r) one =
    rises
    (λ y h e. let u = in_map f xs h in up u.0 u.1 (one a u.0 first (later u.1) (e ∙ u.2)))
    (differ_map f r (λ s t h k. one s t (later h) (later k)))

-- what fits is sent to what fits there, all of that is reached, and no two go to one
pub many_map : {Fits Fits' : List ℕ → Type 0} {n : ℕ} (f : List ℕ → List ℕ) → ((s : List ℕ) → Fits s → Fits' (f s))
    → ((s t : List ℕ) → Fits s → Fits t → f s ≡ f t → s ≡ t)
    → ((t : List ℕ) → Fits' t → (s : List ℕ) × Fits s × (t ≡ f s))
    → Many Fits n
    → Many Fits' n
many_map {Fits'} f there one back p =
    record {
      all = map f p.all;
      count = length-map p.all f ∙ p.count;
      differ = differ_map f p.differ (λ s t h k. one s t (p.fit s h) (p.fit t k));
      fit = λ t h. let u = in_map f p.all h in rw u.2 (there u.0 (p.fit u.0 u.1));
      none_else = λ t h. let u = back t h in in_cast u.2 (map_in f (p.none_else u.0 u.1));
    }

-- what fits here fits there, and the other way round
pub many_same : {Fits Fits' : List ℕ → Type 0} {n : ℕ} → ((s : List ℕ) → Fits s → Fits' s) → ((s : List ℕ) → Fits' s → Fits s)
    → Many Fits n
    → Many Fits' n
many_same there back p =
    record {
      all = p.all;
      count = p.count;
      differ = p.differ;
      fit = λ s h. there s (p.fit s h);
      none_else = λ s h. p.none_else s (back s h);
    }

-- a power of two has one exponent
pub exponent_one : (k k' : ℕ) → 2 ^ k ≡ 2 ^ k' → k ≡ k'
exponent_one k k' e =
    by_cases (ℕ_discrete k k') (λ h. h)
    (λ d. by_cases (dec_lt k k') (λ l. absurd (omega (arith, e, pow-lt l))) (λ l. absurd (omega (arith, e, pow-lt (less d l)))))
  where
    less : k ≢ k' → ¬ (k < k') → k' < k
    less d l = omega (arith, d)

-- ---- the number and the verdict

-- what a verdict says of the number
abbrev pub NumberBy : Verdict → ℕ → Type 0
NumberBy (sole s) n = n ≡ 1
NumberBy (several s) n = 2 ≤ n
NumberBy no_build n = n ≡ 0

pub many_sole : {Fits : List ℕ → Type 0} {s : List ℕ} → Tells Fits (sole s) → Many Fits 1
many_sole {s} t =
    record {
      all = s ∷ [];
      count = refl;
      differ = rises (λ y h. absurd (not_in_nil h)) flat;
      fit = λ r h. ⊎_elim (λ e. rw e t.0) (λ k. absurd (not_in_nil k)) (in_cons h);
      none_else = λ r h. in_cast (t.1 r h) first;
    }

pub many_by : {Fits : List ℕ → Type 0} {n : ℕ} (v : Verdict) → Tells Fits v → Many Fits n → NumberBy v n
many_by (sole s) t m = many_one m (many_sole t)
many_by no_build t m = many_one m (many_none t)
many_by {Fits} (several s) t m =
    let two = rising_shorter {R = λ (x y : List ℕ). x ≢ y} (λ x d. d refl) m.all
    (rises {x = t.1.0} {xs = s ∷ []} other (rises (λ y h. absurd (not_in_nil h)) flat)) inside in
    omega (arith, two, m.count)
  where
    other : (y : List ℕ) → In y (s ∷ []) → t.1.0 ≢ y
    other y h = ⊎_elim (λ e d. t.1.2 (d ∙ e)) (λ k. absurd (not_in_nil k)) (in_cons h)

    inside : (x : List ℕ) → In x (t.1.0 ∷ s ∷ []) → In x m.all
    inside x h =
        ⊎_elim (λ e. m.none_else x (rw e t.1.1))
        (λ k. ⊎_elim (λ e. m.none_else x (rw e t.0)) (λ j. absurd (not_in_nil j)) (in_cons k)) (in_cons h)

-- ---- and back

-- where one fits, no other does
pub many_only : {Fits : List ℕ → Type 0} → Many Fits 1 → {s : List ℕ} → Fits s → (t : List ℕ) → Fits t → t ≡ s
many_only m {s} f t g = go m.all m.count (m.none_else s f) (m.none_else t g)
  where
    go : (xs : List (List ℕ)) → length xs ≡ 1 → In s xs → In t xs → t ≡ s
    go [] n h k = absurd (not_in_nil h)
    go (x ∷ []) n h k =
        ⊎_elim (λ d. ⊎_elim (λ e. d ∙ sym e) (λ j. absurd (not_in_nil j)) (in_cons h)) (λ j. absurd (not_in_nil j)) (in_cons k)
    go (x ∷ y ∷ xs) n h k = absurd (omega arith)

-- where two fit, some other does
pub many_other : {Fits : List ℕ → Type 0} {n : ℕ} → 2 ≤ n → Many Fits n → (s : List ℕ) → (t : List ℕ) × Fits t × (t ≡ s → ⊥)
many_other {Fits} {n} l m s = go m.all m.count m.differ m.fit
  where
    go : (xs : List (List ℕ)) → length xs ≡ n → Rising (λ (x y : List ℕ). x ≢ y) xs → ((x : List ℕ) → In x xs → Fits x)
        → (t : List ℕ) × Fits t × (t ≡ s → ⊥)
    go [] k d f = absurd (omega arith)
    go (x ∷ []) k d f = absurd (omega arith)
    go (x ∷ y ∷ xs) k (rises up d) f =
        ⊎_elim (λ e. (y, f y (later first), λ h. up y first (e ∙ sym h))) (λ b. (x, f x first, apart b)) (before_or_after x s)
      where
        apart : Before x s ⊎ Before s x → x ≡ s → ⊥
        apart b h = ⊎_elim (λ c. before_irr s (rw h at c)) (λ c. before_irr s (rw h at c)) b

-- two to a power that is not 0
pub two_or_more : (k : ℕ) → 2 ≤ 2 ^ suc k
two_or_more k = omega (arith, pow-suc 2 k, pow_pos k)
