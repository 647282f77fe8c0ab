-- Laws of the words that can still stand at a place: one entry more of its list. No contract cites this file. Assumes nothing.
use mathlib.Core.Path.{◌≡◌, refl}
use mathlib.Core.Logic.{◌≢◌, ◌⊎◌, inl, inr, ⊎_elim, by_cases}
use Prim.Native.Nat.{ℕ, ◌<◌, ◌≤◌}
use native.Mathlib.Omega.{arith}
use native.Mathlib.Decide.{ℕ_discrete, dec_lt}
use Rattle.pair_theory.specs.Arranged.{Pairs, HasPlace}
use Rattle.pair_theory.specs.Chosen.{Possible, Seen}
use Rattle.pair_theory.proofs.Places.{OnlyNext, one_more}
use Rattle.pair_following.specs.Common.{Common, Joined, one_in, many_in}
use Rattle.pair_following.specs.declared.Found.{Found}
use Rattle.pair_following.specs.declared.Found.TheVariants.{One, More}

-- where a word is next to the least one
pub word_order : (w x : ℕ) → (w < x) ⊎ ((x ≡ w) ⊎ (x < w))
word_order w x = by_cases (ℕ_discrete x w) (λ e. inr (inl e)) (λ e. by_cases (dec_lt w x) inl (λ y. inr (inr (omega (arith, e)))))

module _ {c : Pairs} {s : ℕ → ℕ} {t : ℕ} (l : t < c.m) {b b' e : ℕ} (p : e < c.m) (next : OnlyNext c s t l b b' e) {w n : ℕ}
    (r : Common c s t b' w n) where
  common_not : (Possible c s t e → ⊥) → Common c s t b w n
  common_not x =
      record {
        none = λ z. one_more c s t l b b' e p next (λ f. Possible c s t f → ⊥) (r.none z) x;
        same = λ z. one_more c s t l b b' e p next (λ f. Possible c s t f → c.word f ≡ w) (r.same z) (λ y. absurd (x y));
        has = r.has;
      }

  module _ (can : Possible c s t e) where
    common_first : n ≡ 0 → Common c s t b (c.word e) 1
    common_first z =
        record {
          none = λ y. absurd (omega arith);
          same = λ _. one_more c s t l b b' e p next (λ f. Possible c s t f → c.word f ≡ c.word e)
              (λ f q y x. absurd (r.none z f q y x)) (λ y. refl);
          has = λ _. (e, p, can, refl);
        }

    common_same : n ≢ 0 → c.word e ≡ w → Common c s t b w n
    common_same z x =
        record {
          none = λ y. absurd (z y);
          same = λ y. one_more c s t l b b' e p next (λ f. Possible c s t f → c.word f ≡ w) (r.same y) (λ _. x);
          has = r.has;
        }

    -- several, of which one is known
    common_many : {x : ℕ} → (f : ℕ) × (f < c.m) × Possible c s t f × (c.word f ≡ x) → Common c s t b x 2
    common_many h = record { none = λ z. absurd (omega arith); same = λ z. absurd (omega arith); has = λ _. h }

    common_joined : {w' n' : ℕ} → Joined w n (c.word e) w' n' → Common c s t b w' n'
    common_joined {w'} {n'} j = by_cases (ℕ_discrete n 0) none (λ z. ⊎_elim (larger z) (⊎_elim (same z) (smaller z)) (word_order w (c.word e)))
      where
        none : n ≡ 0 → Common c s t b w' n'
        none z = let y = j.first z in rw (y.0, y.1) (common_first z)

        same : n ≢ 0 → c.word e ≡ w → Common c s t b w' n'
        same z x = let y = j.same z x in rw (y.0, y.1) (common_same z x)

        larger : n ≢ 0 → w < c.word e → Common c s t b w' n'
        larger z x = let y = j.more z x in rw (y.0, y.1) (common_many (r.has (omega (arith, z))))

        smaller : n ≢ 0 → c.word e < w → Common c s t b w' n'
        smaller z x = let y = j.less z x in rw (y.0, y.1) (common_many (e, p, can, refl))

  -- a turn of the loop
  pub common_also : HasPlace c e t → {w' n' : ℕ}
      → ((((c.m ≤ s e) ⊎ (s e ≡ t)) → ⊥) × (w' ≡ w) × (n' ≡ n)) ⊎ (((c.m ≤ s e) ⊎ (s e ≡ t)) × Joined w n (c.word e) w' n')
      → Common c s t b w' n'
  common_also h (inl (x, y, z)) = rw (y, z) (common_not (λ v. x v.1))
  common_also h (inr (x, j)) = common_joined (h, x) j

pub common_start : {c : Pairs} {s : ℕ → ℕ} {t b w : ℕ} → ((e : ℕ) → e < c.m → Seen c t b e → ⊥) → Common c s t b w 0
common_start h = record { none = λ _ e p z _. h e p z; same = λ z. absurd (omega arith); has = λ z. absurd (omega arith) }

pub common_end : {c : Pairs} {s : ℕ → ℕ} {t b w n : ℕ} → b ≤ 0 → Common c s t b w n → Common c s t 0 w n
common_end {b} h r = let x : b ≡ 0 = omega arith in rw x at r

-- what is found is something
pub some_found : {s : Found} {x : ℕ} → (s ≡ One x) ⊎ (s ≡ More x) → (one_in s ≡ x) × (many_in s ≡ 0 → ⊥)
some_found (inl e) = rw e (refl, λ z. absurd (omega arith))
some_found (inr e) = rw e (refl, λ z. absurd (omega arith))
