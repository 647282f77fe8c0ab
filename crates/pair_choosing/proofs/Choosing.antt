-- Laws of choosing the word of a place. No contract cites this file. Assumes nothing.
use mathlib.Core.Path.{◌≡◌, refl, sym, ◌∙◌}
use mathlib.Core.Bool.{Bool, true, false, true≢false}
use mathlib.Core.Logic.{◌≢◌, ◌⊎◌, inl, inr, ⊎_elim, by_cases}
use Prim.Native.Nat.{ℕ, suc, ◌-◌, ◌<◌, ◌≤◌}
use native.Mathlib.Omega.{arith}
use native.Mathlib.Decide.{ℕ_discrete, dec_lt}
use Rattle.pair_theory.specs.Arranged.{Pairs, Inside, HasPlace, Arranged}
use Rattle.pair_theory.specs.Chosen.{Agrees, Closed, Possible, HasWord, Refuted, Followed, Seen, Cleared, NoBuild}
use Rattle.pair_following.specs.Following.{nth, Progress, Trail, Follows, Attempt}
use Rattle.pair_choosing.specs.Choosing.{least_of, Kept, Tries, Weighed, Picked, pick_of, Drops, DropsAll, Chooses}
use Rattle.pair_following.specs.Common.{Common, Joined}
use Rattle.pair_theory.proofs.Extends.{extends, over, over_agrees, filled, was_possible}
use Rattle.pair_following.proofs.ExclusionLaws.{stands_other, other_than}
use Rattle.pair_following.proofs.CommonLaws.{word_order}
use Rattle.pair_theory.proofs.Places.{OnlyNext, one_more, seen_all, tried_first, tried_fails, tried_same, tried_larger, tried_smaller}
use Rattle.pair_theory.proofs.Places.{chosen_same, chosen_tried, tried_there, cleared_none}

-- ---- one entry more of the list

module _ {c : Pairs} {s : ℕ → ℕ} {t : ℕ} (l : t < c.m) {b b' e : ℕ} (p : e < c.m) (next : OnlyNext c s t l b b' e) {w n : ℕ} where
  pub weighed_not : Weighed c s t b' w n → Refuted c s e t → Weighed c s t b w n
  weighed_not r x =
      record {
        none = λ z. one_more c s t l b b' e p next (λ f. Refuted c s f t) (r.none z) x;
        some = λ z. tried_fails c s t l b b' e p next w (n - 1) (r.some z) x;
        few = r.few;
      }

  module _ (r : Weighed c s t b' w n) {g : ℕ → ℕ} (f : Followed c s e t g) where
    pub weighed_first : n ≡ 0 → Weighed c s t b (c.word e) 1
    weighed_first z =
        record {
          none = λ y. absurd (omega arith);
          some = λ _. tried_first c s t l b b' e p next g f (r.none z);
          few = omega arith;
        }

    pub weighed_same : n ≢ 0 → c.word e ≡ w → Weighed c s t b w n
    weighed_same z x =
        record {
          none = λ y. absurd (z y);
          some = λ y. tried_same c s t l b b' e p next w (n - 1) (r.some y) x;
          few = r.few;
        }

    pub weighed_larger : n ≢ 0 → w < c.word e → Weighed c s t b w 2
    weighed_larger z x =
        record {
          none = λ y. absurd (omega arith);
          some = λ y. tried_larger c s t l b b' e p next w (n - 1) (r.some (omega (arith, z))) g f x;
          few = omega arith;
        }

    pub weighed_smaller : n ≢ 0 → c.word e < w → Weighed c s t b (c.word e) 2
    weighed_smaller z x =
        record {
          none = λ y. absurd (omega arith);
          some = λ y. tried_smaller c s t l b b' e p next w (n - 1) (r.some (omega (arith, z))) g f x;
          few = omega arith;
        }

pub weighed_start : {c : Pairs} {s : ℕ → ℕ} {t b w : ℕ} → ((e : ℕ) → e < c.m → Seen c t b e → ⊥) → Weighed c s t b w 0
weighed_start h = record { none = λ _ e p z. absurd (h e p z); some = λ z. absurd (omega arith); few = omega arith }

-- ---- the outcomes at a place

-- some arrangement that agrees, where there is one, has an entry at t
module _ {c : Pairs} {s : ℕ → ℕ} {t : ℕ} (i : Inside c) (k : Closed c s) (l : t < c.m) where
  pub none_there : ((e : ℕ) → e < c.m → Seen c t 0 e → Refuted c s e t) → NoBuild c
  none_there h σ a =
      let b = extends c s σ k a in
      let y = filled c (over c s σ) i b t l in
      h y.0 y.1 (seen_all c t y.0 (rw y.2 at (b.allowed y.0 y.1))) (over c s σ) b (over_agrees c s σ) y.2

  pub none_possible : {w : ℕ} → Common c s t 0 w 0 → NoBuild c
  none_possible r = none_there (λ e p z σ a g x. r.none refl e p z (was_possible c s σ t e a g p x))

module _ {c : Pairs} {b : Progress} {t : ℕ} (k : Closed c (nth b.put)) (h : Trail c.m b) where
  pub chooses_same : {w : ℕ} → Common c (nth b.put) t 0 w 1 → Chooses c b (pick_of t w) 0 b true
  chooses_same {w} r =
      record {
        shape = h;
        good = λ _. chosen_same c (nth b.put) t w k (λ e p x. r.same refl e p (seen_all c t e x.0) x);
        few = omega arith;
        bad = λ x. absurd (true≢false x);
      }

pub chooses_none : {c : Pairs} {b a : Progress} {t w k : ℕ} → k < 2 → Trail c.m a → NoBuild c → Chooses c b (pick_of t w) k a false
chooses_none f h x = record { shape = h; good = λ y. absurd (true≢false (sym y)); few = f; bad = λ _. x }

module _ {c : Pairs} {b a : Progress} {t w n : ℕ} (l : t < c.m) (r : Weighed c (nth b.put) t 0 w n) (some : 0 < n) {ok : Bool}
    (d : DropsAll c b (pick_of t w) a ok) where
  pub chooses_tried : Chooses c b (pick_of t w) (n - 1) a ok
  chooses_tried =
      record {
        shape = d.shape;
        good = λ x. chosen_tried c (nth b.put) t l w (n - 1) (r.some some) (nth a.put) (d.good x);
        few = omega (arith, r.few);
        bad = λ x σ ar. let y = tried_there c (nth b.put) t l w (n - 1) (r.some some) σ ar in d.bad x y.0 y.1 y.2 y.3;
      }

-- ---- an entry goes from t

module _ {c : Pairs} {b : Progress} {t w e : ℕ} (h : Trail c.m b) (ep : e < c.m) where
  module _ (d : c.word e ≢ w) (st : HasPlace c e t) where
    -- where t has the word w, e is at its other place
    off : {σ : ℕ → ℕ} → Arranged c σ → HasWord c σ t w → σ e ≡ other_than c e t
    off {σ} a y = stands_other c st (a.allowed e ep) (λ z. d (y e ep z))

    pub only_there : other_than c e t ≡ t → (σ : ℕ → ℕ) → Arranged c σ → Agrees c (nth b.put) σ → σ e ≡ t
    only_there x σ a g = by_cases (ℕ_discrete (σ e) t) (λ y. y) (λ y. stands_other c st (a.allowed e ep) y ∙ x)

    pub drops_follow : {q : ℕ} {a : Progress} {ok : Bool} → q ≡ other_than c e t → q ≢ t → other_than c e t < c.m → Follows c b e q a ok
        → Drops c b e (pick_of t w) a ok
    drops_follow {q} {a} x y z v =
        record {
          shape = v.shape;
          closed = λ i. (v.good i).closed;
          keeps = v.traced.keeps;
          forced = λ i σ ar g u. (v.good i).forced σ ar g (off ar u ∙ sym x);
          gone = λ i. gone (v.good i).takes;
          bad = λ i σ ar g u. v.bad i σ ar g (off ar u ∙ sym x);
        }
      where
        gone : nth a.put e ≡ q → Possible c (nth a.put) t e → c.word e ≡ w
        gone u (s, inl i) = absurd (omega arith)
        gone u (s, inr i) = absurd (y (sym u ∙ i))

-- the entries of the place from slot x on that have another word are gone
pub record Dropping (c : Pairs) (b : Progress) (k : Picked) (x : ℕ) (a : Progress) : Type 0 where
  pub shape : Trail c.m a
  pub cleared : Cleared c (nth b.put) k.place x k.word (nth a.put)

module _ {c : Pairs} {b m a : Progress} {t w x x' e : ℕ} (l : t < c.m) (p : e < c.m) (next : OnlyNext c (nth b.put) t l x x' e)
    (r : Dropping c b (pick_of t w) x' m) {ok : Bool} (d : Drops c m e (pick_of t w) a ok) where
  pub dropping_more : ok ≡ true → Dropping c b (pick_of t w) x a
  dropping_more h =
      record {
        shape = d.shape;
        cleared =
            record {
              closed = d.closed h;
              keeps = λ f q x. d.keeps f q (rw (r.cleared.keeps f q x) x) ∙ r.cleared.keeps f q x;
              forced = λ σ ar g z. d.forced h σ ar (r.cleared.forced σ ar g z) z;
              out = one_more c (nth b.put) t l x x' e p next (λ f. Possible c (nth a.put) t f → c.word f ≡ w) old (d.gone h);
            };
      }
    where
      old : (f : ℕ) → f < c.m → Seen c t x' f → Possible c (nth a.put) t f → c.word f ≡ w
      old f q z (st, inl u) = r.cleared.out f q z
          (st, by_cases (dec_lt (nth m.put f) c.m) (λ i. absurd (omega (arith, d.keeps f q i))) (λ i. inl (omega arith)))
      old f q z (st, inr u) = r.cleared.out f q z
          (st, by_cases (dec_lt (nth m.put f) c.m) (λ i. inr (sym (d.keeps f q i) ∙ u)) (λ i. inl (omega arith)))

  pub dropping_stops : ok ≡ false → DropsAll c b (pick_of t w) a ok
  dropping_stops h =
      record {
        shape = d.shape;
        good = λ x. absurd (true≢false (sym x ∙ h));
        bad = λ _ σ ar g z. d.bad h σ ar (r.cleared.forced σ ar g z) z;
      }

pub dropping_start : {c : Pairs} {b : Progress} {t w x : ℕ} → Closed c (nth b.put) → Trail c.m b
    → ((e : ℕ) → e < c.m → Seen c t x e → ⊥) → Dropping c b (pick_of t w) x b
dropping_start {c} {b} {t} {w} {x} k h z = record { shape = h; cleared = cleared_none c (nth b.put) t x w k z }

-- ---- with one word more

module _ (c : Pairs) (s : ℕ → ℕ) {t : ℕ} (l : t < c.m) {b b' e : ℕ} (p : e < c.m) (next : OnlyNext c s t l b b' e) {w n w' n' : ℕ}
    (j : Joined w n (c.word e) w' n') where
  pub weighed_joined : Weighed c s t b' w n → (g : ℕ → ℕ) → Followed c s e t g → Weighed c s t b w' n'
  weighed_joined r g f = by_cases (ℕ_discrete n 0) none (λ z. ⊎_elim (larger z) (⊎_elim (same z) (smaller z)) (word_order w (c.word e)))
    where
      none : n ≡ 0 → Weighed c s t b w' n'
      none z = let y = j.first z in rw (y.0, y.1) (weighed_first l p next r f z)

      same : n ≢ 0 → c.word e ≡ w → Weighed c s t b w' n'
      same z x = let y = j.same z x in rw (y.0, y.1) (weighed_same l p next r f z x)

      larger : n ≢ 0 → w < c.word e → Weighed c s t b w' n'
      larger z x = let y = j.more z x in rw (y.0, y.1) (weighed_larger l p next r f z x)

      smaller : n ≢ 0 → c.word e < w → Weighed c s t b w' n'
      smaller z x = let y = j.less z x in rw (y.0, y.1) (weighed_smaller l p next r f z x)

-- a turn of the loop
pub weighed_also : {c : Pairs} {s : ℕ → ℕ} {t : ℕ} (l : t < c.m) {b b' e : ℕ} (p : e < c.m) (next : OnlyNext c s t l b b' e)
    {w n w' n' : ℕ}
    → Weighed c s t b' w n
    → (Refuted c s e t × (w' ≡ w) × (n' ≡ n)) ⊎ ((g : ℕ → ℕ) × Followed c s e t g × Joined w n (c.word e) w' n') → Weighed c s t b w' n'
weighed_also {c} {s} {t} l {b} {b'} {e} p next {w} {n} r (inl (x, y, z)) = rw (y, z) (weighed_not l p next r x)
weighed_also {c} {s} {t} l {b} {b'} {e} p next {w} {n} {w'} {n'} r (inr (g, f, j)) = weighed_joined c s l p next j r g f

pub weighed_end : {c : Pairs} {s : ℕ → ℕ} {t b w n : ℕ} → b ≤ 0 → Weighed c s t b w n → Weighed c s t 0 w n
weighed_end {b} h r = let x : b ≡ 0 = omega arith in rw x at r

kept_both : {c : Pairs} {b m a : Progress} → Kept c b m → Kept c m a → Kept c b a
kept_both h k = record { same = k.same ∙ h.same; shape = k.shape }

pub kept_none : {c : Pairs} {b : Progress} → Trail c.m b → Kept c b b
kept_none h = record { same = refl; shape = h }

pub tries_of : {c : Pairs} {b a : Progress} {e t : ℕ} {ok : Bool} {w n w' n' : ℕ} → Attempt c b e t a ok
    → ((ok ≡ false) × (w' ≡ w) × (n' ≡ n)) ⊎ ((ok ≡ true) × Joined w n (c.word e) w' n')
    → Kept c b a × Tries c (nth b.put) e t (least_of w n) (least_of w' n')
tries_of h (inl (x, y, z)) = (record { same = h.same; shape = h.shape }, record { way = inl (h.no x, y, z) })
tries_of h (inr (x, j)) = let y = h.yes x in (record { same = h.same; shape = h.shape }, record { way = inr (y.0, y.1, j) })

-- one entry more was tried
pub weighing_more : {c : Pairs} {b m a : Progress} {t : ℕ} (l : t < c.m) {x x' e : ℕ} (p : e < c.m)
    (next : OnlyNext c (nth b.put) t l x x' e) {w n w' n' : ℕ} → Kept c b m → Weighed c (nth b.put) t x' w n
    → Kept c m a × Tries c (nth m.put) e t (least_of w n) (least_of w' n') → Kept c b a × Weighed c (nth b.put) t x w' n'
weighing_more l p next h r d = (kept_both h d.0, weighed_also l p next r (rw h.same at d.1.way))

-- ---- the outcomes, as the code has them

module _ {c : Pairs} {b : Progress} {t : ℕ} (i : Inside c) (k : Closed c (nth b.put)) (h : Trail c.m b) (l : t < c.m) where
  pub choose_none : {w j : ℕ} → Common c (nth b.put) t 0 w j → j ≡ 0 → Chooses c b (pick_of t 0) 0 b false
  choose_none {w} r z = chooses_none (omega arith) h (none_possible i k l (rw z at r))

  pub choose_one : {w j : ℕ} → Common c (nth b.put) t 0 w j → j ≡ 1 → Chooses c b (pick_of t w) 0 b true
  choose_one {w} r z = chooses_same k h (rw z at r)

  pub choose_weighed_none : {m : Progress} {w j : ℕ} → Kept c b m × Weighed c (nth b.put) t 0 w j → j ≡ 0 → Chooses c b (pick_of t 0) 0 m false
  choose_weighed_none g z = chooses_none (omega arith) g.0.shape (none_there i k l (g.1.none z))

  module _ {m : Progress} {w j : ℕ} (g : Kept c b m × Weighed c (nth b.put) t 0 w (suc j)) {a : Progress} where
    from : {ok : Bool} → DropsAll c m (pick_of t w) a ok → Chooses c b (pick_of t w) (suc j - 1) a ok
    from d =
        chooses_tried l g.1 (omega arith)
        (record { shape = d.shape; good = λ x. rw g.0.same at (d.good x); bad = λ x. rw g.0.same at (d.bad x) })

    pub choose_kept : DropsAll c m (pick_of t w) a true → Chooses c b (pick_of t w) j a true
    choose_kept d = let less : suc j - 1 ≡ j = omega arith in rw less at (from d)

    pub choose_clash : DropsAll c m (pick_of t w) a false → Chooses c b (pick_of t 0) 0 a false
    choose_clash d = chooses_none (omega arith) d.shape ((from d).bad refl)
