-- The walk over indices: a list of the candidates' indices in the order of word, end and index gives what the walk tries, if of equal words
-- that stand together the first is taken. This is how the code finds it. Assumes nothing.
use mathlib.Core.Path.{◌≡◌, refl, sym, ◌∙◌, ap}
use mathlib.Core.Logic.{◌⊎◌, inl, inr, ⊎_elim}
use mathlib.Core.Bool.{Bool, true, false, cond}
use mathlib.Core.List.{List, [], ◌∷◌}
use Prim.Native.Nat.{ℕ, ◌≤◌, ◌<◌}
use native.Mathlib.Omega.{arith}
use lib.Dec.{eqb}
use borrow.Author.Tests.{eqb-true, eqb-false}
use Rattle.base_lists.specs.Members.{In, first, later, Rising, flat, rises}
use Rattle.span_theory.specs.Walk.{insert, by_word}
use Rattle.base_lists.proofs.ListLaws.{not_in_nil, in_cons, rising_one}
use Rattle.span_theory.proofs.Tried.{by_word_in, by_word_rising, by_word_serves, insert_best}

module _ (word last : ℕ → ℕ) where
  -- j ends before k, or with it and has no higher index
  pub record Ahead (j k : ℕ) : Type 0 where
    pub ends : last j ≤ last k
    pub ties : last j ≡ last k → j ≤ k

  ahead_itself : (j : ℕ) → Ahead j j
  ahead_itself j = record { ends = omega arith; ties = λ e. omega arith }

  ahead_one : (j k : ℕ) → Ahead j k → Ahead k j → j ≡ k
  ahead_one j k p q = let e : last j ≡ last k = omega (arith, p.ends, q.ends) in omega (arith, p.ties e, q.ties (sym e))

  -- j comes before k by word, then end, then index
  pub record Sooner (j k : ℕ) : Type 0 where
    pub words : word j ≤ word k
    pub ahead : word j ≡ word k → Ahead j k

  -- of those in `from` with one word, `picks` has the one that is ahead of all, and it has them in the order of words
  record Picked (source picks : List ℕ) : Type 0 where
    rising : Rising (λ j k. word j < word k) picks
    from : (k : ℕ) → In k picks → In k source
    ahead : (k : ℕ) → In k picks → (j : ℕ) → In j source → word j ≡ word k → Ahead k j
    each : (j : ℕ) → In j source → (k : ℕ) × In k picks × (word k ≡ word j)

  picked_in : {l a b : List ℕ} → Picked l a → Picked l b → (k : ℕ) → In k a → In k b
  picked_in {b} p q k h =
      let u = q.each k (p.from k h) in
      let e = ahead_one k u.0 (p.ahead k h u.0 (q.from u.0 u.1) u.2)
      (q.ahead u.0 u.1 k (p.from k h) (sym u.2)) in
      rw e u.1

  picked_one : {l a b : List ℕ} → Picked l a → Picked l b → a ≡ b
  picked_one p q = rising_one (λ x y h g. omega arith) p.rising q.rising (picked_in p q) (picked_in q p)

  picked_cast : {l m a : List ℕ} → ((j : ℕ) → In j l → In j m) → ((j : ℕ) → In j m → In j l) → Picked l a → Picked m a
  picked_cast f g p =
      record {
        rising = p.rising;
        from = λ k h. f k (p.from k h);
        ahead = λ k h j m e. p.ahead k h j (g j m) e;
        each = λ j m. p.each j
            (g j m);
      }

  -- ---- as the definition picks

  -- c comes in before picks of those with higher indices
  inserted_ahead : {l a : List ℕ} (c : ℕ) → ((j : ℕ) → In j l → c < j) → Picked l a → (k : ℕ) → In k (insert word last c a) → (j : ℕ)
      → In j (c ∷ l) → word j ≡ word k
      → Ahead k j
  inserted_ahead {l} {a} c up p k h j m s = ⊎_elim own other (insert_best word last c p.rising h)
    where
      own : (k ≡ c) × ((d : ℕ) → In d a → word d ≡ word c → last c ≤ last d) → Ahead k j
      own u =
          ⊎_elim (λ e. rw u.0 (rw e (ahead_itself c)))
          (λ n.
          let d = p.each j n in
          let g = p.ahead d.0 d.1 j n (sym d.2) in
          rw u.0 (record {
            ends = omega (arith, u.1 d.0 d.1 (d.2 ∙ s ∙ ap word u.0), g.ends);
            ties = λ e. omega
                (arith, up j n);
          }))
          (in_cons m)

      other : In k a × (word k ≡ word c → last k < last c) → Ahead k j
      other u =
          ⊎_elim (λ e. let h' = u.1 (sym s ∙ ap word e) in rw e (record { ends = omega arith; ties = λ z. absurd (omega arith) }))
          (λ n. p.ahead k u.0 j n s) (in_cons m)

  picked_by_word : {l : List ℕ} → Rising ◌<◌ l → Picked l (by_word word last l)
  unfolding by_word
  picked_by_word flat = record { rising = flat; from = λ k h. h; ahead = λ k h. absurd (not_in_nil h); each = λ j h. absurd (not_in_nil h) }
  picked_by_word (rises {x = c} {xs = l} up r) =
      let p = picked_by_word r in
      record {
        rising = by_word_rising word last (c ∷ l);
        from = λ k h. by_word_in word last (c ∷ l) h;
        ahead = inserted_ahead c up p;
        each = λ j m. let u = by_word_serves word last (c ∷ l) m in (u.0, u.1, u.2.same);
      }

  -- ---- of equal words that stand together the first

  unfoldable pub firsts_after : ℕ → List ℕ → List ℕ
  firsts_after w [] = []
  firsts_after w (j ∷ js) = cond (eqb (word j) w) (firsts_after w js) (j ∷ firsts_after (word j) js)

  unfoldable pub firsts : List ℕ → List ℕ
  unfolding firsts_after
  firsts [] = []
  firsts (j ∷ js) = j ∷ firsts_after (word j) js

  -- one after the other
  pub firsts_after_none : (w : ℕ) → firsts_after w [] ≡ []
  unfolding firsts_after
  firsts_after_none w = refl

  pub firsts_after_more : (w j : ℕ) (js : List ℕ)
      → firsts_after w (j ∷ js) ≡ cond (eqb (word j) w) (firsts_after w js) (j ∷ firsts_after (word j) js)
  unfolding firsts_after
  firsts_after_more w j js = refl

  pub firsts_none : firsts [] ≡ []
  unfolding firsts
  firsts_none = refl

  pub firsts_more : (j : ℕ) (js : List ℕ) → firsts (j ∷ js) ≡ j ∷ firsts_after (word j) js
  unfolding firsts
  firsts_more j js = refl

  -- the same where those with the word w are left out
  record PickedAfter (w : ℕ) (source picks : List ℕ) : Type 0 where
    rising : Rising (λ j k. word j < word k) picks
    from : (k : ℕ) → In k picks → In k source
    past : (k : ℕ) → In k picks → w < word k
    ahead : (k : ℕ) → In k picks → (j : ℕ) → In j source → word j ≡ word k → Ahead k j
    each : (j : ℕ) → In j source → (word j ≡ w) ⊎ ((k : ℕ) × In k picks × (word k ≡ word j))

  picked_cons : {js picks : List ℕ} (j : ℕ) → ((k : ℕ) → In k js → Sooner j k) → PickedAfter (word j) js picks → Picked (j ∷ js) (j ∷ picks)
  picked_cons {js} {picks} j up p = record {
    rising = rises p.past p.rising;
    from = λ k h. ⊎_elim (λ e. rw e first) (λ g. later (p.from k g)) (in_cons h);
    ahead = λ k h i m s. ⊎_elim (own k i m s) (λ g. other k i g m s) (in_cons h);
    each = λ i m. ⊎_elim (λ e. (j, first, ap word (sym e)))
        (λ n. ⊎_elim (λ s. (j, first, sym s)) (λ u. (u.0, later u.1, u.2)) (p.each i n)) (in_cons m);
  }
    where
      own : (k i : ℕ) → In i (j ∷ js) → word i ≡ word k → k ≡ j → Ahead k i
      own k i m s q = rw q (⊎_elim (λ e. rw e (ahead_itself j)) (λ n. (up i n).ahead (sym (s ∙ ap word q))) (in_cons m))

      other : (k i : ℕ) → In k picks → In i (j ∷ js) → word i ≡ word k → Ahead k i
      other k i g m s = ⊎_elim (λ e. absurd (omega (arith, p.past k g, ap word e))) (λ n. p.ahead k g i n s) (in_cons m)

  picked_skip : {js picks : List ℕ} (w j : ℕ) → word j ≡ w → PickedAfter w js picks → PickedAfter w (j ∷ js) picks
  picked_skip w j same p = record {
    rising = p.rising;
    from = λ k h. later (p.from k h);
    past = p.past;
    ahead = λ k h i m s. ⊎_elim (λ e. absurd (omega (arith, p.past k h, ap word e))) (λ n. p.ahead k h i n s) (in_cons m);
    each = λ i m. ⊎_elim (λ e. inl (ap word e ∙ same)) (λ n. p.each i n) (in_cons m);
  }

  picked_new : {js picks : List ℕ} (w j : ℕ) → w < word j → ((k : ℕ) → In k js → Sooner j k) → PickedAfter (word j) js picks
      → PickedAfter w (j ∷ js) (j ∷ picks)
  picked_new w j less up p =
      let q = picked_cons j up p in
      record {
        rising = q.rising;
        from = q.from;
        past = λ k h. ⊎_elim (λ e. rw e less) (λ g. omega (arith, p.past k g)) (in_cons h);
        ahead = q.ahead;
        each = λ i m. inr (q.each i m);
      }

  picked_after : {js : List ℕ} → Rising Sooner js → (w : ℕ) → ((j : ℕ) → In j js → w ≤ word j) → PickedAfter w js (firsts_after w js)
  unfolding firsts_after
  picked_after flat w least =
      record {
        rising = flat;
        from = λ k h. h;
        past = λ k h. absurd (not_in_nil h);
        ahead = λ k h. absurd (not_in_nil h);
        each = λ j h.
            absurd (not_in_nil h);
      }
  picked_after (rises {x = j} {xs = js} up r) w least =
      go (eqb (word j) w) refl (picked_after r w (λ k h. least k (later h))) (picked_after r (word j) (λ k h. (up k h).words))
    where
      go : (t : Bool) → eqb (word j) w ≡ t → PickedAfter w js (firsts_after w js) → PickedAfter (word j) js (firsts_after (word j) js)
          → PickedAfter w (j ∷ js) (cond t (firsts_after w js) (j ∷ firsts_after (word j) js))
      go true e p q = picked_skip w j (eqb-true _ _ e) p
      go false e p q = picked_new w j (omega (arith, least j first, eqb-false)) up q

  picked_firsts : {js : List ℕ} → Rising Sooner js → Picked js (firsts js)
  unfolding firsts
  picked_firsts flat = record { rising = flat; from = λ k h. h; ahead = λ k h. absurd (not_in_nil h); each = λ j h. absurd (not_in_nil h) }
  picked_firsts (rises {x = j} up r) = picked_cons j up (picked_after r (word j) (λ k h. (up k h).words))

  -- what the definition picks out of a list by index is the firsts of those sorted by word, end and index
  pub by_word_firsts : {l js : List ℕ} → Rising ◌<◌ l → Rising Sooner js → ((j : ℕ) → In j l → In j js) → ((j : ℕ) → In j js → In j l)
      → by_word word last l ≡ firsts js
  by_word_firsts r s f g = picked_one (picked_by_word r) (picked_cast g f (picked_firsts s))
