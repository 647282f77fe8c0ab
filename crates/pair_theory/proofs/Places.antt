-- The word at a place, by the entries that can stand there. No contract cites this file. Assumes nothing.
use mathlib.Core.Path.{◌≡◌, refl, sym, ap, ◌∙◌}
use mathlib.Core.Logic.{◌≢◌, ◌⊎◌, inl, inr, ⊎_elim}
use Prim.Native.Nat.{ℕ, ◌<◌, ◌≤◌}
use native.Mathlib.Omega.{arith}
use Rattle.pair_theory.specs.Arranged.{Pairs, HasPlace, Arranged}
use Rattle.pair_theory.specs.Chosen.{Agrees, Closed, Followed, Refuted, Possible, HasWord, Another, WordChosen}
use Rattle.pair_theory.specs.Chosen.{Seen, TriedFrom, Cleared}
use Rattle.pair_theory.proofs.Extends.{over, over_agrees, extends, agrees_less, was_possible, one_there}

-- all that can stand at t have one word
pub chosen_same : (c : Pairs) (s : ℕ → ℕ) (t w : ℕ) → Closed c s → ((e : ℕ) → e < c.m → Possible c s t e → c.word e ≡ w)
    → WordChosen c s t w 0 s
chosen_same c s t w k h =
    record {
      closed = k;
      keeps = λ e p x. refl;
      forced = λ σ a g x. g;
      out = h;
      low = λ σ a g e p x. omega (arith, h e p (was_possible c s σ t e a g p x));
      alone = λ z σ a g e p x. h e p (was_possible c s σ t e a g p x);
      others = λ z. absurd (omega arith);
    }

-- every entry that may stand at t is in the list from slot 0 on
pub seen_all : (c : Pairs) (t e : ℕ) → HasPlace c e t → Seen c t 0 e
seen_all c t e h = ⊎_elim (λ x. inl (x, omega arith)) (λ x. inr (x, omega arith)) h

-- a trial that went through gives another arrangement, where there is one
pub there : (c : Pairs) (s r : ℕ → ℕ) (e t : ℕ) → e < c.m → t < c.m → Followed c s e t r → (σ : ℕ → ℕ) → Arranged c σ
    → (τ : ℕ → ℕ) × Arranged c τ × Agrees c s τ × (τ e ≡ t)
there c s r e t p l f σ a =
    let g = over_agrees c r σ in
    let h : r e < c.m = rw f.takes l in
    (over c r σ, extends c r σ f.closed a, agrees_less c s r (over c r σ) f.keeps g, g e p h ∙ f.takes)

-- with one entry of the word w at t, t has the word w
pub has_word : (c : Pairs) (τ : ℕ → ℕ) (e t w : ℕ) → e < c.m → Arranged c τ → τ e ≡ t → c.word e ≡ w → HasWord c τ t w
has_word c τ e t w p a x h f q y = ap c.word (one_there c τ a f e t q p y x) ∙ h

another : (c : Pairs) (s r : ℕ → ℕ) (e t w : ℕ) → e < c.m → t < c.m → Followed c s e t r → w < c.word e → (σ : ℕ → ℕ)
    → Arranged c σ
    → Another c s t w
another c s r e t w p l f h σ a =
    let y = there c s r e t p l f σ a in
    record { σ = y.0; arranged = y.1; agrees = y.2; entry = e; inside = p; stands = y.3; more = h }

module _ (c : Pairs) (s : ℕ → ℕ) (t : ℕ) (l : t < c.m) where
  -- ---- trying the entries of t in turn

  -- entry e is that of slot x, which is next in the list
  abbrev pub OnlyNext : ℕ → ℕ → ℕ → Type 0
  OnlyNext b b' e = (f : ℕ) → f < c.m → Seen c t b f → (f ≡ e) ⊎ Seen c t b' f

  module _ (b b' e : ℕ) (p : e < c.m) (next : OnlyNext b b' e) where
    -- what holds of the entries of the list before, and of e
    pub one_more : (P : ℕ → Type 0) → ((f : ℕ) → f < c.m → Seen c t b' f → P f) → P e → (f : ℕ) → f < c.m → Seen c t b f → P f
    one_more P h pe f q z = ⊎_elim (λ x. rw x pe) (h f q) (next f q z)

    -- the first that goes through
    pub tried_first : (r : ℕ → ℕ) → Followed c s e t r → ((f : ℕ) → f < c.m → Seen c t b' f → Refuted c s f t)
        → TriedFrom c s t b (c.word e) 0
    tried_first r h n =
        record {
          entry = e;
          inside = p;
          has = refl;
          places = r;
          followed = h;
          low = one_more (λ f. Refuted c s f t ⊎ (c.word e ≤ c.word f)) (λ f q z. inl (n f q z)) (inr (omega arith));
          alone = λ z. one_more (λ f. Refuted c s f t ⊎ (c.word f ≡ c.word e)) (λ f q z. inl (n f q z)) (inr refl);
          others = λ z. absurd (omega arith);
        }

    module _ (w k : ℕ) (d : TriedFrom c s t b' w k) where
      pub tried_fails : Refuted c s e t → TriedFrom c s t b w k
      tried_fails n =
          record {
            entry = d.entry;
            inside = d.inside;
            has = d.has;
            places = d.places;
            followed = d.followed;
            low = one_more (λ f. Refuted c s f t ⊎ (w ≤ c.word f)) d.low (inl n);
            alone = λ z. one_more (λ f. Refuted c s f t ⊎ (c.word f ≡ w)) (d.alone z) (inl n);
            others = d.others;
          }

      pub tried_same : c.word e ≡ w → TriedFrom c s t b w k
      tried_same h =
          record {
            entry = d.entry;
            inside = d.inside;
            has = d.has;
            places = d.places;
            followed = d.followed;
            low = one_more (λ f. Refuted c s f t ⊎ (w ≤ c.word f)) d.low (inr (omega arith));
            alone = λ z. one_more (λ f. Refuted c s f t ⊎ (c.word f ≡ w)) (d.alone z) (inr h);
            others = d.others;
          }

      pub tried_larger : (r : ℕ → ℕ) → Followed c s e t r → w < c.word e → TriedFrom c s t b w 1
      tried_larger r f h =
          record {
            entry = d.entry;
            inside = d.inside;
            has = d.has;
            places = d.places;
            followed = d.followed;
            low = one_more (λ f. Refuted c s f t ⊎ (w ≤ c.word f)) d.low (inr (omega arith));
            alone = λ z. absurd (omega arith);
            others = λ z. another c s r e t w p l f h;
          }

      pub tried_smaller : (r : ℕ → ℕ) → Followed c s e t r → c.word e < w → TriedFrom c s t b (c.word e) 1
      tried_smaller r f h =
          record {
            entry = e;
            inside = p;
            has = refl;
            places = r;
            followed = f;
            low = one_more (λ f. Refuted c s f t ⊎ (c.word e ≤ c.word f))
                (λ f q z. ⊎_elim inl (λ y. inr (omega arith)) (d.low f q z))
                (inr (omega arith));
            alone = λ z. absurd (omega arith);
            others = λ z. another c s d.places d.entry t (c.word e) d.inside l d.followed (rw d.has h);
          }

  module _ (w k : ℕ) (d : TriedFrom c s t 0 w k) where
    -- some arrangement, where there is one, has the word w at t
    pub tried_there : (σ : ℕ → ℕ) → Arranged c σ → (τ : ℕ → ℕ) × Arranged c τ × Agrees c s τ × HasWord c τ t w
    tried_there σ a =
        let y = there c s d.places d.entry t d.inside l d.followed σ a in
        (y.0, y.1, y.2, has_word c y.0 d.entry t w d.inside y.1 y.3 d.has)

    pub chosen_tried : (r : ℕ → ℕ) → Cleared c s t 0 w r → WordChosen c s t w k r
    chosen_tried r h =
        record {
          closed = h.closed;
          keeps = h.keeps;
          forced = h.forced;
          out = λ e p x. h.out e p (seen_all c t e x.0) x;
          low = λ σ a g e p x. ⊎_elim (λ n. absurd (n σ a g x)) (λ y. y) (d.low e p (seen_at σ a e p x));
          alone = λ z σ a g e p x. ⊎_elim (λ n. absurd (n σ a g x)) (λ y. y) (d.alone z e p (seen_at σ a e p x));
          others = d.others;
        }
      where
        seen_at : (σ : ℕ → ℕ) → Arranged c σ → (e : ℕ) → e < c.m → σ e ≡ t → Seen c t 0 e
        seen_at σ a e p x = seen_all c t e (rw x at (a.allowed e p))

-- before the first entry of the list
pub cleared_none : (c : Pairs) (s : ℕ → ℕ) (t b w : ℕ) → Closed c s → ((e : ℕ) → e < c.m → Seen c t b e → ⊥) → Cleared c s t b w s
cleared_none c s t b w k n = record { closed = k; keeps = λ e p x. refl; forced = λ σ a g x. g; out = λ e p z. absurd (n e p z) }

-- an entry with another place cannot be at t
pub refuted_placed : (c : Pairs) (s : ℕ → ℕ) (e t : ℕ) → e < c.m → s e < c.m → s e ≢ t → Refuted c s e t
refuted_placed c s e t p h n σ a g x = n (sym (g e p h) ∙ x)
