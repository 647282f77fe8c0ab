-- Laws of the trail: what is placed so far grows, and the entries on it that wait to be followed. Assumes nothing.
use mathlib.Core.Path.{◌≡◌, refl, sym, ap, ◌∙◌}
use mathlib.Core.Logic.{◌≢◌, ◌⊎◌, inl, inr, ⊎_elim, by_cases}
use Prim.Native.Nat.{ℕ, ◌+◌, ◌<◌, ◌≤◌}
use native.Mathlib.Omega.{arith}
use native.Mathlib.Decide.{ℕ_discrete, dec_lt}
use lib.ListN.{length}
use lib.Seq.{get_or-set_same, get_or-set_other}
use Rattle.pair_theory.specs.Arranged.{Pairs, HasPlace}
use Rattle.pair_theory.specs.Chosen.{Agrees, Closed}
use Rattle.pair_following.specs.Following.{nth, Progress, with_put, Free, AllFree, OnTrail, Traced, Done}

-- ---- one entry put

module _ (b : Progress) {f : ℕ} (fp : f < length b.put) (r : ℕ) where
  pub put_here : nth (with_put b f r).put f ≡ r
  put_here = get_or-set_same b.put f r 0 fp

  pub put_there : (g : ℕ) → g ≢ f → nth (with_put b f r).put g ≡ nth b.put g
  put_there g d = get_or-set_other b.put f g r 0 d

  pub put_on : b.n < length b.trail → nth (with_put b f r).trail b.n ≡ f
  put_on h = get_or-set_same b.trail b.n f 0 h

  pub put_behind : (i : ℕ) → i ≢ b.n → nth (with_put b f r).trail i ≡ nth b.trail i
  put_behind i d = get_or-set_other b.trail b.n i f 0 d

  -- one that had no place
  pub put_keeps : (c : Pairs) → c.m ≤ nth b.put f → Agrees c (nth b.put) (nth (with_put b f r).put)
  put_keeps c u e p z = put_there e (λ x. absurd (omega (arith, ap (nth b.put) x)))

-- ---- growing

pub traced_none : {c : Pairs} {b : Progress} → Traced c b b
traced_none =
    record {
      more = omega arith;
      trail = λ i p. refl;
      keeps = λ f p z. refl;
      allowed = λ f p y z. absurd (omega arith);
      back = λ f p. inl refl;
      fresh = λ i p q. absurd (omega arith);
    }

-- one entry put, and on the trail
pub traced_put : {c : Pairs} (b : Progress) {f r : ℕ} → f < length b.put → b.n < length b.trail → f < c.m → c.m ≤ nth b.put f
    → HasPlace c f r → Traced c b (with_put b f r)
traced_put {c} b {f} {r} there room fp u st =
    record {
      more = omega arith;
      trail = λ i p. put_behind b there r i (λ x. absurd (omega arith));
      keeps = put_keeps b there r c u;
      allowed = λ e p y z. by_cases (ℕ_discrete e f) (λ x. rw (x, put_here b there r) st)
          (λ x. absurd (omega (arith, put_there b there r e x)));
      back = λ e p. by_cases (ℕ_discrete e f) (λ x. inr (b.n, omega arith, omega arith, put_on b there r room ∙ sym x))
          (λ x. inl (put_there b there r e x));
      fresh = λ i p q. let x : i ≡ b.n = omega arith in rw (x, put_on b there r room) (fp, u);
    }

module _ {c : Pairs} {b m a : Progress} (h : Traced c b m) (k : Traced c m a) where
  pub traced_both : Traced c b a
  traced_both =
      record {
        more = omega (arith, h.more, k.more);
        trail = λ i p. k.trail i (omega (arith, h.more)) ∙ h.trail i p;
        keeps = λ f p z. k.keeps f p (rw (h.keeps f p z) z) ∙ h.keeps f p z;
        allowed = λ f p y z. by_cases (dec_lt (nth m.put f) c.m) (λ x. rw (k.keeps f p x) (h.allowed f p y x))
            (λ x. k.allowed f p (omega arith) z);
        back = λ f p. ⊎_elim (λ x. ⊎_elim (λ y. inl (x ∙ y)) (λ y. inr (wider f y)) (h.back f p)) (λ x. inr (further f x)) (k.back f p);
        fresh = λ i p q. by_cases (dec_lt i m.n) (λ x. rw (k.trail i x) (h.fresh i p x))
            (λ x. let y = k.fresh i (omega arith) q in (y.0, was (nth a.trail i) y.0 y.1));
      }
    where
      wider : (f : ℕ) → OnTrail (nth m.trail) b.n m.n f → OnTrail (nth a.trail) b.n a.n f
      wider f (i, p, q, x) = (i, p, omega (arith, k.more), k.trail i q ∙ x)

      further : (f : ℕ) → OnTrail (nth a.trail) m.n a.n f → OnTrail (nth a.trail) b.n a.n f
      further f (i, p, q, x) = (i, omega (arith, h.more), q, x)

      was : (f : ℕ) → f < c.m → c.m ≤ nth m.put f → c.m ≤ nth b.put f
      was f p y = by_cases (dec_lt (nth b.put f) c.m) (λ x. absurd (omega (arith, h.keeps f p x))) (λ x. omega arith)

-- what is free of an entry stays so
pub free_more : {c : Pairs} {s s' : ℕ → ℕ} {e f q : ℕ} → Agrees c s s' → e < c.m → s e < c.m → f < c.m → Free c s e f q → Free c s' e f q
free_more {e} {f} g p h fp r = ⊎_elim (λ x. inl (rw (g e p h) x)) (λ x. inr (rw (g f fp x.0) x)) r

-- ---- the entries that wait

module _ (c : Pairs) (b : Progress) {top : ℕ} where
  pub done_grown : {a : Progress} {busy : ℕ} → top ≤ b.n → Done c b top busy → Traced c b a → Done c a top busy
  done_grown {a} l d g f p z w = go (by_cases (dec_lt (nth b.put f) c.m) (λ x. inl x) (λ x. inr x))
    where
      old : nth b.put f < c.m → AllFree c (nth a.put) f ⊎ OnTrail (nth a.trail) top a.n f
      old x =
          ⊎_elim
          (λ y. inl (λ k q kp e st. free_more g.keeps p x kp (y k q kp e st)))
          (λ y. inr (y.0, y.1, omega (arith, y.2, g.more), g.trail y.0 y.2 ∙ y.3))
          (d f p x w)

      new : ¬ (nth b.put f < c.m) → AllFree c (nth a.put) f ⊎ OnTrail (nth a.trail) top a.n f
      new x = ⊎_elim (λ y. absurd (x (rw y at z))) (λ y. inr (y.0, omega (arith, y.1), y.2, y.3)) (g.back f p)

      go : (nth b.put f < c.m) ⊎ (¬ (nth b.put f < c.m)) → AllFree c (nth a.put) f ⊎ OnTrail (nth a.trail) top a.n f
      go (inl x) = old x
      go (inr x) = new x

  -- the next of the trail is at work
  pub done_take : Done c b top c.m → top < b.n → Done c b (top + 1) (nth b.trail top)
  done_take d l f p z w = ⊎_elim inl (λ y. inr (y.0, omega (arith, y.1, other f w y), y.2, y.3)) (d f p z (λ x. absurd (omega arith)))
    where
      other : (f : ℕ) → f ≢ nth b.trail top → (y : OnTrail (nth b.trail) top b.n f) → y.0 ≢ top
      other f w y x = w (sym y.3 ∙ ap (nth b.trail) x)

  -- all others are free of it
  pub done_free : {g : ℕ} → Done c b top g → AllFree c (nth b.put) g → Done c b top c.m
  done_free {g} d r f p z w = by_cases (ℕ_discrete f g) (λ x. inl (rw x r)) (d f p z)

-- a placed entry is the first that waits
pub done_start : {c : Pairs} (b : Progress) {f : ℕ} (r : ℕ) → f < length b.put → b.n < length b.trail → Closed c (nth b.put)
    → c.m ≤ nth b.put f → Done c (with_put b f r) b.n c.m
done_start {c} b {f} r there room k u e p z w =
    by_cases (ℕ_discrete e f)
    (λ x. inr (b.n, omega arith, omega arith, put_on b there r room ∙ sym x))
    (λ x. let y : nth b.put e < c.m = rw (put_there b there r e x) at z in
    inl (λ g q gp d st. free_more (put_keeps b there r c u) p y gp (k.clear e g q p gp d y st)))

-- nothing waits
pub done_end : {c : Pairs} (b : Progress) → ((f : ℕ) → f < c.m → nth b.put f < c.m → HasPlace c f (nth b.put f))
    → Done c b b.n c.m → Closed c (nth b.put)
done_end {c} b a d = record { allowed = a; clear = λ f g q fp gp e z st. free f fp z g q gp e st }
  where
    free : (f : ℕ) → f < c.m → nth b.put f < c.m → AllFree c (nth b.put) f
    free f p z = ⊎_elim (λ y. y) (λ y. absurd (omega arith)) (d f p z (λ x. absurd (omega arith)))
