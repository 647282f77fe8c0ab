-- Laws of undoing a trial. Assumes nothing.
use mathlib.Core.Path.{◌≡◌, refl, sym, ap, ◌∙◌}
use mathlib.Core.Bool.{Bool}
use mathlib.Core.List.{List}
use mathlib.Core.Logic.{◌≢◌, ◌⊎◌, inl, inr, ⊎_elim, by_cases}
use Prim.Native.Nat.{ℕ, ◌+◌, ◌<◌, ◌≤◌}
use native.Mathlib.Omega.{arith}
use native.Mathlib.Decide.{ℕ_discrete}
use lib.ListN.{length, set, length-set}
use lib.Seq.{get_or-set_same, get_or-set_other, ext_get_or}
use Rattle.pair_theory.specs.Arranged.{Pairs}
use Rattle.pair_following.specs.Following.{nth, Progress, progress_of, OnTrail, Trail, Follows, TakenBack, Attempt}

-- ---- undoing

-- the entries of b's trail from `from` up to i have the place `none`
pub record Undoing (b : Progress) (from none : ℕ) (put : List ℕ) (i : ℕ) : Type 0 where
  pub count : length put ≡ length b.put
  pub blank : none ≡ length b.put
  pub low : from ≤ i
  pub back : (base : List ℕ) → length base ≡ length b.put
      → ((j : ℕ) → from ≤ j → j < b.n → nth base (nth b.trail j) ≡ length b.put)
      → ((f : ℕ) → f < length b.put → (nth b.put f ≡ nth base f) ⊎ OnTrail (nth b.trail) from b.n f)
      → (f : ℕ) → f < length b.put → (nth put f ≡ nth base f) ⊎ OnTrail (nth b.trail) i b.n f

module _ {b : Progress} {from none : ℕ} {put : List ℕ} {i : ℕ} (r : Undoing b from none put i) where
  pub undo_more : i < b.n → nth b.trail i < length b.put → Undoing b from none (set put (nth b.trail i) none) (i + 1)
  undo_more l p =
      record {
        count = length-set put (nth b.trail i) none ∙ r.count;
        blank = r.blank;
        low = omega (arith, r.low);
        back = λ base len fresh h f fp. by_cases (ℕ_discrete f (nth b.trail i)) (λ x. inl (there base fresh f x))
            (λ x. ⊎_elim (λ y. inl (off f x ∙ y)) (λ y. inr (past f x y)) (r.back base len fresh h f fp));
      }
    where
      there : (base : List ℕ) → ((j : ℕ) → from ≤ j → j < b.n → nth base (nth b.trail j) ≡ length b.put) → (f : ℕ)
          → f ≡ nth b.trail i → nth (set put (nth b.trail i) none) f ≡ nth base f
      there base fresh f x = rw x (get_or-set_same put (nth b.trail i) none 0 (rw r.count p) ∙ r.blank ∙ sym (fresh i r.low l))

      off : (f : ℕ) → f ≢ nth b.trail i → nth (set put (nth b.trail i) none) f ≡ nth put f
      off f x = get_or-set_other put (nth b.trail i) f none 0 x

      past : (f : ℕ) → f ≢ nth b.trail i → OnTrail (nth b.trail) i b.n f → OnTrail (nth b.trail) (i + 1) b.n f
      past f x (j, y, z, w) = (j, omega (arith, apart j w), z, w)
        where
          apart : (j : ℕ) → nth b.trail j ≡ f → j ≢ i
          apart j y z = x (sym y ∙ ap (nth b.trail) z)

  pub undo_end : b.n ≤ i → TakenBack b from put
  undo_end h =
      record {
        back = λ base len fresh k. ext_get_or 0 put base (r.count ∙ sym len)
            (λ f p. ⊎_elim (λ x. x) (λ x. absurd (omega (arith, x.1, x.2))) (r.back base len fresh k f (rw r.count at p)));
      }

pub undo_start : {b : Progress} {from : ℕ} → Undoing b from (length b.put) b.put from
undo_start = record { count = refl; blank = refl; low = omega arith; back = λ base len fresh h. h }

-- following, and then undoing it, leaves the places as they were
pub attempted : {c : Pairs} {b a : Progress} {e p : ℕ} {put : List ℕ} {ok : Bool} → Trail c.m b → Follows c b e p a ok
    → TakenBack a b.n put → Attempt c b e p (progress_of put a.trail b.n) ok
attempted {c} {b} {a} {put} t w u =
    record {
      same = same;
      shape = rw same shape;
      yes = λ x. (nth a.put, w.good x);
      no = w.bad;
    }
  where
    len : length a.put ≡ c.m
    len = w.shape.puts

    same : put ≡ b.put
    same =
        u.back b.put (t.puts ∙ sym len)
        (λ i x y. let z = w.traced.fresh i x y in omega (arith, z.1, t.blank (nth a.trail i), len))
        (λ f fp. w.traced.back f (rw len at fp))

    shape : Trail c.m (progress_of b.put a.trail b.n)
    shape =
        record {
          puts = t.puts;
          trails = w.shape.trails;
          blank = t.blank;
          count = t.count;
          inside = λ i l. rw (w.traced.trail i l) (t.inside i l);
          placed = λ i l. rw (w.traced.trail i l) (t.placed i l);
        }
