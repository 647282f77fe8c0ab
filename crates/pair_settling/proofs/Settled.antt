-- Laws of giving every entry a place. No contract cites this file. Assumes nothing.
use mathlib.Core.Path.{◌≡◌, refl, sym, ◌∙◌}
use mathlib.Core.Bool.{Bool, true, false, true≢false}
use mathlib.Core.List.{List}
use mathlib.Core.Logic.{by_cases}
use Prim.Native.Nat.{ℕ, ◌+◌, ◌<◌, ◌≤◌}
use native.Mathlib.Omega.{arith}
use native.Mathlib.Decide.{ℕ_discrete}
use Rattle.pair_theory.specs.Arranged.{Pairs}
use Rattle.pair_theory.specs.Chosen.{Agrees, Closed, NoBuild}
use Rattle.pair_following.specs.Following.{nth, Progress, progress_of, Trail, Follows, TakenBack, Attempt}
use Rattle.pair_settling.specs.Settling.{GivesPlace, GivesPlaces}
use Rattle.pair_theory.proofs.Extends.{neither, all_placed}
use Rattle.pair_following.proofs.UndoLaws.{attempted}

module _ {c : Pairs} {b : Progress} {e : ℕ} (t : Trail c.m b) (k : Closed c (nth b.put)) where
  -- it had one
  pub place_had : nth b.put e < c.m → GivesPlace c b e b true
  place_had h = record { shape = t; good = λ _. (k, λ f p x. refl, h); bad = λ x. absurd (true≢false x) }

  module _ {a : Progress} {ok : Bool} (ep : e < c.m) where
    -- its place one
    pub place_one : {p : ℕ} → p < c.m → ok ≡ true → Follows c b e p a ok → GivesPlace c b e a ok
    place_one pp h w =
        record {
          shape = w.shape;
          good = λ x. let y = w.good x in (y.closed, y.keeps, rw y.takes pp);
          bad = λ x. absurd (true≢false (sym h ∙ x));
        }

    -- its place two, after its place one was tried
    module _ {p q : ℕ} (one : p ≡ c.one e) (two : q ≡ c.two e) (low : q < c.m) (failed : ok ≡ false) (w : Follows c b e p a ok)
        {put : List ℕ} (u : TakenBack a b.n put) where
      pub undone : Attempt c b e p (progress_of put a.trail b.n) ok
      undone = attempted t w u

      pub place_two : {z : Progress} {ok' : Bool} → Follows c (progress_of put a.trail b.n) e q z ok' → GivesPlace c b e z ok'
      place_two v =
          record {
            shape = v.shape;
            good = λ x. let y = v.good x in (y.closed, rw same at y.keeps, rw y.takes low);
            bad = λ x. neither c (nth b.put) e k ep (λ σ ar g i. w.bad failed σ ar g (i ∙ sym one))
                (λ σ ar g i. v.bad x σ ar (rw same g) (i ∙ sym two));
          }
        where
          same : put ≡ b.put
          same = undone.same

-- all below i have a place
pub record Settling (c : Pairs) (b a : Progress) (i : ℕ) : Type 0 where
  pub shape : Trail c.m a
  pub closed : Closed c (nth a.put)
  pub keeps : Agrees c (nth b.put) (nth a.put)
  pub placed : (e : ℕ) → e < i → e < c.m → nth a.put e < c.m

module _ {c : Pairs} {b m : Progress} {i : ℕ} (r : Settling c b m i) where
  pub settling_more : {a : Progress} {ok : Bool} → GivesPlace c m i a ok → ok ≡ true → Settling c b a (i + 1)
  settling_more {a} w h =
      record {
        shape = w.shape;
        closed = y.0;
        keeps = λ f p x. y.1 f p (rw (r.keeps f p x) x) ∙ r.keeps f p x;
        placed = λ e l p. by_cases (ℕ_discrete e i) (λ x. rw x y.2) (λ x. let z = r.placed e (omega (arith, x)) p in rw (y.1 e p z) z);
      }
    where
      y : Closed c (nth a.put) × Agrees c (nth m.put) (nth a.put) × (nth a.put i < c.m)
      y = w.good h

  pub settled_all : c.m ≤ i → GivesPlaces c b.put m.put true
  settled_all h =
      record {
        good = λ _. (all_placed c (nth m.put) r.closed (λ e p. r.placed e (omega arith) p), r.keeps);
        bad = λ x. absurd (true≢false x);
      }

pub settled_none : {c : Pairs} {put put' : List ℕ} → NoBuild c → GivesPlaces c put put' false
settled_none h = record { good = λ x. absurd (true≢false (sym x)); bad = λ _. h }
