-- Laws of steps one after the other, and of their outcomes. Assumes nothing.
use mathlib.Core.Path.{◌≡◌, refl, sym, ◌∙◌}
use mathlib.Core.Bool.{Bool, true, false, true≢false}
use Rattle.pair_theory.specs.Arranged.{Pairs}
use Rattle.pair_theory.specs.Chosen.{Agrees}
use Rattle.pair_following.specs.Following.{nth, Progress, Trail, Clash, Grown}
use Rattle.pair_following.proofs.TrailLaws.{traced_none, traced_both}

-- ---- nothing placed

module _ {c : Pairs} {b : Progress} (t : Trail c.m b) {A : Type 0} where
  pub grown_still : A → Grown c b b true A
  grown_still a = record { shape = t; traced = traced_none; good = λ _. (λ σ ar g. g, a); bad = λ x. absurd (true≢false x) }

  pub grown_clash : Clash c (nth b.put) → Grown c b b false A
  grown_clash k = record { shape = t; traced = traced_none; good = λ x. absurd (true≢false (sym x)); bad = λ _. k }

-- ---- one thing after another

module _ {c : Pairs} {b m a : Progress} {ok : Bool} {A B C : Type 0} (h : Grown c b m true A) (k : Grown c m a ok B) where
  pub grown_then : (A → Agrees c (nth m.put) (nth a.put) → B → C) → Grown c b a ok C
  grown_then f =
      record {
        shape = k.shape;
        traced = traced_both h.traced k.traced;
        good = λ x. let y = k.good x in (λ σ ar g. y.0 σ ar ((h.good refl).0 σ ar g), f (h.good refl).1 k.traced.keeps y.1);
        bad = λ x σ ar g. k.bad x σ ar ((h.good refl).0 σ ar g);
      }

  -- a clash after what was forced is a clash
  pub grown_stops : ok ≡ false → Grown c b a ok C
  grown_stops z =
      record {
        shape = k.shape;
        traced = traced_both h.traced k.traced;
        good = λ x. absurd (true≢false (sym x ∙ z));
        bad = λ x σ ar g. k.bad x σ ar ((h.good refl).0 σ ar g);
      }

module _ {c : Pairs} {b a : Progress} {ok : Bool} {A : Type 0} (h : Grown c b a ok A) where
  -- the same with more, or less, said
  pub grown_says : {B : Type 0} → (A → B) → Grown c b a ok B
  grown_says f = record { shape = h.shape; traced = h.traced; good = λ x. ((h.good x).0, f (h.good x).1); bad = h.bad }
