-- Laws of a place with one entry left. No contract cites this file. Assumes nothing.
use mathlib.Core.Path.{◌≡◌, sym, ap, ◌∙◌}
use mathlib.Core.Bool.{Bool, false, true≢false}
use Prim.Native.Nat.{ℕ, ◌<◌}
use native.Mathlib.Omega.{arith}
use Rattle.pair_theory.specs.Arranged.{Pairs, Inside, HasPlace, Arranged}
use Rattle.pair_theory.specs.Chosen.{Possible, Seen}
use Rattle.pair_following.specs.Following.{nth, Progress, Trail, Follows}
use Rattle.pair_following.specs.Common.{Common, by}
use Rattle.pair_following.specs.declared.Key.TheVariants.{Number}
use Rattle.pair_forcing.specs.Forcing.{Sure, StaysSure}
use Rattle.pair_theory.proofs.Extends.{filled, was_possible}
use Rattle.pair_theory.proofs.Places.{seen_all}

-- the one entry that can stand at t has it for a place
pub one_entry : (c : Pairs) {s : ℕ → ℕ} {t e : ℕ} → Common (by Number c) s t 0 e 1 → (e < c.m) × HasPlace c e t
one_entry c g = let y = g.has (omega arith) in (rw y.3 at y.1, rw y.3 at y.2.0)

module _ {c : Pairs} {b : Progress} {t : ℕ} (i : Inside c) (r : Sure c (nth b.put)) (h : Trail c.m b) (l : t < c.m) {w k : ℕ}
    (g : Common (by Number c) (nth b.put) t 0 w k) where
  -- the entry that an arrangement has at t was possible
  at_t : {σ : ℕ → ℕ} → Arranged c σ → (e : ℕ) × (e < c.m) × (σ e ≡ t) × Seen c t 0 e × Possible c (nth b.put) t e
  at_t {σ} a =
      let y = filled c σ i a t l in
      let z = was_possible c (nth b.put) σ t y.0 a (r.every σ a) y.1 y.2 in
      (y.0, y.1, y.2, seen_all c t y.0 z.0, z)

  pub force_none : k ≡ 0 → StaysSure c b false
  force_none z =
      record {
        shape = h;
        good = λ x. absurd (true≢false (sym x));
        bad = λ _ σ a. let y = at_t a in g.none z y.0 y.1 y.3 y.4;
      }

  pub force_one : k ≡ 1 → (a : Progress) (ok : Bool) → Follows c b w t a ok → StaysSure c a ok
  force_one z p ok f =
      record {
        shape = f.shape;
        good = λ x. record { closed = (f.good x).closed; every = λ σ a. (f.good x).forced σ a (r.every σ a) (must σ a) };
        bad = λ x σ a. f.bad x σ a (r.every σ a) (must σ a);
      }
    where
      must : (σ : ℕ → ℕ) → Arranged c σ → σ w ≡ t
      must σ a = let y = at_t a in ap σ (sym (g.same z y.0 y.1 y.3 y.4)) ∙ y.2
