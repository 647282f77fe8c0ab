-- Laws of clearing a place, and of all that a placed entry excludes from three. Assumes nothing.
use mathlib.Core.Path.{◌≡◌, refl, sym, ◌∙◌}
use mathlib.Core.Bool.{Bool, true, false, true≢false}
use mathlib.Core.List.{List}
use mathlib.Core.Logic.{◌≢◌, inl, inr, ⊎_elim, by_cases}
use Prim.Native.Nat.{ℕ, ◌+◌, ◌-◌, ◌/◌, ◌<◌, ◌≤◌}
use native.Mathlib.Omega.{arith}
use native.Mathlib.Decide.{ℕ_discrete, dec_lt}
use lib.ListN.{length}
use Rattle.pair_theory.specs.Arranged.{Pairs, Inside, HasPlace}
use Rattle.pair_theory.specs.Chosen.{Agrees, Closed, Possible, Seen}
use Rattle.pair_theory.proofs.Extends.{filled, was_possible}
use Rattle.pair_following.specs.Following.{nth, count_in, prev_in, last_in, pairs_of, HoldsPairs, Links, Progress, with_put, Trail}
use Rattle.pair_following.specs.Following.{Free, AllFree, FreeFrom, Traced, Clash, Done, Grown, Follows}
use Rattle.pair_following.proofs.TrailLaws.{put_here, put_there, done_end, done_grown, done_free, done_start, done_take, free_more, traced_both}
use Rattle.pair_following.proofs.ExclusionLaws.{goes_far, one_inside, put_room, trail_room, traced_set, trail_put, two_inside}
use Rattle.pair_following.proofs.StepLaws.{grown_still, grown_then, grown_says}
use Rattle.pair_following.proofs.Slots.{Listing, list_none, list_next}

-- ---- the list of a place

-- from b on a grew, and the entries of q from slot k on are free of e
pub record Clearing (c : Pairs) (b a : Progress) (e q k : ℕ) : Type 0 where
  pub grown : Grown c b a true (FreeFrom c (nth a.put) e q k)

module _ {card : List ℕ} (mask : ℕ) (l : Links card) {q : ℕ} where
  pub clear_start : q < count_in card → {b : Progress} {e : ℕ} → Trail (count_in card) b
      → Clearing (pairs_of card mask) b b e q (last_in card q)
  clear_start qp t = record { grown = grown_still t (λ f fp d z. absurd (list_none l qp mask f fp z)) }

  pub clear_more : {b m a : Progress} {e k : ℕ} → Listing card q k → Clearing (pairs_of card mask) b m e q k → 0 < k → e < count_in card
      → nth m.put e < count_in card
      → Grown (pairs_of card mask) m a true (e ≢ (k - 1) / 2 → Free (pairs_of card mask) (nth a.put) e ((k - 1) / 2) q)
      → Clearing (pairs_of card mask) b a e q (prev_in card (k - 1))
  clear_more {m} {a} {e} {k} at r more ep placed w = record { grown = grown_then r.grown w both }
    where
      both : FreeFrom (pairs_of card mask) (nth m.put) e q k → Agrees (pairs_of card mask) (nth m.put) (nth a.put)
          → (e ≢ (k - 1) / 2 → Free (pairs_of card mask) (nth a.put) e ((k - 1) / 2) q)
          → FreeFrom (pairs_of card mask) (nth a.put) e q (prev_in card (k - 1))
      both old g new f fp d z =
          ⊎_elim (λ x. rw x (new (rw x at d))) (λ x. free_more g ep placed fp (old f fp d x)) (list_next l at more mask f fp z)

pub clear_end : {c : Pairs} {b a : Progress} {e q k : ℕ} → k ≤ 0 → Clearing c b a e q k
    → Grown c b a true (FreeFrom c (nth a.put) e q 0)
clear_end h r =
    grown_says r.grown
    (λ old f fp d z. old f fp d (⊎_elim (λ x. inl (x.0, omega (arith, x.1))) (λ x. inr (x.0, omega (arith, x.1))) z))

-- ---- the three places

-- no entry stands beyond the last place
pub beyond : {card : List ℕ} {mask : ℕ} → HoldsPairs card mask → (q b f : ℕ) → f < count_in card → count_in card ≤ q
    → Seen (pairs_of card mask) q b f → ⊥
beyond k q b f fp h (inl (x, y)) = absurd (omega (arith, one_inside k fp))
beyond k q b f fp h (inr (x, y)) = absurd (omega (arith, two_inside k fp))

pub free_from_more : {c : Pairs} {s s' : ℕ → ℕ} {e q : ℕ} → e < c.m → s e < c.m → Agrees c s s' → FreeFrom c s e q 0 → FreeFrom c s' e q 0
free_from_more {c} {s} {s'} {e} {q} ep h g r f fp d z = free_more g ep h fp (r f fp d z)

seen_0 : (c : Pairs) {q f : ℕ} → HasPlace c f q → Seen c q 0 f
seen_0 c st = ⊎_elim (λ x. inl (x, omega arith)) (λ x. inr (x, omega arith)) st

pub free_three : {c : Pairs} {s : ℕ → ℕ} {e p : ℕ} → s e ≡ p → FreeFrom c s e p 0 → FreeFrom c s e (p + 1) 0
    → ((q : ℕ) → q + 1 ≡ p → FreeFrom c s e q 0) → AllFree c s e
free_three {c} {e} {p} here a b h f q fp d st =
    by_cases (ℕ_discrete q p) (λ x. rw x (a f fp d (seen_0 c (rw x at st))))
    (λ x. by_cases (ℕ_discrete q (p + 1)) (λ y. rw y (b f fp d (seen_0 c (rw y at st))))
    (λ y. by_cases (ℕ_discrete (q + 1) p) (λ z. h q z f fp d (seen_0 c st))
    (λ z. inl (rw here ((goes_far (λ v. x (sym v)) y (λ v. z (sym v))).yes refl)))))

-- ---- the trail's turns

-- from b on a grew, and its trail was followed up to top
pub record Chasing (c : Pairs) (b a : Progress) (top : ℕ) : Type 0 where
  pub low : top ≤ a.n
  pub grown : Grown c b a true (Done c a top c.m)

pub chase_more : {c : Pairs} {b m a : Progress} {top : ℕ} → Chasing c b m top → top < m.n
    → Grown c m a true (AllFree c (nth a.put) (nth m.trail top)) → Chasing c b a (top + 1)
chase_more {c} {m} {a} {top} r l w = record { low = omega (arith, w.traced.more); grown = grown_then r.grown w next }
  where
    next : Done c m top c.m → Agrees c (nth m.put) (nth a.put) → AllFree c (nth a.put) (nth m.trail top)
        → Done c a (top + 1) c.m
    next d g y = done_free c a (done_grown c m (omega arith) (done_take c m d l) w.traced) y

module _ {c : Pairs} {b : Progress} {e p : ℕ} (t : Trail c.m b) (k : Closed c (nth b.put)) (ep : e < c.m)
    (u : c.m ≤ nth b.put e) (pp : p < c.m) (st : HasPlace c e p) where
  there : e < length b.put
  there = put_room t ep u pp

  begun : Traced c b (with_put b e p)
  begun = traced_set t ep u pp refl st

  -- with e at p
  assumed : {σ : ℕ → ℕ} → Agrees c (nth b.put) σ → σ e ≡ p → Agrees c (nth (with_put b e p).put) σ
  assumed g x f fp z =
      by_cases (ℕ_discrete f e) (λ y. rw (y, put_here b there p) x)
      (λ y. rw (put_there b there p f y) (g f fp (rw (put_there b there p f y) at z)))

  pub chase_start : Chasing c (with_put b e p) (with_put b e p) b.n
  chase_start =
      record {
        low = omega arith;
        grown = grown_still (trail_put t ep u pp) (done_start b p there (trail_room t ep u pp) k u);
      }

  module _ {a : Progress} where
    pub follow_end : {top : ℕ} → Chasing c (with_put b e p) a top → a.n ≤ top → Follows c b e p a true
    follow_end {top} r h =
        record {
          shape = r.grown.shape;
          traced = whole;
          good = λ _. record {
            closed = done_end a allowed (rw even at (r.grown.good refl).1);
            keeps = whole.keeps;
            takes = r.grown.traced.keeps e ep (rw (put_here b there p) pp) ∙ put_here b there p;
            forced = λ σ ar g x. (r.grown.good refl).0 σ ar (assumed g x);
          };
          bad = λ x. absurd (true≢false x);
        }
      where
        even : top ≡ a.n
        even = omega (arith, r.low)

        whole : Traced c b a
        whole = traced_both begun r.grown.traced

        allowed : (f : ℕ) → f < c.m → nth a.put f < c.m → HasPlace c f (nth a.put f)
        allowed f fp z = by_cases (dec_lt (nth b.put f) c.m) (λ x. rw (whole.keeps f fp x) (k.allowed f fp x))
            (λ x. whole.allowed f fp (omega arith) z)

    pub follow_stop : {ok : Bool} {A : Type 0} → ok ≡ false → Grown c (with_put b e p) a ok A → Follows c b e p a ok
    follow_stop h w =
        record {
          shape = w.shape;
          traced = traced_both begun w.traced;
          good = λ x. absurd (true≢false (sym x ∙ h));
          bad = λ x σ ar g y. w.bad x σ ar (assumed g y);
        }

-- ---- all that a placed entry excludes

module _ {c : Pairs} {p0 p1 p2 p3 : Progress} {e : ℕ} {ok : Bool} (ep : e < c.m) (placed : nth p0.put e < c.m)
    (a : Grown c p0 p1 true (FreeFrom c (nth p1.put) e (nth p0.put e) 0))
    (b : Grown c p1 p2 true ((q : ℕ) → q + 1 ≡ nth p0.put e + 2 → FreeFrom c (nth p2.put) e q 0))
    (d : Grown c p2 p3 ok ((q : ℕ) → q + 1 ≡ nth p0.put e → FreeFrom c (nth p3.put) e q 0)) where
  placed_1 : nth p1.put e < c.m
  placed_1 = rw (a.traced.keeps e ep placed) placed

  at_2 : nth p2.put e ≡ nth p0.put e
  at_2 = b.traced.keeps e ep placed_1 ∙ a.traced.keeps e ep placed

  at_3 : nth p3.put e ≡ nth p0.put e
  at_3 = d.traced.keeps e ep (rw at_2 placed) ∙ at_2

  -- after the first two of the three places
  two_places : Grown c p0 p2 true (FreeFrom c (nth p2.put) e (nth p0.put e) 0 × FreeFrom c (nth p2.put) e (nth p0.put e + 1) 0)
  two_places = grown_then a b (λ x g y. (free_from_more ep placed_1 g x, y (nth p0.put e + 1) (omega arith)))

  three_places : FreeFrom c (nth p2.put) e (nth p0.put e) 0 × FreeFrom c (nth p2.put) e (nth p0.put e + 1) 0
      → Agrees c (nth p2.put) (nth p3.put) → ((q : ℕ) → q + 1 ≡ nth p0.put e → FreeFrom c (nth p3.put) e q 0)
      → AllFree c (nth p3.put) e
  three_places x g y = free_three at_3 (free_from_more ep placed_2 g x.0) (free_from_more ep placed_2 g x.1) y
    where
      placed_2 : nth p2.put e < c.m
      placed_2 = rw at_2 placed

  pub all_free : Grown c p0 p3 ok (AllFree c (nth p3.put) e)
  all_free = grown_then two_places d three_places

-- a place that no entry is left for: then nothing that was forced can be arranged
pub grown_stuck : {c : Pairs} {b a : Progress} {q : ℕ} {ok : Bool} {A B : Type 0} → Inside c → q < c.m → ok ≡ true → Grown c b a ok A
    → ((e : ℕ) → e < c.m → Possible c (nth a.put) q e → ⊥) → Grown c b a false B
grown_stuck {c} {b} {a} {q} i qp h w none =
    record { shape = w.shape; traced = w.traced; good = λ x. absurd (true≢false (sym x)); bad = λ _. clash }
  where
    clash : Clash c (nth b.put)
    clash σ ar g =
        let e = filled c σ i ar q qp in
        none e.0 e.1 (was_possible c (nth a.put) σ q e.0 ar ((w.good h).0 σ ar g) e.1 e.2)
