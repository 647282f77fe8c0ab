-- Laws of two entries, of which a placed one excludes the other from a place, or not. Assumes nothing.
use mathlib.Core.Path.{◌≡◌, refl, sym, ap, ◌∙◌}
use mathlib.Core.Bool.{true, true≢false}
use mathlib.Core.List.{List, [], ◌∷◌}
use mathlib.Core.Logic.{◌≢◌, ◌⊎◌, inl, inr, ⊎_elim, by_cases}
use Prim.Native.Nat.{ℕ, zero, suc, ◌+◌, ◌-◌, ◌*◌, ◌<◌, ◌≤◌}
use native.Mathlib.Omega.{arith}
use native.Mathlib.Decide.{ℕ_discrete, dec_lt}
use lib.ListN.{length, get_or, set, replicate, length-set}
use borrow.Author.Tests.{lt-ltb, le-ltb}
use Rattle.pair_theory.specs.Arranged.{Pairs, Inside, HasPlace, Goes, Arranged}
use Rattle.pair_theory.specs.Chosen.{Agrees, Seen}
use Rattle.pair_following.specs.Following.{nth, count_in, place_in, pairs_of, HoldsPairs, Progress, with_put, Trail, unplaced}
use Rattle.pair_following.specs.Following.{Free, Traced, Forced, Clash, Decides, Grown}
use Rattle.pair_following.proofs.TrailLaws.{put_here, put_there, put_on, put_behind, traced_put}

-- ---- the places of an entry

-- the place of entry f that is not q
abbrev pub other_than : Pairs → ℕ → ℕ → ℕ
other_than c f q = (c.one f + c.two f) - q

pub stands_other : (c : Pairs) {f q r : ℕ} → HasPlace c f q → HasPlace c f r → r ≢ q → r ≡ other_than c f q
stands_other c (inl x) (inl y) d = absurd (d (y ∙ sym x))
stands_other c (inl x) (inr y) d = omega arith
stands_other c (inr x) (inl y) d = omega arith
stands_other c (inr x) (inr y) d = absurd (d (y ∙ sym x))

pub other_stands : (c : Pairs) {f q : ℕ} → HasPlace c f q → HasPlace c f (other_than c f q)
other_stands c (inl x) = inr (omega arith)
other_stands c (inr x) = inl (omega arith)

-- what a placed entry excludes no arrangement has
pub excluded : {c : Pairs} {s σ : ℕ → ℕ} {e f q : ℕ} → e < c.m → f < c.m → e ≢ f → s e < c.m → (Goes c e (s e) f q → ⊥) → Arranged c σ
    → Agrees c s σ → σ f ≢ q
excluded {e} {f} p fp d h n a g x = n (rw (g e p h, x) at (a.goes e f p fp d))

-- ---- two entries that are not next to one another

module _ {c : Pairs} {e p f q : ℕ} where
  pub goes_far : p ≢ q → q ≢ p + 1 → p ≢ q + 1 → Decides (Goes c e p f q) true
  goes_far d h k =
      record {
        yes = λ _. record { apart = d; on = λ v. absurd (omega arith); back = λ v. absurd (omega arith) };
        no = λ x. absurd (true≢false x);
      }

-- the list of a place, a slot at a time: from slot b on there is entry e of slot x, and then those from x + 1 on
pub seen_next : (c : Pairs) {q b x e : ℕ} → (x ≡ 2 * e) ⊎ (x ≡ 2 * e + 1)
    → ((f : ℕ) → b ≤ 2 * f → 2 * f < x → c.one f ≢ q) → ((f : ℕ) → b ≤ 2 * f + 1 → 2 * f + 1 < x → c.two f ≢ q)
    → (f : ℕ) → Seen c q b f → (f ≡ e) ⊎ Seen c q (x + 1) f
seen_next c {x} h g1 g2 f (inl (y, z)) =
    by_cases (dec_lt (2 * f) x) (λ l. absurd (g1 f z l (sym y)))
    (λ l. by_cases (ℕ_discrete (2 * f) x) (λ d. inl (⊎_elim (λ v. omega arith) (λ v. omega arith) h))
    (λ d. inr (inl (y, omega (arith, d)))))
seen_next c {x} h g1 g2 f (inr (y, z)) =
    by_cases (dec_lt (2 * f + 1) x) (λ l. absurd (g2 f z l (sym y)))
    (λ l. by_cases (ℕ_discrete (2 * f + 1) x) (λ d. inl (⊎_elim (λ v. omega arith) (λ v. omega arith) h))
    (λ d. inr (inr (y, omega (arith, d)))))

-- ---- the card's places

module _ {card : List ℕ} {mask f : ℕ} (k : HoldsPairs card mask) (fp : f < count_in card) where
  pub one_inside : place_in card (2 * f) < count_in card
  one_inside = k.inside (2 * f) (omega arith)

  pub two_inside : place_in card (2 * f + 1) < count_in card
  two_inside = k.inside (2 * f + 1) (omega arith)

  pub other_inside : {q : ℕ} → HasPlace (pairs_of card mask) f q → other_than (pairs_of card mask) f q < count_in card
  other_inside (inl x) = omega (arith, one_inside, two_inside)
  other_inside (inr x) = omega (arith, one_inside, two_inside)

  -- what `other` asks
  pub other_asks : {q : ℕ} → HasPlace (pairs_of card mask) f q
      → (f < count_in card) × (place_in card (2 * f) < count_in card) × (place_in card (2 * f + 1) < count_in card)
      × (q ≤ place_in card (2 * f) + place_in card (2 * f + 1))
  other_asks {q} st =
      let low : q ≤ place_in card (2 * f) + place_in card (2 * f + 1) = ⊎_elim (λ x. omega arith) (λ x. omega arith) st in
      (fp, one_inside, two_inside, low)

pub inside_of : {card : List ℕ} {mask : ℕ} → HoldsPairs card mask → Inside (pairs_of card mask)
inside_of k = record { ones = λ e p. one_inside k p; twos = λ e p. two_inside k p }

-- ---- the lists

pub unplaced_set : (m i r : ℕ) (l : List ℕ) → i < length l → m ≤ get_or l i 0 → r < m → unplaced m (set l i r) + 1 ≡ unplaced m l
unfolding unplaced
unplaced_set m i r [] p h g = absurd (omega arith)
unplaced_set m zero r (x ∷ xs) p h g = rw (lt-ltb r m g, le-ltb x m h) (omega arith)
unplaced_set m (suc i) r (x ∷ xs) p h g = omega (arith, unplaced_set m i r xs (omega arith) h g)

-- where nobody has a place
pub unplaced_all : (m k : ℕ) → unplaced m (replicate k m) ≡ k
unfolding unplaced
unplaced_all m zero = refl
unplaced_all m (suc k) = rw (le-ltb m m (omega arith)) (omega (arith, unplaced_all m k))

module _ {m f r : ℕ} {b : Progress} (t : Trail m b) (fp : f < m) (u : m ≤ nth b.put f) (rp : r < m) where
  -- there is room on the trail
  pub room : b.n < m
  room = omega (arith, t.count, unplaced_set m f r b.put (rw t.puts fp) u rp)

  pub put_room : f < length b.put
  put_room = rw t.puts fp

  pub trail_room : b.n < length b.trail
  trail_room = rw t.trails room

  pub trail_put : Trail m (with_put b f r)
  trail_put =
      record {
        puts = length-set b.put f r ∙ t.puts;
        trails = length-set b.trail b.n f ∙ t.trails;
        blank = λ g. by_cases (ℕ_discrete g f) (λ x. rw (x, put_here b put_room r) (omega arith))
            (λ x. rw (put_there b put_room r g x) (t.blank g));
        count = omega (arith, t.count, unplaced_set m f r b.put (rw t.puts fp) u rp);
        inside = λ i p. by_cases (ℕ_discrete i b.n) (λ x. rw (x, put_on b put_room r trail_room) fp)
            (λ x. rw (put_behind b put_room r i x) (t.inside i (omega (arith, x))));
        placed = λ i p. by_cases (ℕ_discrete i b.n) (λ x. rw (x, put_on b put_room r trail_room, put_here b put_room r) rp)
            (λ x. rw (put_behind b put_room r i x) (old i (omega (arith, x))));
      }
    where
      old : (i : ℕ) → i < b.n → nth (set b.put f r) (nth b.trail i) < m
      old i p =
          rw (put_there b put_room r (nth b.trail i) (λ x. absurd (omega (arith, t.placed i p, ap (nth b.put) x)))) (t.placed i p)

  pub traced_set : {c : Pairs} → c.m ≡ m → HasPlace c f r → Traced c b (with_put b f r)
  traced_set {c} e st = traced_put b put_room trail_room (rw e fp) (rw e u) st

-- ---- one entry excludes another, or not: the outcomes

module _ {c : Pairs} {b : Progress} (t : Trail c.m b) {e f q : ℕ} (ep : e < c.m) (fp : f < c.m) (st : HasPlace c f q) (d : e ≢ f)
    (placed : nth b.put e < c.m) (x : Goes c e (nth b.put e) f q → ⊥) where
  -- f stands where it may not
  pub clash_there : nth b.put f ≡ q → q < c.m → Clash c (nth b.put)
  clash_there y qp σ a g = excluded ep fp d placed x a g (g f fp (rw y qp) ∙ y)

  must : {σ : ℕ → ℕ} → Arranged c σ → Agrees c (nth b.put) σ → σ f ≡ other_than c f q
  must {σ} a g = stands_other c st (a.allowed f fp) (excluded ep fp d placed x a g)

  -- f has no other place
  pub clash_only : other_than c f q ≡ q → Clash c (nth b.put)
  clash_only y σ a g = excluded ep fp d placed x a g (must a g ∙ y)

  -- f goes to its other place
  pub grown_put : {r : ℕ} → r ≡ other_than c f q → r < c.m → r ≢ q → c.m ≤ nth b.put f
      → Grown c b (with_put b f r) true (e ≢ f → Free c (nth (with_put b f r).put) e f q)
  grown_put {r} y rp z u =
      record {
        shape = trail_put t fp u rp;
        traced = traced_set t fp u rp refl (rw y (other_stands c st));
        good = λ _. (forced, λ _. inr (rw here rp, λ v. z (sym here ∙ v)));
        bad = λ v. absurd (true≢false v);
      }
    where
      there : f < length b.put
      there = rw t.puts fp

      here : nth (with_put b f r).put f ≡ r
      here = put_here b there r

      forced : Forced c (nth b.put) (nth (with_put b f r).put)
      forced σ a g k kp v =
          by_cases (ℕ_discrete k f) (λ i. rw (i, here) (must a g ∙ sym y))
          (λ i. rw (put_there b there r k i) (g k kp (rw (put_there b there r k i) at v)))
