-- One place more of the first build: its words up to there, and how many builds there are to those that have them. No contract cites this file.
-- Assumes nothing.
use mathlib.Core.Path.{◌≡◌, refl, sym, ap, ◌∙◌}
use mathlib.Core.Logic.{◌≢◌, ◌⊎◌, inl, inr, ⊎_elim, by_cases}
use mathlib.Core.List.{List, [], ◌∷◌}
use Prim.Native.Nat.{ℕ, ◌+◌, ◌*◌, ◌^◌, ◌<◌}
use native.Mathlib.Nat.{mul_assoc}
use native.Mathlib.Omega.{arith}
use native.Mathlib.Decide.{ℕ_discrete}
use lib.ListN.{length, get_or}
use lib.Pow.{pow-add}
use lib.Seq.{ext_get_or}
use Rattle.base_lists.specs.Members.{first}
use Rattle.build_sequence.specs.Many.{Many}
use Rattle.base_lists.proofs.ListLaws.{not_in_nil}
use Rattle.build_sequence.proofs.ManyLaws.{many_none, many_same, many_sole}
use Rattle.pair_theory.specs.Arranged.{Pairs, Inside, Arranged, Reads, ReadsLater}
use Rattle.pair_theory.specs.Chosen.{Agrees, Closed, HasWord, WordChosen, ReadAs, Upto, FirstFound}
use Rattle.pair_theory.proofs.Extends.{over, over_agrees, extends, filled, agrees_less, was_possible, one_there}
use Rattle.pair_theory.proofs.Halves.{reads_same, same_reads, words_of, words_as, words_at, less_same, doubled}

module _ (c : Pairs) (σ w v : ℕ → ℕ) (t : ℕ) (same : (i : ℕ) → i < t → v i ≡ w i) where
  -- the words below t are those of w and of v
  reads_v : Reads c σ t w → Reads c σ t v
  reads_v r e p h = r e p h ∙ sym (same (σ e) h)

  reads_w : Reads c σ t v → Reads c σ t w
  reads_w r e p h = r e p h ∙ same (σ e) h

  reads_more : Reads c σ t w → HasWord c σ t (v t) → Reads c σ (t + 1) v
  reads_more r h e p l =
      by_cases (ℕ_discrete (σ e) t) (λ x. h e p x ∙ ap v (sym x)) (λ x. reads_v r e p (omega (arith, x)))

  reads_less : Reads c σ (t + 1) v → Reads c σ t w
  reads_less r = reads_w (λ e p h. r e p (omega arith))

  reads_word : Reads c σ (t + 1) v → HasWord c σ t (v t)
  reads_word r e p h = r e p (omega arith) ∙ ap v h

  later_more : ReadsLater c σ t w → ReadsLater c σ (t + 1) v
  later_more l =
      let b = l.below in
      record {
        at = l.at;
        below = omega arith;
        same = λ e p h. l.same e p h ∙ sym (same (σ e) (omega arith));
        more = λ e p h. rw (same l.at b) (l.more e p h);
      }

  later_here : Reads c σ t w → ((e : ℕ) → e < c.m → σ e ≡ t → v t < c.word e) → ReadsLater c σ (t + 1) v
  later_here r h = record { at = t; below = omega arith; same = reads_v r; more = h }

module _ (c : Pairs) (s r w v : ℕ → ℕ) (t n k : ℕ) (i : Inside c) (l : t < c.m)
    (same : (i : ℕ) → i < t → v i ≡ w i) (u : Upto c s t w n) (h : WordChosen c s t (v t) k r) (few : k < 2) where
  -- the smallest word at t, or a larger one
  next_first : (σ : ℕ → ℕ) → Arranged c σ → Reads c σ t w → Reads c σ (t + 1) v ⊎ ReadsLater c σ (t + 1) v
  next_first σ a g = go (filled c σ i a t l)
    where
      go : (e : ℕ) × (e < c.m) × (σ e ≡ t) → Reads c σ (t + 1) v ⊎ ReadsLater c σ (t + 1) v
      go (e, p, x) =
          by_cases (ℕ_discrete (c.word e) (v t))
          (λ y. inl (reads_more c σ w v t same g (λ f q z. ap c.word (one_there c σ a f e t q p z x) ∙ y)))
          (λ y. inr (later_here c σ w v t same g
          (λ f q z. rw (one_there c σ a f e t q p z x) (omega (arith, y, h.low σ a (u.into σ a g) e p x)))))

  -- an arrangement with the places of r
  next_reads : (σ : ℕ → ℕ) → Arranged c σ → Agrees c r σ → Reads c σ (t + 1) v
  next_reads σ a g =
      reads_more c σ w v t same (u.reads σ a (agrees_less c s r σ h.keeps g))
      (λ e p x. h.out e p (was_possible c r σ t e a g p x))

  -- where there is an arrangement, there is one with the chosen words up to t
  next_there : (σ : ℕ → ℕ) → Arranged c σ → (ws : List ℕ) × ReadAs c (t + 1) v ws
  next_there σ a =
      let b = extends c r σ h.closed a in
      (words_of c i (over c r σ) b, words_as c i (over c r σ) b (next_reads (over c r σ) b (over_agrees c r σ)))

  -- no other word at t
  none_more : k ≡ 0 → (xs : List ℕ) → ReadAs c t w xs → ReadAs c (t + 1) v xs
  none_more z xs x =
      let a = x.read.arranged in
      let g = same_reads c i x in
      reads_same c i x.read (reads_more c x.read.σ w v t same g (h.alone z x.read.σ a (u.into x.read.σ a g)))

  -- another word at t
  one_more_word : 0 < k → (σ : ℕ → ℕ) → Arranged c σ → (zs : List ℕ) × ReadAs c t w zs × (get_or zs t 0 ≢ v t)
  one_more_word z σ a =
      let y = h.others z σ a in (
        words_of c i y.σ y.arranged,
        words_as c i y.σ y.arranged (u.reads y.σ y.arranged y.agrees),
        λ e. omega (arith, e, words_at c i y.σ y.arranged y.entry t y.inside l y.stands, y.more),
      )

  -- as many builds have the chosen words below t as have them up to t, or twice as many
  many_more : (j : ℕ) → Many (ReadAs c (t + 1) v) j → Many (ReadAs c t w) (2 ^ k * j)
  many_more j q = by_cases (ℕ_discrete k 0) none (λ z. more (omega (arith, z)) q.all refl)
    where
      none : k ≡ 0 → Many (ReadAs c t w) (2 ^ k * j)
      none z =
          let e : 2 ^ k * j ≡ j = rw z (omega arith) in rw e (many_same (less_same c i t l w v same) (none_more z) q)

      more : k ≡ 1 → (xs : List (List ℕ)) → q.all ≡ xs → Many (ReadAs c t w) (2 ^ k * j)
      more z [] e =
          let f : j ≡ 0 = sym q.count ∙ ap length e in
          let g : 2 ^ k * j ≡ 0 = rw z (omega arith) in
          rw g
          (many_none (λ s x. let y = next_there x.read.σ x.read.arranged in not_in_nil (rw e at (q.none_else y.0 y.1))))
      more z (x ∷ xs) e =
          let a = q.fit x (rw e first) in
          let b = one_more_word (omega arith) a.read.σ a.read.arranged in
          let g : 2 ^ k * j ≡ j + j = rw z (omega arith) in
          rw g (doubled c i t l w v same a b.1 b.2 q)

  pub upto_more : Upto c r (t + 1) v (n + k)
  upto_more =
      record {
        closed = h.closed;
        into = λ σ a g. h.forced σ a (u.into σ a (reads_less c σ w v t same g)) (reads_word c σ w v t same g);
        reads = next_reads;
        first = λ σ a. ⊎_elim (next_first σ a) (λ y. inr (later_more c σ w v t same y)) (u.first σ a);
        many = λ j q. rw (power j) (u.many (2 ^ k * j) (many_more j q));
      }
    where
      power : (j : ℕ) → 2 ^ (n + k) * j ≡ 2 ^ n * (2 ^ k * j)
      power j = ap (λ (x : ℕ). x * j) (pow-add 2 n k) ∙ mul_assoc (2 ^ n) (2 ^ k) j

-- ---- before the first place, and after the last

pub upto_none : (c : Pairs) (s w : ℕ → ℕ) → Closed c s → ((σ : ℕ → ℕ) → Arranged c σ → Agrees c s σ) → Upto c s 0 w 0
upto_none c s w k h =
    record {
      closed = k;
      into = λ σ a g. h σ a;
      reads = λ σ a g. nothing σ;
      first = λ σ a. inl (nothing σ);
      many = λ j q.
          let e : 2 ^ 0 * j ≡ j = omega arith in
          rw e (many_same (λ s x. x.read) (λ s x. record { read = x; same = λ p l. absurd (omega arith) }) q);
    }
  where
    nothing : (σ : ℕ → ℕ) → Reads c σ 0 w
    nothing σ e p l = absurd (omega arith)

pub found : (c : Pairs) (s r w : ℕ → ℕ) (n : ℕ) → Inside c → Upto c s c.m w n → Arranged c r → Agrees c s r → FirstFound c w n
found c s r w n i u a g =
    record {
      σ = r;
      arranged = a;
      reads = u.reads r a g;
      first = u.first;
      many = let e : 2 ^ n ≡ 2 ^ n * 1 = omega arith in rw e (u.many 1 (many_sole (b, only)));
    }
  where
    b : ReadAs c c.m w (words_of c i r a)
    b = words_as c i r a (u.reads r a g)

    -- one list has the words of w everywhere
    only : (ws : List ℕ) → ReadAs c c.m w ws → ws ≡ words_of c i r a
    only ws x =
        ext_get_or 0 ws (words_of c i r a) (x.read.many ∙ sym b.read.many)
        (λ p h. let k : p < c.m = omega (arith, x.read.many) in x.same p k k ∙ sym (b.same p k k))
