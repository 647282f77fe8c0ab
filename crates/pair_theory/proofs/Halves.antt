-- The words of arrangements, place by place, as lists. Where two words can be at a place, the builds with the one and with the other are
-- equally many: the odd one out at each place, of a build and two that are fixed, is a build again, and undoes itself.
-- No contract cites this file. Assumes nothing.
use mathlib.Core.Path.{◌≡◌, sym, ap, ◌∙◌}
use mathlib.Core.Logic.{◌≢◌, ⊎_elim, by_cases}
use mathlib.Core.List.{List, ◌++◌, map}
use Prim.Native.Nat.{ℕ, ◌+◌, ◌<◌}
use native.Mathlib.Omega.{arith}
use native.Mathlib.Decide.{ℕ_discrete}
use lib.ListN.{length, get_or, length-map, length-append}
use lib.Seq.{ext_get_or}
use Rattle.base_lists.specs.Members.{In}
use Rattle.build_sequence.specs.Many.{Many}
use Rattle.base_lists.proofs.ListLaws.{in_map, map_in, in_cast, in_append, in_append_left, in_append_right, rising_append}
use Rattle.build_sequence.proofs.ManyLaws.{differ_map}
use Rattle.pair_theory.specs.Arranged.{Pairs, Inside, Arranged, Reads}
use Rattle.pair_theory.specs.Chosen.{Read, ReadAs}
use Rattle.pair_theory.proofs.Extends.{one_to_one, filled}
use Rattle.base_lists.proofs.Undone.{Undone, undone}
use Rattle.base_lists.proofs.Listed.{listed, length_listed, get_d_listed}
use Rattle.pair_theory.proofs.Minority.{odd, odd_first, odd_second, odd_third, odd_back, Odd, all}
use Rattle.pair_theory.proofs.Minority.{one₁, one₂, one₃, two_there, odd_out, odd_at, odd_arranged}

-- ---- the words of an arrangement

module _ (c : Pairs) (i : Inside c) where
  -- the entry at p, and its word
  there_is : {ws : List ℕ} (x : Read c ws) (p : ℕ) → p < c.m → (e : ℕ) × (e < c.m) × (x.σ e ≡ p) × (get_or ws p 0 ≡ c.word e)
  there_is {ws} x p h =
      let f = filled c x.σ i x.arranged p h in
      let g : c.word f.0 ≡ get_or ws (x.σ f.0) 0 = x.has f.0 f.1 (omega (arith, f.2)) in
      (f.0, f.1, f.2, sym (rw f.2 at g))

  -- what an entry of the arrangement has at its place
  has_there : {ws : List ℕ} (x : Read c ws) (e p : ℕ) → e < c.m → p < c.m → x.σ e ≡ p → get_or ws p 0 ≡ c.word e
  has_there {ws} x e p he hp h =
      let g : c.word e ≡ get_or ws (x.σ e) 0 = x.has e he (omega arith) in
      sym (rw h at g)

  -- an arrangement that reads as w below t has those words in its list, and the other way round
  pub reads_same : {ws : List ℕ} (x : Read c ws) {t : ℕ} {w : ℕ → ℕ} → Reads c x.σ t w → ReadAs c t w ws
  reads_same {ws} x {t} {w} r = record { read = x; same = same }
    where
      same : (p : ℕ) → p < t → p < c.m → get_or ws p 0 ≡ w p
      same p h g =
          let u = there_is x p g in
          let y : c.word u.0 ≡ w (x.σ u.0) = r u.0 u.1 (omega (arith, u.2)) in
          u.3 ∙ rw u.2 at y

  pub same_reads : {ws : List ℕ} {t : ℕ} {w : ℕ → ℕ} (x : ReadAs c t w ws) → Reads c x.read.σ t w
  same_reads x e h g =
      let p = (one_to_one c x.read.σ i x.read.arranged).inside e h in
      x.read.has e h p ∙ x.same (x.read.σ e) g p

  -- the list of the words of an arrangement
  module _ (σ : ℕ → ℕ) (a : Arranged c σ) where
    at_places : Undone c.m σ
    at_places = undone c.m σ (filled c σ i a)

    pub words_of : List ℕ
    words_of = listed (λ t. c.word (at_places.back t)) c.m

    words_read : Read c words_of
    unfolding words_of
    words_read =
        record {
          σ = σ;
          arranged = a;
          many = length_listed (λ t. c.word (at_places.back t)) c.m;
          has = has;
        }
      where
        has : (e : ℕ) → e < c.m → σ e < c.m → c.word e ≡ get_or words_of (σ e) 0
        has e p h =
            let u = at_places in
            let back : u.back (σ e) ≡ e = (one_to_one c σ i a).apart (u.back (σ e)) e (u.inside (σ e) h) p (u.there (σ e) h) in
            sym (get_d_listed 0 (λ t. c.word (at_places.back t)) c.m (σ e) h ∙ ap c.word back)

    -- where the arrangement reads as w, so does the list
    pub words_as : {t : ℕ} {w : ℕ → ℕ} → Reads c σ t w → ReadAs c t w words_of
    unfolding words_read
    words_as r = reads_same words_read r

    -- an entry's word, at its place
    pub words_at : (e p : ℕ) → e < c.m → p < c.m → σ e ≡ p → get_or words_of p 0 ≡ c.word e
    unfolding words_read
    words_at e p he hp h = has_there words_read e p he hp h

-- ---- the odd one out, place by place

turned : ℕ → List ℕ → List ℕ → List ℕ → List ℕ
turned m ys zs xs = listed (λ p. odd (get_or xs p 0) (get_or ys p 0) (get_or zs p 0)) m

turned_length : (m : ℕ) (ys zs xs : List ℕ) → length (turned m ys zs xs) ≡ m
unfolding turned
turned_length m ys zs xs = length_listed (λ p. odd (get_or xs p 0) (get_or ys p 0) (get_or zs p 0)) m

turned_at : (m : ℕ) (ys zs xs : List ℕ) (p : ℕ) → p < m → get_or (turned m ys zs xs) p 0 ≡ odd (get_or xs p 0) (get_or ys p 0) (get_or zs p 0)
unfolding turned
turned_at m ys zs xs p h = get_d_listed 0 (λ p. odd (get_or xs p 0) (get_or ys p 0) (get_or zs p 0)) m p h

module _ (c : Pairs) (i : Inside c) {ys zs : List ℕ} (a : Read c ys) (b : Read c zs) where
  -- at most two words at a place
  two_words : {xs : List ℕ} → Read c xs → (p : ℕ) → p < c.m → get_or xs p 0 ≢ get_or ys p 0 → get_or xs p 0 ≢ get_or zs p 0 → get_or ys p 0 ≡ get_or zs p 0
  two_words x p h d d' =
      let u = there_is c i x p h in
      let v = there_is c i a p h in
      let w = there_is c i b p h in
      let same = two_there c i x.arranged a.arranged b.arranged u.0 v.0 w.0 p u.1 v.1 w.1
      u.2 v.2 w.2 (λ e. d (u.3 ∙ ap c.word e ∙ sym v.3)) (λ e. d' (u.3 ∙ ap c.word e ∙ sym w.3)) in
      v.3 ∙ ap c.word same ∙ sym w.3

  -- where one has an entry alone at p, the other two have the same word there
  others_same : {α β γ : List ℕ} (x : Read c α) (y : Read c β) (z : Read c γ) (e p : ℕ) → e < c.m → p < c.m → x.σ e ≡ p → y.σ e ≢ p
      → z.σ e ≢ p → get_or β p 0 ≡ get_or γ p 0
  others_same x y z e p he hp h d d' =
      let v = there_is c i y p hp in
      let w = there_is c i z p hp in
      let same = two_there c i x.arranged y.arranged z.arranged e v.0 w.0 p he v.1 w.1 h v.2
      w.2 (λ s. d (ap y.σ s ∙ v.2)) (λ s. d' (ap z.σ s ∙ w.2)) in
      v.3 ∙ ap c.word same ∙ sym w.3

  module _ {xs : List ℕ} (x : Read c xs) where
    odd_word : (e p : ℕ) → e < c.m → p < c.m → Odd (x.σ e) (a.σ e) (b.σ e) p → odd (get_or xs p 0) (get_or ys p 0) (get_or zs p 0) ≡ c.word e
    odd_word e p he hp (all s t u) =
        odd_third (get_or xs p 0) (get_or ys p 0) (get_or zs p 0) (has_there c i x e p he hp s ∙ sym (has_there c i a e p he hp t))
        ∙ has_there c i b e p he hp u
    odd_word e p he hp (one₁ s t u) =
        odd_first (get_or xs p 0) (get_or ys p 0) (get_or zs p 0) (others_same x a b e p he hp s t u) ∙ has_there c i x e p he hp s
    odd_word e p he hp (one₂ s t u) =
        odd_second (get_or xs p 0) (get_or ys p 0) (get_or zs p 0) (others_same a x b e p he hp t s u) ∙ has_there c i a e p he hp t
    odd_word e p he hp (one₃ s t u) =
        odd_third (get_or xs p 0) (get_or ys p 0) (get_or zs p 0) (others_same b x a e p he hp u s t) ∙ has_there c i b e p he hp u

    turned_read : Read c (turned c.m ys zs xs)
    turned_read =
        record {
          σ = odd_out c i x.arranged a.arranged b.arranged;
          arranged = odd_arranged c i x.arranged a.arranged b.arranged;
          many = turned_length c.m ys zs xs;
          has = λ e h g. sym
              (turned_at c.m ys zs xs (odd_out c i x.arranged a.arranged b.arranged e) g
              ∙ odd_word e (odd_out c i x.arranged a.arranged b.arranged e) h g
              (odd_at c i x.arranged a.arranged b.arranged e h));
        }

    turned_back : turned c.m ys zs (turned c.m ys zs xs) ≡ xs
    turned_back =
        ext_get_or 0 (turned c.m ys zs (turned c.m ys zs xs)) xs (twice ∙ sym x.many)
        (λ p h. let l : p < c.m = omega (arith, twice) in
        turned_at c.m ys zs (turned c.m ys zs xs) p l
        ∙ rw (turned_at c.m ys zs xs p l) (odd_back (get_or xs p 0) (get_or ys p 0) (get_or zs p 0) (two_words x p l)))
      where
        twice : length (turned c.m ys zs (turned c.m ys zs xs)) ≡ c.m
        twice = turned_length c.m ys zs (turned c.m ys zs xs)

-- ---- both halves

module _ (c : Pairs) (i : Inside c) (t : ℕ) (l : t < c.m) (w v : ℕ → ℕ) (same : (p : ℕ) → p < t → v p ≡ w p) where
  -- the words of v up to t, and so those of w below t
  pub less_same : (xs : List ℕ) → ReadAs c (t + 1) v xs → ReadAs c t w xs
  less_same xs x = record { read = x.read; same = λ p h g. x.same p (omega arith) g ∙ same p h }

  -- the words of w below t, and that of v at t
  more_same : (xs : List ℕ) → ReadAs c t w xs → get_or xs t 0 ≡ v t → ReadAs c (t + 1) v xs
  more_same xs x e = record { read = x.read; same = here }
    where
      here : (p : ℕ) → p < t + 1 → p < c.m → get_or xs p 0 ≡ v p
      here p h g = by_cases (ℕ_discrete p t) (λ d. rw d e) (λ d. let k : p < t = omega (arith, d) in x.same p k g ∙ sym (same p k))

  module _ {ys zs : List ℕ} (a : ReadAs c (t + 1) v ys) (b : ReadAs c t w zs) (other : get_or zs t 0 ≢ v t) where
    turn : List ℕ → List ℕ
    turn xs = turned c.m ys zs xs

    turn_read : (xs : List ℕ) → Read c xs → Read c (turn xs)
    unfolding turn
    turn_read xs x = turned_read c i a.read b.read x

    turn_back : (xs : List ℕ) → Read c xs → turn (turn xs) ≡ xs
    unfolding turn
    turn_back xs x = turned_back c i a.read b.read x

    turn_at : (xs : List ℕ) (p : ℕ) → p < c.m → get_or (turn xs) p 0 ≡ odd (get_or xs p 0) (get_or ys p 0) (get_or zs p 0)
    unfolding turn
    turn_at xs p h = turned_at c.m ys zs xs p h

    here_is : get_or ys t 0 ≡ v t
    here_is = a.same t (omega arith) l

    -- below t nothing changes
    turn_same : (xs : List ℕ) → ReadAs c t w xs → ReadAs c t w (turn xs)
    turn_same xs x =
        record {
          read = turn_read xs x.read;
          same = λ p h g.
              turn_at xs p g
              ∙ odd_first (get_or xs p 0) (get_or ys p 0) (get_or zs p 0) (a.same p (omega arith) g ∙ same p h ∙ sym (b.same p h g))
              ∙ x.same p h g;
        }

    -- the word of v at t becomes the other
    turn_other : (xs : List ℕ) → ReadAs c (t + 1) v xs → get_or (turn xs) t 0 ≡ get_or zs t 0
    turn_other xs x =
        turn_at xs t l ∙ odd_third (get_or xs t 0) (get_or ys t 0) (get_or zs t 0) (x.same t (omega arith) l ∙ sym here_is)

    -- and another word at t becomes that of v
    turn_here : (xs : List ℕ) → ReadAs c t w xs → get_or xs t 0 ≢ v t → get_or (turn xs) t 0 ≡ v t
    turn_here xs x d =
        let is-other : get_or xs t 0 ≡ get_or zs t 0 = by_cases (ℕ_discrete (get_or xs t 0) (get_or zs t 0)) (λ e. e)
        (λ e. absurd (other (sym (two_words c i a.read b.read x.read t l (λ h. d (h ∙ here_is)) e) ∙ here_is))) in
        turn_at xs t l ∙ odd_second (get_or xs t 0) (get_or ys t 0) (get_or zs t 0) is-other ∙ here_is

    -- as many again
    pub doubled : {n : ℕ} → Many (ReadAs c (t + 1) v) n → Many (ReadAs c t w) (n + n)
    doubled {n} q =
        record {
          all = q.all ++ map turn q.all;
          count = length-append q.all (map turn q.all) ∙ omega (arith, q.count, length-map q.all turn);
          differ = rising_append q.differ (differ_map turn q.differ one) apart;
          fit = λ s h. ⊎_elim (λ k. less_same s (q.fit s k)) (turned_fits s) (in_append q.all h);
          none_else = every;
        }
      where
        one : (s r : List ℕ) → In s q.all → In r q.all → turn s ≡ turn r → s ≡ r
        one s r h k e = sym (turn_back s (q.fit s h).read) ∙ ap turn e ∙ turn_back r (q.fit r k).read

        apart : (s r : List ℕ) → In s q.all → In r (map turn q.all) → s ≢ r
        apart s r h k e =
            let u = in_map turn q.all k in
            let g : get_or s t 0 ≡ get_or (turn u.0) t 0 = ap (λ (x : List ℕ). get_or x t 0) (e ∙ u.2) in
            other (sym (turn_other u.0 (q.fit u.0 u.1)) ∙ sym g ∙ (q.fit s h).same t (omega arith) l)

        turned_fits : (s : List ℕ) → In s (map turn q.all) → ReadAs c t w s
        turned_fits s h =
            let u = in_map turn q.all h in rw u.2 (turn_same u.0 (less_same u.0 (q.fit u.0 u.1)))

        every : (s : List ℕ) → ReadAs c t w s → In s (q.all ++ map turn q.all)
        every s x =
            by_cases (ℕ_discrete (get_or s t 0) (v t))
            (λ e. in_append_left (map turn q.all) (q.none_else s (more_same s x e)))
            (λ e. in_append_right q.all (in_cast (sym (turn_back s x.read))
            (map_in turn (q.none_else (turn s) (more_same (turn s) (turn_same s x) (turn_here s x e))))))
