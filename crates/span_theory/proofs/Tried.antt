-- What the walk tries at a place: candidates, one of each word, the one that ends first, in the order of words.
-- Assumes nothing.
use mathlib.Core.Path.{◌≡◌, refl, sym, ◌∙◌, ap}
use mathlib.Core.Logic.{◌⊎◌, inl, inr, ⊎_elim, ⊎_map}
use mathlib.Core.Bool.{Bool, true, false, cond, ◌&&◌}
use mathlib.Core.List.{List, [], ◌∷◌}
use mathlib.Core.Option.{Option}
use Prim.Native.Nat.{ℕ, ◌≤◌, ◌<◌}
use native.Mathlib.Omega.{arith}
use lib.Dec.{T, leb, ltb, leb→le, le→leb, ltb→lt, lt→ltb}
use borrow.Author.Tests.{ltb-true, ltb-false, leb-true, leb-false}
use Rattle.base_lists.specs.Members.{Choice, choice, choices, In, first, later, Taken, Rising, flat, rises, keep}
use Rattle.card_entries.specs.declared.Slot.{Slot}
use Rattle.build_sequence.specs.Arrangement.{follows}
use Rattle.span_theory.specs.Walk.{word_of, end_of, last_past, is_candidate, insert, by_word, tried}
use Rattle.span_theory.proofs.Feasible.{Allowed}
use Rattle.base_lists.proofs.TestLaws.{and_both, both_and}
use Rattle.base_lists.proofs.ListLaws.{taken_choice, choice_taken, not_in_nil, in_cons, in_keep, keep_in}

-- ---- candidates

-- what the test of a candidate says
pub record Candidate (l i : ℕ) (p : Option ℕ) (c : Choice Slot) : Type 0 where
  pub allowed : Allowed c.entry i
  pub follow : T (follows l p (word_of c))
  pub others : (d : Slot) → In d c.left → i < d.two

past_in : (i : ℕ) (es : List Slot) → T (last_past i es) → (d : Slot) → In d es → i < d.two
past_in i (e ∷ es) t d first = ltb→lt _ _ (and_both (ltb i e.two) (last_past i es) t).0
past_in i (e ∷ es) t d (later h) = past_in i es (and_both (ltb i e.two) (last_past i es) t).1 d h
past_in i [] t d h = elim h [ ]

in_past : (i : ℕ) (es : List Slot) → ((d : Slot) → In d es → i < d.two) → T (last_past i es)
in_past i [] h = tt
in_past i (e ∷ es) h = both_and (ltb i e.two) (last_past i es) (lt→ltb _ _ (h e first)) (in_past i es (λ d m. h d (later m)))

pub candidate_of : (l i : ℕ) (p : Option ℕ) (c : Choice Slot) → T (is_candidate l i p c) → Candidate l i p c
unfolding is_candidate
candidate_of l i p c t =
    let a = and_both (leb c.entry.one i && leb i (end_of c) && follows l p (word_of c)) (last_past i c.left) t in
    let b = and_both (leb c.entry.one i && leb i (end_of c)) (follows l p (word_of c)) a.0 in
    let d = and_both (leb c.entry.one i) (leb i (end_of c)) b.0 in
    record {
      allowed = record { begun = leb→le _ _ d.0; lasts = leb→le _ _ d.1 };
      follow = b.1;
      others =
          past_in i _ a.1;
    }

pub of_candidate : (l i : ℕ) (p : Option ℕ) (c : Choice Slot) → Candidate l i p c → T (is_candidate l i p c)
unfolding is_candidate
of_candidate l i p c k =
    both_and (leb c.entry.one i && leb i (end_of c) && follows l p (word_of c)) (last_past i c.left)
    (both_and (leb c.entry.one i && leb i (end_of c)) (follows l p (word_of c))
    (both_and (leb c.entry.one i) (leb i (end_of c)) (le→leb _ _ k.allowed.begun) (le→leb _ _ k.allowed.lasts))
    k.follow)
    (in_past i _ k.others)

-- ---- in the order of words

module _ {A : Type 0} (word last : A → ℕ) where
  -- the four ways in which c comes in before d and those after it
  data Inserted (c d : A) (ds : List A) : List A → Type 0 where
    before : word c < word d → Inserted c d ds (c ∷ d ∷ ds)
    after : word d < word c → Inserted c d ds (d ∷ insert word last c ds)
    instead : word c ≡ word d → last c ≤ last d → Inserted c d ds (c ∷ ds)
    dropped : word c ≡ word d → last d < last c → Inserted c d ds (d ∷ ds)

  inserted : (c d : A) (ds : List A) → Inserted c d ds (insert word last c (d ∷ ds))
  unfolding insert
  inserted c d ds = go (ltb (word c) (word d)) refl (ltb (word d) (word c)) refl (leb (last c) (last d)) refl
    where
      go : (s : Bool) → ltb (word c) (word d) ≡ s → (t : Bool) → ltb (word d) (word c) ≡ t → (u : Bool) → leb (last c) (last d) ≡ u
          → Inserted c d ds (cond s (c ∷ d ∷ ds) (cond t (d ∷ insert word last c ds) (cond u (c ∷ ds) (d ∷ ds))))
      go true e t f u g = before (ltb-true _ _ e)
      go false e true f u g = after (ltb-true _ _ f)
      go false e false f true g = instead (omega (arith, ltb-false)) (leb-true _ _ g)
      go false e false f false g = dropped (omega (arith, ltb-false)) (leb-false _ _ g)

  abbrev pub Words : A → A → Type 0
  Words c d = word c < word d

  insert_in : {x : A} (c : A) (ds : List A) → In x (insert word last c ds) → (x ≡ c) ⊎ In x ds
  unfolding insert
  insert_in c [] h = in_cons h
  insert_in {x} c (d ∷ ds) h = go (insert_in c ds) (inserted c d ds) h
    where
      go : {r : List A} → (In x (insert word last c ds) → (x ≡ c) ⊎ In x ds) → Inserted c d ds r → In x r → (x ≡ c) ⊎ In x (d ∷ ds)
      go more (before w) h = in_cons h
      go more (after w) h = ⊎_elim (λ e. inr (rw e first)) (λ h'. ⊎_map (λ e. e) later (more h')) (in_cons h)
      go more (instead w e) h = ⊎_map (λ q. q) later (in_cons h)
      go more (dropped w e) h = inr h

  -- a member is c, where nothing with its word ends before it, or one of the others, which ends before c if it has its word
  pub insert_best : {x : A} (c : A) {ds : List A} → Rising Words ds → In x (insert word last c ds)
      → ((x ≡ c) × ((d : A) → In d ds → word d ≡ word c → last c ≤ last d)) ⊎ (In x ds × (word x ≡ word c → last x < last c))
  unfolding insert
  insert_best c flat h = ⊎_elim (λ e. inl (e, λ d m. absurd (not_in_nil m))) (λ m. absurd (not_in_nil m)) (in_cons h)
  insert_best {x} c (rises {x = d} {xs = ds} up rs) h = go (insert_best c rs) (inserted c d ds) h
    where
      at_least : (e : A) → In e (d ∷ ds) → word d ≤ word e
      at_least e m = ⊎_elim (λ q. omega (arith, ap word q)) (λ m'. omega (arith, up e m')) (in_cons m)

      go : {r : List A}
          → (In x (insert word last c ds)
          → ((x ≡ c) × ((e : A) → In e ds → word e ≡ word c → last c ≤ last e)) ⊎ (In x ds × (word x ≡ word c → last x < last c)))
          → Inserted c d ds r → In x r
          → ((x ≡ c) × ((e : A) → In e (d ∷ ds) → word e ≡ word c → last c ≤ last e)) ⊎
          (In x (d ∷ ds) × (word x ≡ word c → last x < last c))
      go more (before w) h =
          ⊎_map (λ q. (q, λ e m s. absurd (omega (arith, at_least e m)))) (λ m. (m, λ s. absurd (omega (arith, at_least x m)))) (in_cons h)
      go more (after w) h =
          ⊎_elim (λ q. inr (rw q first, λ s. absurd (omega (arith, ap word q))))
          (λ m. ⊎_map (λ u. (u.0, λ e k s. ⊎_elim (λ q. absurd (omega (arith, ap word q))) (λ k'. u.1 e k' s) (in_cons k)))
          (λ u. (later u.0, u.1)) (more m)) (in_cons h)
      go more (instead w e) h =
          ⊎_map (λ q. (q, λ y m s. ⊎_elim (λ z. rw z e) (λ m'. absurd (omega (arith, up y m'))) (in_cons m)))
          (λ m. (later m, λ s. absurd (omega (arith, up x m)))) (in_cons h)
      go more (dropped w e) h = inr (h, λ s. ⊎_elim (λ q. rw q e) (λ m. absurd (omega (arith, up x m))) (in_cons h))

  insert_rising : (c : A) {ds : List A} → Rising Words ds → Rising Words (insert word last c ds)
  unfolding insert
  insert_rising c flat = rises (λ y h. absurd (not_in_nil h)) flat
  insert_rising c (rises {x = d} {xs = ds} up r) = go (insert_rising c r) (inserted c d ds)
    where
      go : {s : List A} → Rising Words (insert word last c ds) → Inserted c d ds s → Rising Words s
      go more (before w) = rises {x = c} {xs = d ∷ ds} (λ y h. ⊎_elim (λ e. rw e w) (λ h'. omega (arith, up y h')) (in_cons h)) (rises up r)
      go more (after w) = rises {x = d} (λ y h. ⊎_elim (λ e. rw e w) (λ h'. up y h') (insert_in c ds h)) more
      go more (instead w e) = rises {x = c} {xs = ds} (λ y h. omega (arith, up y h)) r
      go more (dropped w e) = rises up r

  -- d is tried for c: it has the same word and ends no later
  pub record Serves (c d : A) : Type 0 where
    pub same : word d ≡ word c
    pub ends : last d ≤ last c

  serves_itself : (c : A) → Serves c c
  serves_itself c = record { same = refl; ends = omega arith }

  insert_serves_new : (c : A) (ds : List A) → (e : A) × In e (insert word last c ds) × Serves c e
  unfolding insert
  insert_serves_new c [] = (c, first, serves_itself c)
  insert_serves_new c (d ∷ ds) = go (insert_serves_new c ds) (inserted c d ds)
    where
      go : {r : List A} → (e : A) × In e (insert word last c ds) × Serves c e → Inserted c d ds r → (e : A) × In e r × Serves c e
      go more (before w) = (c, first, serves_itself c)
      go more (after w) = (more.0, later more.1, more.2)
      go more (instead w e) = (c, first, serves_itself c)
      go more (dropped w e) = (d, first, record { same = sym w; ends = omega arith })

  insert_serves_old : {x : A} (c : A) (ds : List A) → In x ds → (e : A) × In e (insert word last c ds) × Serves x e
  unfolding insert
  insert_serves_old {x} c (d ∷ ds) h = go (insert_serves_old c ds) (inserted c d ds)
    where
      go : {r : List A} → (In x ds → (e : A) × In e (insert word last c ds) × Serves x e) → Inserted c d ds r
          → (e : A) × In e r × Serves x e
      go more (before w) = (x, later h, serves_itself x)
      go more (after w) = ⊎_elim (λ q. (d, first, rw q (serves_itself d))) (λ h'. let m = more h' in (m.0, later m.1, m.2)) (in_cons h)
      go more (instead w e) =
          ⊎_elim (λ q. (c, first, rw q (record { same = w; ends = e }))) (λ h'. (x, later h', serves_itself x)) (in_cons h)
      go more (dropped w e) = (x, h, serves_itself x)
  insert_serves_old {x = x} c [] h = elim h [ ]

  pub by_word_in : {x : A} (cs : List A) → In x (by_word word last cs) → In x cs
  unfolding by_word
  by_word_in (c ∷ cs) h = ⊎_elim (λ e. rw e first) (λ h'. later (by_word_in cs h')) (insert_in c (by_word word last cs) h)
  by_word_in [] h = elim h [ ]

  pub by_word_rising : (cs : List A) → Rising Words (by_word word last cs)
  unfolding by_word
  by_word_rising [] = flat
  by_word_rising (c ∷ cs) = insert_rising c (by_word_rising cs)

  pub by_word_serves : {x : A} (cs : List A) → In x cs → (e : A) × In e (by_word word last cs) × Serves x e
  unfolding by_word
  by_word_serves (c ∷ cs) first = insert_serves_new c (by_word word last cs)
  by_word_serves (c ∷ cs) (later h) =
      let u = by_word_serves cs h in
      let v = insert_serves_old c (by_word word last cs) u.1 in
      (v.0, v.1, record { same = v.2.same ∙ u.2.same; ends = omega (arith, v.2.ends, u.2.ends) })
  by_word_serves [] h = elim h [ ]

-- ---- what is tried

module _ (l i : ℕ) (p : Option ℕ) (left : List Slot) where
  pub tried_in : {c : Choice Slot} → In c (tried l i p left) → Taken c.entry left c.left × Candidate l i p c
  unfolding tried
  tried_in {c} h =
      let k = in_keep (is_candidate l i p) (choices left) (by_word_in word_of end_of _ h) in
      (choice_taken left k.0, candidate_of l i p c k.1)

  pub tried_serves : {e : Slot} {rest : List Slot} → Taken e left rest → Candidate l i p (choice e rest)
      → (d : Choice Slot) × In d (tried l i p left) × Serves word_of end_of (choice e rest) d
  unfolding tried
  tried_serves t k = by_word_serves word_of end_of _ (keep_in (is_candidate l i p) (taken_choice t) (of_candidate l i p _ k))

  pub tried_rising : Rising (Words word_of end_of) (tried l i p left)
  unfolding tried
  tried_rising = by_word_rising word_of end_of (keep (is_candidate l i p) (choices left))
