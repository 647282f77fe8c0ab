-- The walk over indices and marks: what the walk tries, when the entries that are left are those whose index is not marked, and a table
-- has the indices in the order of word, end and index. Assumes nothing.
use mathlib.Core.Path.{◌≡◌, refl, sym, ◌∙◌, ap, ap₂}
use mathlib.Core.Bool.{Bool, true, false, cond, not, ◌&&◌}
use mathlib.Core.List.{List, [], ◌∷◌, ◌++◌, map, flat_map}
use mathlib.Core.Option.{Option, some}
use Prim.Native.Nat.{ℕ, zero, suc, ◌+◌, ◌≤◌, ◌<◌}
use native.Mathlib.Omega.{arith}
use native.Mathlib.Nat.{eq-or-lt_of_le}
use mathlib.Core.Logic.{⊎_elim}
use lib.Dec.{T, eqb, leb, ltb}
use borrow.Author.Tests.{eq-eqb, ne_eqb}
use Rattle.base_lists.proofs.TestLaws.{and_both, both_and}
use Rattle.base_lists.specs.Members.{Choice, choice, choices, In, first, later, Rising, flat, rises, keep}
use Rattle.base_lists.specs.Numbers.{numbers}
use Rattle.card_entries.specs.declared.Slot.{Slot}
use Rattle.span_theory.proofs.Feasible.{Allowed}
use Rattle.span_theory.specs.Walk.{word_of, end_of, is_candidate, insert, by_word, tried, walk}
use Rattle.base_lists.proofs.ListLaws.{in_keep, keep_in, rising_keep}
use Rattle.span_theory.proofs.Tried.{candidate_of}
use Rattle.span_theory.proofs.Order.{Sooner, firsts, by_word_firsts}

-- ---- maps

module _ {A B : Type 0} where
  map_same : (f g : A → B) (l : List A) → ((x : A) → In x l → f x ≡ g x) → map f l ≡ map g l
  map_same f g [] h = refl
  map_same f g (x ∷ l) h = let e = h x first in let t = map_same f g l (λ y m. h y (later m)) in cc

  map_map : {C : Type 0} (g : B → C) (f : A → B) (l : List A) → map g (map f l) ≡ map (λ x. g (f x)) l
  map_map g f [] = refl
  map_map g f (x ∷ l) = ap (λ r. g (f x) ∷ r) (map_map g f l)

  flat_map_map : {C : Type 0} (g : B → List C) (f : A → B) (l : List A) → flat_map g (map f l) ≡ flat_map (λ x. g (f x)) l
  unfolding flat_map
  flat_map_map g f [] = refl
  flat_map_map g f (x ∷ l) = ap (λ r. g (f x) ++ r) (flat_map_map g f l)

  flat_map_same : (f g : A → List B) (l : List A) → ((x : A) → f x ≡ g x) → flat_map f l ≡ flat_map g l
  unfolding flat_map
  flat_map_same f g [] h = refl
  flat_map_same f g (x ∷ l) h = ap₂ (λ r s. r ++ s) (h x) (flat_map_same f g l h)

  pub keep_map : (test : B → Bool) (f : A → B) (l : List A) → keep test (map f l) ≡ map f (keep (λ x. test (f x)) l)
  keep_map test f [] = refl
  keep_map test f (x ∷ l) = go (test (f x)) (keep_map test f l)
    where
      go : (t : Bool) → keep test (map f l) ≡ map f (keep (λ y. test (f y)) l)
          → cond t (f x ∷ keep test (map f l)) (keep test (map f l))
          ≡ map f (cond t (x ∷ keep (λ y. test (f y)) l) (keep (λ y. test (f y)) l))
      go true e = ap (λ r. f x ∷ r) e
      go false e = e

  module _ (word last : B → ℕ) (f : A → B) where
    insert_map : (c : A) (l : List A) → insert word last (f c) (map f l) ≡ map f (insert (λ x. word (f x)) (λ x. last (f x)) c l)
    unfolding insert
    insert_map c [] = refl
    insert_map c (d ∷ l) =
        go (insert (λ x. word (f x)) (λ x. last (f x)) c l) (ltb (word (f c)) (word (f d))) (ltb (word (f d)) (word (f c)))
        (leb (last (f c)) (last (f d))) (insert_map c l)
      where
        go : {r : List B} (q : List A) (s t u : Bool) → r ≡ map f q
            → cond s (f c ∷ f d ∷ map f l) (cond t (f d ∷ r) (cond u (f c ∷ map f l) (f d ∷ map f l)))
            ≡ map f (cond s (c ∷ d ∷ l) (cond t (d ∷ q) (cond u (c ∷ l) (d ∷ l))))
        go q true t u e = refl
        go q false true u e = ap (λ x. f d ∷ x) e
        go q false false true e = refl
        go q false false false e = refl

    by_word_map : (l : List A) → by_word word last (map f l) ≡ map f (by_word (λ x. word (f x)) (λ x. last (f x)) l)
    unfolding by_word
    by_word_map [] = refl
    by_word_map (c ∷ l) = ap (insert word last (f c)) (by_word_map l) ∙ insert_map c (by_word (λ x. word (f x)) (λ x. last (f x)) l)

-- ---- the numbers from i on

pub numbers_in : (i n j : ℕ) → In j (numbers i n) → (i ≤ j) × (j < i + n)
numbers_in i (suc n) j first = (omega arith, omega arith)
numbers_in i (suc n) j (later h) = let k = numbers_in (suc i) n j h in (omega arith, omega arith)
numbers_in i zero j h = elim h [ ]

pub in_numbers : (i n j : ℕ) → i ≤ j → j < i + n → In j (numbers i n)
in_numbers i zero j h g = absurd (omega arith)
in_numbers i (suc n) j h g = ⊎_elim (λ e. rw (← e) first) (λ k. later (in_numbers (suc i) n j k (omega arith))) (eq-or-lt_of_le h)

pub numbers_rising : (i n : ℕ) → Rising ◌<◌ (numbers i n)
numbers_rising i zero = flat
numbers_rising i (suc n) =
    rises {x = i} {xs = numbers (suc i) n} (λ j h. omega (arith, numbers_in (suc i) n j h)) (numbers_rising (suc i) n)

-- ---- the indices that are left

unfoldable pub without : ℕ → List ℕ → List ℕ
without j l = keep (λ k. not (eqb k j)) l

without_lower : (j : ℕ) (l : List ℕ) → ((k : ℕ) → In k l → j < k) → without j l ≡ l
unfolding without
without_lower j [] h = refl
without_lower j (k ∷ l) h = rw (ne_eqb k j (λ e. omega (arith, h k first))) (ap (λ r. k ∷ r) (without_lower j l (λ i m. h i (later m))))

without_head : (j : ℕ) (l : List ℕ) → ((k : ℕ) → In k l → j < k) → without j (j ∷ l) ≡ l
unfolding without
without_head j l h = rw (eq-eqb j j refl) (without_lower j l h)

without_other : (j k : ℕ) (l : List ℕ) → k < j → without j (k ∷ l) ≡ k ∷ without j l
unfolding without
without_other j k l h = rw (ne_eqb k j (λ e. omega arith))

-- to take one more out of those that are left is to mark it
pub without_keep : (j : ℕ) (test : ℕ → Bool) (l : List ℕ) → without j (keep test l) ≡ keep (λ k. test k && not (eqb k j)) l
unfolding without
without_keep j test [] = refl
without_keep j test (k ∷ l) = go (test k) (not (eqb k j)) refl (without_keep j test l)
  where
    go : (s t : Bool) → not (eqb k j) ≡ t → keep (λ i. not (eqb i j)) (keep test l) ≡ keep (λ i. test i && not (eqb i j)) l
        → keep (λ i. not (eqb i j)) (cond s (k ∷ keep test l) (keep test l))
        ≡ cond (s && t) (k ∷ keep (λ i. test i && not (eqb i j)) l) (keep (λ i. test i && not (eqb i j)) l)
    go true true e h = rw e (ap (λ r. k ∷ r) h)
    go true false e h = rw e h
    go false t e h = h

module _ (entry : ℕ → Slot) where
  -- the entry with the index j, and those of the other indices
  abbrev pub choice_in : List ℕ → ℕ → Choice Slot
  choice_in l j = choice (entry j) (map entry (without j l))

  choices_map : {l : List ℕ} → Rising ◌<◌ l → choices (map entry l) ≡ map (choice_in l) l
  choices_map flat = refl
  choices_map (rises {x = c} {xs = l} up r) =
      let own = ap (λ rest. choice (entry c) (map entry rest)) (sym (without_head c l up)) in
      let each = map_same (λ j. choice (entry j) (entry c ∷ map entry (without j l))) (choice_in (c ∷ l)) l
      (λ j m. ap (λ rest. choice (entry j) (map entry rest)) (sym (without_other j c l (up j m)))) in
      let others = ap (map (λ d. choice d.entry (entry c ∷ d.left))) (choices_map r) ∙ map_map
      (λ d. choice d.entry (entry c ∷ d.left)) (choice_in l) l ∙ each in
      ap₂ (λ d ds. d ∷ ds) own others

  abbrev word : ℕ → ℕ
  word j = (entry j).word

  abbrev last : ℕ → ℕ
  last j = (entry j).two

  -- what the walk tries: of the candidates sorted by word, end and index, the first of each word
  pub tried_firsts : (l i : ℕ) (p : Option ℕ) {left js : List ℕ} → Rising ◌<◌ left → Rising (Sooner word last) js
      → ((j : ℕ) → In j js → In j left × T (is_candidate l i p (choice_in left j)))
      → ((j : ℕ) → In j left → T (is_candidate l i p (choice_in left j)) → In j js)
      → tried l i p (map entry left) ≡ map (choice_in left) (firsts word last js)
  unfolding tried
  tried_firsts l i p {left} {js} r s sound complete =
      let able : ℕ → Bool = λ j. is_candidate l i p (choice_in left j) in
      ap (λ cs. by_word word_of end_of (keep (is_candidate l i p) cs)) (choices_map r)
      ∙ ap (by_word word_of end_of) (keep_map (is_candidate l i p) (choice_in left) left)
      ∙ by_word_map word_of end_of (choice_in left) (keep able left)
      ∙ ap (map (choice_in left)) (by_word_firsts word last (rising_keep able r) s
      (λ j h. let k = in_keep able left h in complete j k.0 k.1) (λ j h. let k = sound j h in keep_in able k.0 k.1))

  -- the walk at one place: after each of them, the walk over the entries of the other indices
  pub walk_firsts : (l n i : ℕ) (p : Option ℕ) {left js : List ℕ} → Rising ◌<◌ left → Rising (Sooner word last) js
      → ((j : ℕ) → In j js → In j left × T (is_candidate l i p (choice_in left j)))
      → ((j : ℕ) → In j left → T (is_candidate l i p (choice_in left j)) → In j js)
      → walk l (suc n) i p (map entry left)
      ≡ flat_map (λ j. map (λ ws. word j ∷ ws) ([] ∷ walk l n (suc i) (some (word j)) (map entry (without j left)))) (firsts word last js)
  unfolding walk
  walk_firsts l n i p {left} {js} r s sound complete =
      ap (flat_map (λ c. map (λ ws. word_of c ∷ ws) ([] ∷ walk l n (suc i) (some (word_of c)) c.left)))
      (tried_firsts l i p r s sound complete)
      ∙ flat_map_map (λ c. map (λ ws. word_of c ∷ ws) ([] ∷ walk l n (suc i) (some (word_of c)) c.left)) (choice_in left)
      (firsts word last js)

  -- ---- marks

  module _ (m : ℕ) (unused : ℕ → Bool) where
    abbrev pub left_over : List ℕ
    left_over = keep unused (numbers 0 m)

    -- the same by a table of the place i, in which the indices of all entries that may stand there are sorted
    pub walk_table : (l n i : ℕ) (p : Option ℕ) {table : List ℕ} → Rising (Sooner word last) table → ((j : ℕ) → In j table → j < m)
        → ((j : ℕ) → j < m → Allowed (entry j) i → In j table)
        → walk l (suc n) i p (map entry left_over)
        ≡ flat_map (λ j. map (λ ws. word j ∷ ws)
        ([] ∷ walk l n (suc i) (some (word j)) (map entry (keep (λ k. unused k && not (eqb k j)) (numbers 0 m)))))
        (firsts word last (keep (λ j. unused j && is_candidate l i p (choice_in left_over j)) table))
    walk_table l n i p {table} s below there =
        let able : ℕ → Bool = λ j. is_candidate l i p (choice_in left_over j) in
        let both : ℕ → Bool = λ j. unused j && able j in
        walk_firsts l n i p (rising_keep unused (numbers_rising 0 m)) (rising_keep both s)
        (λ j h. let k = in_keep both table h in let b = and_both (unused j) (able j) k.1 in
        (keep_in unused (in_numbers 0 m j (omega arith) (omega (arith, below j k.0))) b.0, b.1))
        (λ j h t.
        let k = in_keep unused (numbers 0 m) h in
        keep_in both (there j (omega (arith, numbers_in 0 m j k.0)) (candidate_of l i p (choice_in left_over j) t).allowed)
        (both_and (unused j) (able j) k.1 t))
        ∙ flat_map_same _ _ (firsts word last (keep both table))
        (λ j. ap (λ rest. map (λ ws. word j ∷ ws) ([] ∷ walk l n (suc i) (some (word j)) (map entry rest)))
        (without_keep j unused (numbers 0 m)))
