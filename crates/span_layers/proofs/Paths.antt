-- What the walk completes is what it builds. Assumes nothing.
use mathlib.Core.Path.{◌≡◌, refl, sym, ap, ap₂, ◌∙◌}
use mathlib.Core.Bool.{Bool, true, false, cond, not, ◌&&◌}
use mathlib.Core.List.{List, [], ◌∷◌, ◌++◌, map, flat_map}
use mathlib.Core.Option.{Option, none, some}
use Prim.Native.Nat.{ℕ, zero, suc, ◌<◌}
use native.Mathlib.Omega.{arith}
use lib.ListN.{length}
use lib.Dec.{eqb}
use borrow.Author.Tests.{eqb-true, eqb-false, eq-eqb, ne_eqb}
use Rattle.card_entries.specs.Fault.{span}
use Rattle.card_entries.specs.Hold.{Hold, format_for}
use Rattle.card_entries.proofs.HoldLaws.{hold_some}
use Rattle.card_entries.specs.declared.Slot.{Slot}
use Rattle.base_lists.specs.Members.{Choice, In, Rising, keep}
use Rattle.base_lists.specs.Numbers.{numbers}
use Rattle.build_sequence.specs.Build.{Build}
use Rattle.build_sequence.specs.Verdict.{Tells, settled}
use Rattle.span_theory.specs.Walk.{word_of, is_candidate, tried, walk, builds, placements}
use Rattle.span_theory.specs.Settling.{span_entries, MeansSpan, settles}
use Rattle.span_theory.specs.Run.{verdict_on}
use Rattle.span_theory.proofs.Feasible.{Allowed}
use Rattle.span_theory.proofs.Order.{Sooner, firsts}
use Rattle.span_theory.proofs.WalkLaws.{walk_end, walk_more, walked_is, builds_is}
use Rattle.span_theory.proofs.Indices.{choice_in, walk_table}
use Rattle.span_theory.proofs.Meant.{outcome_means, outcome_settles}
use Rattle.span_layers.specs.Completed.{paths}

-- past the last place it is complete
pub paths_end : (l i : ℕ) (p : Option ℕ) (left : List Slot) → paths l 0 i p left ≡ [] ∷ []
unfolding paths
paths_end l i p left = refl

module _ {A : Type 0} where
  keep_append : (test : A → Bool) (l m : List A) → keep test (l ++ m) ≡ keep test l ++ keep test m
  keep_append test [] m = refl
  keep_append test (x ∷ l) m = go (test x) (keep_append test l m)
    where
      go : (t : Bool) → keep test (l ++ m) ≡ keep test l ++ keep test m
          → cond t (x ∷ keep test (l ++ m)) (keep test (l ++ m)) ≡ cond t (x ∷ keep test l) (keep test l) ++ keep test m
      go true e = ap (λ r. x ∷ r) e
      go false e = e

  keep_flat_map : {B : Type 0} (test : A → Bool) (f g : B → List A) → ((b : B) → keep test (f b) ≡ g b) → (l : List B)
      → keep test (flat_map f l) ≡ flat_map g l
  unfolding flat_map
  keep_flat_map test f g h [] = refl
  keep_flat_map test f g h (b ∷ l) = keep_append test (f b) (flat_map f l) ∙ ap₂ (λ r s. r ++ s) (h b) (keep_flat_map test f g h l)

abbrev full : ℕ → List (List ℕ) → List (List ℕ)
full n = keep (λ ws. eqb (length ws) n)

eqb_suc : (a b : ℕ) → eqb (suc a) (suc b) ≡ eqb a b
eqb_suc a b = go (eqb a b) refl
  where
    go : (t : Bool) → eqb a b ≡ t → eqb (suc a) (suc b) ≡ t
    go true e = eq-eqb (suc a) (suc b) (ap suc (eqb-true a b e))
    go false e = ne_eqb (suc a) (suc b) (λ q. eqb-false a b e (omega arith))

full_cons : (w n : ℕ) (l : List (List ℕ)) → full (suc n) (map (λ ws. w ∷ ws) l) ≡ map (λ ws. w ∷ ws) (full n l)
full_cons w n [] = refl
full_cons w n (ws ∷ l) = rw (eqb_suc (length ws) n) (go (eqb (length ws) n) (full_cons w n l))
  where
    go : (t : Bool) → full (suc n) (map (λ vs. w ∷ vs) l) ≡ map (λ vs. w ∷ vs) (full n l)
        → cond t ((w ∷ ws) ∷ full (suc n) (map (λ vs. w ∷ vs) l)) (full (suc n) (map (λ vs. w ∷ vs) l))
        ≡ map (λ vs. w ∷ vs) (cond t (ws ∷ full n l) (full n l))
    go true e = ap (λ r. (w ∷ ws) ∷ r) e
    go false e = e

-- from a place, by what each choice leads to
full_more : (l n i : ℕ) (p : Option ℕ) (left : List Slot)
    → ((c : Choice Slot) → full (suc n) (map (λ ws. word_of c ∷ ws) ([] ∷ walk l n (suc i) (some (word_of c)) c.left))
    ≡ map (λ ws. word_of c ∷ ws) (paths l n (suc i) (some (word_of c)) c.left))
    → full (suc n) (walk l (suc n) i p left) ≡ paths l (suc n) i p left
unfolding paths
full_more l n i p left led =
    ap (full (suc n)) (walk_more l n i p left)
    ∙ keep_flat_map (λ ws. eqb (length ws) (suc n))
    (λ c. map (λ ws. word_of c ∷ ws) ([] ∷ walk l n (suc i) (some (word_of c)) c.left))
    (λ c. map (λ ws. word_of c ∷ ws) (paths l n (suc i) (some (word_of c)) c.left))
    led (tried l i p left)

-- what a choice leads to, in full
full_led : (l n i w : ℕ) (p : Option ℕ) (left : List Slot)
    → full (suc n) (map (λ ws. w ∷ ws) ([] ∷ walk l n i p left)) ≡ map (λ ws. w ∷ ws) (paths l n i p left)
unfolding paths
full_led l zero i w p left = rw (walk_end l i p left)
full_led l (suc n) i w p left =
    rw (ne_eqb 1 (suc (suc n)) (λ e. omega arith))
    (full_cons w (suc n) (walk l (suc n) i p left)
    ∙ ap (map (λ ws. w ∷ ws)) (full_more l n i p left (λ c. full_led l n (suc i) (word_of c) (some (word_of c)) c.left)))

full_walk : (l n i : ℕ) (p : Option ℕ) (left : List Slot) → full (suc n) (walk l (suc n) i p left) ≡ paths l (suc n) i p left
full_walk l n i p left = full_more l n i p left (λ c. full_led l n (suc i) (word_of c) (some (word_of c)) c.left)

-- the paths from a place by a table in which the indices of all entries that may stand there are sorted
pub paths_table : (entry : ℕ → Slot) (m : ℕ) (unused : ℕ → Bool) (l n i : ℕ) (p : Option ℕ) {table : List ℕ}
    → Rising (Sooner (λ j. (entry j).word) (λ j. (entry j).two)) table → ((j : ℕ) → In j table → j < m)
    → ((j : ℕ) → j < m → Allowed (entry j) i → In j table)
    → paths l (suc n) i p (map entry (keep unused (numbers 0 m)))
    ≡ flat_map (λ j. map (λ ws. (entry j).word ∷ ws)
    (paths l n (suc i) (some (entry j).word) (map entry (keep (λ k. unused k && not (eqb k j)) (numbers 0 m)))))
    (firsts (λ j. (entry j).word) (λ j. (entry j).two)
    (keep (λ j. unused j && is_candidate l i p (choice_in entry (keep unused (numbers 0 m)) j)) table))
paths_table entry m unused l n i p s below there =
    sym (full_walk l n i p (map entry (keep unused (numbers 0 m))))
    ∙ ap (full (suc n)) (walk_table entry m unused l n i p s below there)
    ∙ keep_flat_map (λ ws. eqb (length ws) (suc n)) _ _
    (λ j. full_led l n (suc i) (entry j).word (some (entry j).word) (map entry (keep (λ k. unused k && not (eqb k j)) (numbers 0 m)))) _

-- the builds of a card that has an entry
pub builds_paths : (l : ℕ) (es : List Slot) → 0 < length es → builds l es ≡ paths l (length es) 0 none es
builds_paths l es h = builds_is l es ∙ ap (full (length es)) (walked_is l es) ∙ go (length es) h
  where
    go : (n : ℕ) → 0 < n → full n (walk l n 0 none es) ≡ paths l n 0 none es
    go zero h = absurd (omega arith)
    go (suc n) h = full_walk l n 0 none es

-- whatever the budget, the verdict by all builds is true
builds_tell : {limit l : ℕ} {es : List Slot} → Hold limit (format_for span l es) es → Tells (Build l (span_entries es)) (verdict_on l (builds l es))
builds_tell {l} {es} entered =
    go (rw (outcome_settles l es (placements l es) (omega arith)) at (outcome_means entered (placements l es)))
  where
    go : {v : _} {n : ℕ} → MeansSpan l es (placements l es) (settled v n) → Tells (Build l (span_entries es)) v
    go (settles a b t) = t

pub paths_tell : {limit l : ℕ} {es : List Slot} → Hold limit (format_for span l es) es
    → Tells (Build l (span_entries es)) (verdict_on l (paths l (length es) 0 none es))
paths_tell {l} {es} entered = rw (builds_paths l es (hold_some entered)) at (builds_tell entered)
