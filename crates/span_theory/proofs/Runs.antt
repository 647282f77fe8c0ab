-- A run under a budget, one placement after the other; it answers what the definition does, and over two lists it is two runs. Assumes nothing.
use mathlib.Core.Path.{◌≡◌, refl, sym, ◌∙◌, ap, ap₂}
use mathlib.Core.Bool.{Bool, true, false, cond, not, ◌&&◌}
use mathlib.Core.Option.{Option, some}
use mathlib.Core.List.{List, [], ◌∷◌, ◌++◌, map, flat_map, foldl, append_assoc}
use Prim.Native.Nat.{ℕ, suc, ◌+◌, ◌≤◌, ◌<◌}
use native.Mathlib.Omega.{arith}
use lib.ListN.{length}
use lib.Dec.{eqb, leb}
use borrow.Author.Tests.{leb-true, leb-false, le-leb, lt-leb, eqb-true}
use Rattle.base_lists.specs.Members.{In, first, later, Rising, keep}
use Rattle.base_lists.specs.Numbers.{numbers}
use Rattle.card_entries.specs.declared.Slot.{Slot}
use Rattle.span_theory.specs.Walk.{is_candidate, walk, walked, builds, up_to, placements}
use Rattle.build_sequence.specs.Worded.{Worded}
use Rattle.build_sequence.specs.Verdict.{Outcome, settled, unsettled}
use Rattle.span_theory.specs.Settling.{span_entries}
use Rattle.span_theory.proofs.Feasible.{Allowed}
use Rattle.span_theory.proofs.Builds.{walked_feasible, complete_worded}
use Rattle.span_theory.proofs.Order.{Sooner, firsts}
use Rattle.span_theory.proofs.Indices.{choice_in, walk_table}
use Rattle.span_theory.specs.Run.{Run, searching, one, two, spent, reach, run, come_to, verdict_on, outcome, state_of}

-- ---- a run, one placement after the other

module _ (m budget : ℕ) where
  pub reach_searching : (n : ℕ) (ws : List ℕ)
      → reach m budget (searching n) ws ≡ cond (leb budget n) spent (cond (eqb (length ws) m) (one ws (suc n)) (searching (suc n)))
  unfolding reach
  reach_searching n ws = refl

  pub reach_one : (vs : List ℕ) (n : ℕ) (ws : List ℕ)
      → reach m budget (one vs n) ws ≡ cond (leb budget n) spent (cond (eqb (length ws) m) (two vs (suc n)) (one vs (suc n)))
  unfolding reach
  reach_one vs n ws = refl

  pub run_none : (r : Run) → run m budget r [] ≡ r
  unfolding run
  run_none r = refl

  pub run_more : (r : Run) (ws : List ℕ) (reached : List (List ℕ))
      → run m budget r (ws ∷ reached) ≡ run m budget (reach m budget r ws) reached
  unfolding run
  run_more r ws reached = refl

  -- a run that is over stays as it is
  pub reach_two : (vs : List ℕ) (n : ℕ) (ws : List ℕ) → reach m budget (two vs n) ws ≡ two vs n
  unfolding reach
  reach_two vs n ws = refl

  pub reach_spent : (ws : List ℕ) → reach m budget spent ws ≡ spent
  unfolding reach
  reach_spent ws = refl

  pub run_two : (vs : List ℕ) (n : ℕ) (reached : List (List ℕ)) → run m budget (two vs n) reached ≡ two vs n
  unfolding run
  run_two vs n [] = refl
  run_two vs n (ws ∷ reached) = run_two vs n reached

  pub run_spent : (reached : List (List ℕ)) → run m budget spent reached ≡ spent
  unfolding run
  run_spent [] = refl
  run_spent (ws ∷ reached) = run_spent reached

-- ---- the builds that are complete never fall

module _ (m budget : ℕ) where
  reach_rises : (r : Run) (ws : List ℕ) → state_of r ≤ state_of (reach m budget r ws)
  unfolding reach
  reach_rises (searching n) ws = omega arith
  reach_rises (one vs n) ws = go (leb budget n) (eqb (length ws) m)
    where
      go : (s t : Bool) → 1 ≤ state_of (cond s spent (cond t (two vs (suc n)) (one vs (suc n))))
      go true t = omega arith
      go false true = omega arith
      go false false = omega arith
  reach_rises (two vs n) ws = omega arith
  reach_rises spent ws = omega arith

  pub run_rises : (reached : List (List ℕ)) (r : Run) → state_of r ≤ state_of (run m budget r reached)
  unfolding run
  run_rises [] r = omega arith
  run_rises (ws ∷ reached) r = omega (arith, reach_rises r ws, run_rises reached (reach m budget r ws))

-- ---- the run over two lists

pub run_append : (m budget : ℕ) (r : Run) (a b : List (List ℕ)) → run m budget r (a ++ b) ≡ run m budget (run m budget r a) b
unfolding run
run_append m budget r [] b = refl
run_append m budget r (ws ∷ a) b = run_append m budget (reach m budget r ws) a b

-- ---- the run of a recursive walk

map_append : {A B : Type 0} (f : A → B) (l m : List A) → map f (l ++ m) ≡ map f l ++ map f m
map_append f [] m = refl
map_append f (x ∷ l) m = ap (λ r. f x ∷ r) (map_append f l m)

prefixed : (path : List ℕ) (w : ℕ) (reached : List (List ℕ))
    → map (λ ws. path ++ ws) (map (λ ws. w ∷ ws) reached) ≡ map (λ ws. path ++ (w ∷ []) ++ ws) reached
prefixed path w [] = refl
prefixed path w (ws ∷ reached) = ap₂ (λ x xs. x ∷ xs) (sym (append_assoc path (w ∷ []) ws)) (prefixed path w reached)

module _ (m budget : ℕ) where
  -- after the words `path`, each of js is tried in turn: a placement, and then the walk that it opens
  pub run_tries : (path : List ℕ) (word : ℕ → ℕ) (opens : ℕ → List (List ℕ)) (js : List ℕ) (r : Run)
      → run m budget r (map (λ ws. path ++ ws) (flat_map (λ j. map (λ ws. word j ∷ ws) ([] ∷ opens j)) js))
      ≡ foldl (λ s j. run m budget (reach m budget s (path ++ (word j ∷ []))) (map (λ ws. path ++ (word j ∷ []) ++ ws) (opens j))) r js
  unfolding run flat_map
  run_tries path word opens [] r = refl
  run_tries path word opens (j ∷ js) r =
      let rest = flat_map (λ k. map (λ ws. word k ∷ ws) ([] ∷ opens k)) js in
      let s = reach m budget r (path ++ (word j ∷ [])) in
      ap (run m budget s) (map_append (λ ws. path ++ ws) (map (λ ws. word j ∷ ws) (opens j)) rest ∙ ap
      (λ x. x ++ map (λ ws. path ++ ws) rest) (prefixed path (word j) (opens j)))
      ∙ run_append m budget s (map (λ ws. path ++ (word j ∷ []) ++ ws) (opens j)) (map (λ ws. path ++ ws) rest)
      ∙ run_tries path word opens js (run m budget s (map (λ ws. path ++ (word j ∷ []) ++ ws) (opens j)))

-- the run at the place i, after the words `path`: what a call of the recursive code does, where `unused` are the entries that are left and
-- the table of the place i has, sorted by word, end and index, those that may stand there
pub run_place : (m budget : ℕ) (entry : ℕ → Slot) (unused : ℕ → Bool) (l n i : ℕ) (p : Option ℕ) (path : List ℕ) (r : Run) {table : List ℕ}
    → Rising (Sooner (λ j. (entry j).word) (λ j. (entry j).two)) table → ((j : ℕ) → In j table → j < m)
    → ((j : ℕ) → j < m → Allowed (entry j) i → In j table)
    → run m budget r (map (λ ws. path ++ ws) (walk l (suc n) i p (map entry (keep unused (numbers 0 m)))))
    ≡ foldl (λ s j. run m budget (reach m budget s (path ++ ((entry j).word ∷ [])))
    (map (λ ws. path ++ ((entry j).word ∷ []) ++ ws)
    (walk l n (suc i) (some (entry j).word) (map entry (keep (λ k. unused k && not (eqb k j)) (numbers 0 m))))))
    r
    (firsts (λ j. (entry j).word) (λ j. (entry j).two)
    (keep (λ j. unused j && is_candidate l i p (choice_in entry (keep unused (numbers 0 m)) j)) table))
run_place m budget entry unused l n i p path r s below there =
    ap (λ x. run m budget r (map (λ ws. path ++ ws) x)) (walk_table entry m unused l n i p s below there)
    ∙ run_tries m budget path (λ j. (entry j).word)
    (λ j. walk l n (suc i) (some (entry j).word) (map entry (keep (λ k. unused k && not (eqb k j)) (numbers 0 m)))) _ r

-- ---- the answer of a run

up_to_none : (m : ℕ) (reached : List (List ℕ)) → up_to m 0 reached ≡ 0
unfolding up_to
up_to_none m [] = refl
up_to_none m (ws ∷ reached) = refl

module _ (l m budget : ℕ) where
  abbrev kept : List (List ℕ) → List (List ℕ)
  kept reached = keep (λ ws. eqb (length ws) m) reached

  -- the definition's answer, for n placements and the builds bs
  settle : ℕ → List (List ℕ) → Outcome
  settle n bs = cond (leb n budget) (settled (verdict_on l bs) n) (unsettled budget)

  settle_within : (n k : ℕ) (bs : List (List ℕ)) → n ≡ k → k ≤ budget → settled (verdict_on l bs) k ≡ settle n bs
  unfolding settle
  settle_within n k bs e h = rw (e, le-leb k budget h)

  settle_over : (n : ℕ) (bs : List (List ℕ)) → budget < n → unsettled budget ≡ settle n bs
  unfolding settle
  settle_over n bs h = rw (lt-leb n budget h)

  run_one : (vs : List ℕ) (n : ℕ) (reached : List (List ℕ)) → n ≤ budget
      → come_to l budget (run m budget (one vs n) reached) ≡ settle (n + up_to m 1 reached) (vs ∷ kept reached)
  unfolding run up_to
  run_one vs n [] h = settle_within (n + 0) n (vs ∷ []) (omega arith) h
  run_one vs n (ws ∷ reached) h = go (leb budget n) refl (eqb (length ws) m) (run_one vs (suc n) reached)
    where
      go : (s : Bool) → leb budget n ≡ s → (t : Bool)
          → (suc n ≤ budget
          → come_to l budget (run m budget (one vs (suc n)) reached) ≡ settle (suc n + up_to m 1 reached) (vs ∷ kept reached))
          → come_to l budget (run m budget (cond s spent (cond t (two vs (suc n)) (one vs (suc n)))) reached)
          ≡ settle (n + suc (cond t (up_to m 0 reached) (up_to m 1 reached))) (vs ∷ cond t (ws ∷ kept reached) (kept reached))
      go true e t more = ap (come_to l budget) (run_spent m budget reached) ∙ settle_over _ _ (omega (arith, leb-true))
      go false e true more =
          ap (come_to l budget) (run_two m budget vs (suc n) reached) ∙ settle_within _ (suc n) (vs ∷ ws ∷ kept reached)
          (omega (arith, up_to_none m reached)) (omega (arith, leb-false))
      go false e false more = more (omega (arith, leb-false)) ∙ ap (λ x. settle x (vs ∷ kept reached)) (omega arith)

  run_searching : (n : ℕ) (reached : List (List ℕ)) → n ≤ budget
      → come_to l budget (run m budget (searching n) reached) ≡ settle (n + up_to m 2 reached) (kept reached)
  unfolding run up_to
  run_searching n [] h = settle_within (n + 0) n [] (omega arith) h
  run_searching n (ws ∷ reached) h = go (leb budget n) refl (eqb (length ws) m) (run_searching (suc n) reached)
    where
      go : (s : Bool) → leb budget n ≡ s → (t : Bool)
          → (suc n ≤ budget → come_to l budget (run m budget (searching (suc n)) reached) ≡ settle (suc n + up_to m 2 reached) (kept reached))
          → come_to l budget (run m budget (cond s spent (cond t (one ws (suc n)) (searching (suc n)))) reached)
          ≡ settle (n + suc (cond t (up_to m 1 reached) (up_to m 2 reached))) (cond t (ws ∷ kept reached) (kept reached))
      go true e t more = ap (come_to l budget) (run_spent m budget reached) ∙ settle_over _ _ (omega (arith, leb-true))
      go false e true more = run_one ws (suc n) reached (omega (arith, leb-false)) ∙ ap (λ x. settle x (ws ∷ kept reached)) (omega arith)
      go false e false more = more (omega (arith, leb-false)) ∙ ap (λ x. settle x (kept reached)) (omega arith)

-- a run from the start answers what the definition does
pub run_answers : (l : ℕ) (es : List Slot) (budget : ℕ)
    → come_to l budget (run (length es) budget (searching 0) (walked l es)) ≡ outcome l es budget
unfolding outcome placements builds settle
run_answers l es budget =
    run_searching l (length es) budget 0 (walked l es) (omega arith) ∙ ap (λ x. settle l (length es) budget x (builds l es)) (omega arith)

-- ---- the build that a run keeps

-- the first build, where there is one, is one of those that are reached
pub data Keeps (P : List ℕ → Type 0) : Run → Type 0 where
  keeps_none : {n : ℕ} → Keeps P (searching n)
  keeps_one : {ws : List ℕ} {n : ℕ} → P ws → Keeps P (one ws n)
  keeps_two : {ws : List ℕ} {n : ℕ} → P ws → Keeps P (two ws n)
  keeps_spent : Keeps P spent

reach_keeps : (P : List ℕ → Type 0) (m budget : ℕ) {r : Run} (ws : List ℕ) → (length ws ≡ m → P ws) → Keeps P r
    → Keeps P (reach m budget r ws)
unfolding reach
reach_keeps P m budget ws h (keeps_none {n}) = go (leb budget n) (eqb (length ws) m) refl
  where
    go : (s t : Bool) → eqb (length ws) m ≡ t → Keeps P (cond s spent (cond t (one ws (suc n)) (searching (suc n))))
    go true t e = keeps_spent
    go false true e = keeps_one (h (eqb-true (length ws) m e))
    go false false e = keeps_none
reach_keeps P m budget ws h (keeps_one {ws = vs} {n} p) = go (leb budget n) (eqb (length ws) m)
  where
    go : (s t : Bool) → Keeps P (cond s spent (cond t (two vs (suc n)) (one vs (suc n))))
    go true t = keeps_spent
    go false true = keeps_two p
    go false false = keeps_one p
reach_keeps P m budget ws h (keeps_two p) = keeps_two p
reach_keeps P m budget ws h keeps_spent = keeps_spent

run_keeps : (P : List ℕ → Type 0) (m budget : ℕ) (reached : List (List ℕ)) {r : Run}
    → ((ws : List ℕ) → In ws reached → length ws ≡ m → P ws)
    → Keeps P r
    → Keeps P (run m budget r reached)
unfolding run
run_keeps P m budget [] h k = k
run_keeps P m budget (ws ∷ reached) h k =
    run_keeps P m budget reached (λ vs i. h vs (later i)) (reach_keeps P m budget ws (h ws first) k)

-- a run from the start keeps the words of an arrangement
pub run_worded : (l : ℕ) (es : List Slot) (budget : ℕ)
    → Keeps (Worded l (span_entries es)) (run (length es) budget (searching 0) (walked l es))
run_worded l es budget =
    run_keeps (Worded l (span_entries es)) (length es) budget (walked l es)
    (λ ws i e. complete_worded (record { feasible = walked_feasible l es i; all = e })) keeps_none
