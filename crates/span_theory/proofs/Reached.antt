-- The walk reaches a list of words exactly if it is feasible, and it reaches them in alphabetical order.
use mathlib.Core.Path.{◌≡◌, refl, sym, ◌∙◌, ap}
use mathlib.Core.Logic.{inl, inr, ⊎_elim}
use mathlib.Core.List.{List, [], ◌∷◌, map}
use mathlib.Core.Option.{Option, some}
use Prim.Native.Nat.{ℕ, zero, suc, ◌≤◌}
use native.Mathlib.Omega.{arith}
use lib.ListN.{length}
use Rattle.base_lists.specs.Members.{Choice, In, first, later, Rising, flat, rises}
use Rattle.build_sequence.specs.Verdict.{Before}
use Rattle.card_entries.specs.declared.Slot.{Slot}
use Rattle.span_theory.specs.Walk.{word_of, tried, walk}
use Rattle.base_lists.proofs.ListLaws.{in_cons, in_cast, in_map, map_in, in_flat_map, flat_map_in, rising_map, rising_flat_map}
use Rattle.span_theory.proofs.Feasible.{Feasible, stop, step, feasible_cut, feasible_exchange}
use Rattle.span_theory.proofs.Tried.{tried_in, tried_serves, tried_rising}

-- the walk after the choice c, with n entries left
abbrev after : ℕ → ℕ → ℕ → Choice Slot → List (List ℕ)
after l n i c = [] ∷ walk l n (suc i) (some (word_of c)) c.left

pub reached_feasible : (l n i : ℕ) (p : Option ℕ) (left : List Slot) {ws : List ℕ} → In ws (walk l n i p left) → Feasible l i p left ws
unfolding walk
reached_feasible l (suc n) i p left h =
    let u = in_flat_map (λ c. map (λ vs. word_of c ∷ vs) (after l n i c)) (tried l i p left) h in
    let v = in_map (λ vs. word_of u.0 ∷ vs) (after l n i u.0) u.2 in
    let t = tried_in l i p left u.1 in
    rw v.2 (step t.0 refl t.1.allowed t.1.follow
    (⊎_elim (λ e. rw e (stop t.1.others)) (λ g. reached_feasible l n (suc i) (some (word_of u.0)) u.0.left g) (in_cons v.1)))
reached_feasible l zero i p left {ws = ws} h = elim h [ ]

pub feasible_reached : (l n i : ℕ) {p : Option ℕ} {left : List Slot} {ws : List ℕ} → length ws ≤ n → Feasible l i p left ws
    → In ws ([] ∷ walk l n i p left)
unfolding walk
feasible_reached l zero i h (stop past) = first
feasible_reached l zero i h (step t e a f next) = absurd (omega arith)
feasible_reached l (suc n) i h (stop past) = first
feasible_reached l (suc n) i {p} {left} h (step {rest} {e = own} {w} {ws} t e a f next) =
    let s = tried_serves l i p left t (record { allowed = a; follow = rw e f; others = feasible_cut next }) in
    let d = s.0 in
    let same : word_of d ≡ w = s.2.same ∙ e in
    let g : Feasible l (suc i) (some (word_of d)) d.left ws = rw same
    (feasible_exchange (tried_in l i p left s.1).0 t s.2.same s.2.ends (omega (arith, a.begun)) next) in
    let r = map_in (λ vs. word_of d ∷ vs) (feasible_reached l n (suc i) (omega arith) g) in
    later (in_cast (ap (λ v. v ∷ ws) (sym same)) (flat_map_in (λ c. map (λ vs. word_of c ∷ vs) (after l n i c)) s.1 r))

-- ---- in alphabetical order

-- each item of the walk has a first word, the one that was tried
reached_word : (l n i : ℕ) (c : Choice Slot) {ws : List ℕ} → In ws (map (λ vs. word_of c ∷ vs) (after l n i c))
    → (vs : List ℕ) × (ws ≡ word_of c ∷ vs)
reached_word l n i c h = let s = in_map (λ vs. word_of c ∷ vs) (after l n i c) h in (s.0, s.2)

pub reached_some : (l n i : ℕ) (p : Option ℕ) (left : List Slot) (ws : List ℕ) → In ws (walk l n i p left) → Before [] ws
unfolding walk
reached_some l (suc n) i p left ws h =
    let u = in_flat_map (λ c. map (λ vs. word_of c ∷ vs) (after l n i c)) (tried l i p left) h in
    rw (reached_word l n i u.0 u.2).1 tt
reached_some l zero i p left ws h = elim h [ ]

pub walk_rising : (l n i : ℕ) (p : Option ℕ) (left : List Slot) → Rising Before (walk l n i p left)
unfolding walk
walk_rising l zero i p left = flat
walk_rising l (suc n) i p left =
    rising_flat_map (λ c. map (λ vs. word_of c ∷ vs) (after l n i c))
    (λ c. rising_map (λ vs. word_of c ∷ vs) (λ x y b. inr (refl, b))
    (rises (reached_some l n (suc i) (some (word_of c)) c.left) (walk_rising l n (suc i) (some (word_of c)) c.left)))
    (λ c d x y w g h. rw ((reached_word l n i c g).1, (reached_word l n i d h).1) (inl w))
    (tried_rising l i p left)
