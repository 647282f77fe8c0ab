-- A narrow card with 8 spans over a place has no build: they would all stand within 7 places. Assumes nothing.
use mathlib.Core.Path.{◌≡◌, refl, ap, ◌∙◌}
use mathlib.Core.Bool.{Bool, true, false, cond}
use mathlib.Core.List.{List, [], ◌∷◌, map}
use mathlib.Core.Option.{Option}
use Prim.Native.Nat.{ℕ, suc, ◌+◌, ◌-◌, ◌≤◌, ◌<◌}
use native.Mathlib.Omega.{arith}
use lib.ListN.{length, length-map}
use lib.Dec.{leb, leb→le}
use borrow.Author.Tests.{leb-true}
use Rattle.card_entries.specs.declared.Slot.{Slot}
use Rattle.base_lists.specs.Members.{In, Taken, here, there, keep}
use Rattle.build_sequence.specs.Build.{Build}
use Rattle.build_sequence.specs.Verdict.{Tells, no_build}
use Rattle.base_lists.proofs.TestLaws.{true_is, and_both}
use Rattle.base_lists.proofs.ListLaws.{in_left, taken_is_in, length_taken}
use Rattle.span_theory.specs.Settling.{span_entries}
use Rattle.span_theory.proofs.Feasible.{Feasible, stop, step}
use Rattle.span_theory.proofs.Builds.{build_complete}
use Rattle.span_theory.proofs.Indices.{keep_map}
use Rattle.span_layers.specs.Narrow.{widest_narrow, is_narrow, Narrow, is_over, crowd, most_over}

-- of entries that are told by a list, as by that of their indices
pub crowd_map : {A : Type 0} (i : ℕ) (entry : A → Slot) (l : List A) → crowd i (map entry l) ≡ length (keep (λ x. is_over i (entry x)) l)
unfolding crowd
crowd_map i entry l = ap length (keep_map (is_over i) entry l) ∙ length-map (keep (λ x. is_over i (entry x)) l) entry

abbrev one_more : Bool → ℕ
one_more t = cond t 1 0

crowd_cons : (i : ℕ) (e : Slot) (es : List Slot) → crowd i (e ∷ es) ≡ one_more (is_over i e) + crowd i es
unfolding crowd
crowd_cons i e es = go (is_over i e)
  where
    go : (t : Bool) → length (cond t (e ∷ keep (is_over i) es) (keep (is_over i) es)) ≡ cond t 1 0 + length (keep (is_over i) es)
    go true = omega arith
    go false = omega arith

crowd_taken : (i : ℕ) {e : Slot} {all rest : List Slot} → Taken e all rest → crowd i all ≡ one_more (is_over i e) + crowd i rest
crowd_taken i (here {rest}) = crowd_cons i _ rest
crowd_taken i (there {x} {all} {rest} t) =
    let m = crowd_taken i t in
    omega (arith, crowd_cons i x all, crowd_cons i x rest)

over_says : (i : ℕ) (e : Slot) → is_over i e ≡ true → (e.one ≤ i) × (i ≤ e.two)
over_says i e h =
    let b = and_both (leb e.one i) (leb i e.two) (true_is _ h) in
    (leb→le _ _ b.0, leb→le _ _ b.1)

narrow_says : (e : Slot) → is_narrow e ≡ true → e.two < e.one + 4
narrow_says e h = omega (arith, leb-true (e.two - e.one + 1) widest_narrow h)

module _ {l : ℕ} (i : ℕ) where
  -- those that stand from the place j on stand before the place i + 4
  crowd_from : {j : ℕ} {p : Option ℕ} {left : List Slot} {ws : List ℕ} → ((e : Slot) → In e left → is_narrow e ≡ true) → Feasible l j p left ws
      → length ws ≡ length left
      → crowd i left ≤ i + 4 - j
  unfolding crowd
  crowd_from narrow (stop {left = []} h) n = omega arith
  crowd_from narrow (stop {left = e ∷ left} h) n = absurd (omega arith)
  crowd_from narrow (step {i = j} {rest} {e = own} t e a f more) n =
      go (is_over i own) refl (crowd_taken i t) (crowd_from (λ d m. narrow d (in_left t m)) more (omega (arith, length_taken t)))
    where
      go : (b : Bool) → is_over i own ≡ b → {c : ℕ} → c ≡ one_more b + crowd i rest → crowd i rest ≤ i + 4 - suc j → c ≤ i + 4 - j
      go true e q m = omega (arith, over_says i own e, a.begun, a.lasts, narrow_says own (narrow own (taken_is_in t)), q)
      go false e q m = omega (arith, q)

  -- and from the place i - 3 on
  crowd_within : {j : ℕ} {p : Option ℕ} {left : List Slot} {ws : List ℕ} → ((e : Slot) → In e left → is_narrow e ≡ true) → Feasible l j p left ws
      → length ws ≡ length left
      → crowd i left ≤ most_over
  unfolding crowd
  crowd_within narrow (stop {left = []} h) n = omega arith
  crowd_within narrow (stop {left = e ∷ left} h) n = absurd (omega arith)
  crowd_within narrow (step {i = j} {rest} {e = own} t e a f more) n =
      let narrow_rest : (d : Slot) → In d rest → is_narrow d ≡ true = λ d m. narrow d (in_left t m) in
      go (is_over i own) refl (crowd_taken i t) (crowd_within narrow_rest more (omega (arith, length_taken t)))
      (crowd_from narrow_rest more (omega (arith, length_taken t)))
    where
      go : (b : Bool) → is_over i own ≡ b → {c : ℕ} → c ≡ one_more b + crowd i rest → crowd i rest ≤ most_over → crowd i rest ≤ i + 4 - suc j
          → c ≤ most_over
      go true e q m m' = omega (arith, over_says i own e, a.begun, a.lasts, narrow_says own (narrow own (taken_is_in t)), q)
      go false e q m m' = omega (arith, q)

-- "A place with 8 or more spans over it means None."
pub crowded_none : (l i : ℕ) (es : List Slot) → Narrow es → most_over < crowd i es
    → Tells (Build l (span_entries es)) no_build
crowded_none l i es narrow h = λ s b.
    let u = build_complete b in
    let few = crowd_within i narrow.each u.1.feasible u.1.all in
    omega arith
