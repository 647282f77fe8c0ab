-- What the walk comes to means what it says, and nothing else does. Assumes nothing.
use mathlib.Core.Path.{◌≡◌, refl, sym, ◌∙◌, ap}
use mathlib.Core.Logic.{⊎_elim, ⊎_map}
use mathlib.Core.Bool.{Bool, true, false, cond}
use mathlib.Core.List.{List, [], ◌∷◌}
use Prim.Native.Nat.{ℕ, ◌^◌, ◌≤◌, ◌<◌}
use native.Mathlib.Omega.{arith}
use lib.Dec.{leb}
use borrow.Author.Tests.{leb-true, leb-false, le-leb}
use Rattle.card_entries.specs.Fault.{span}
use Rattle.card_entries.specs.Hold.{Hold, format_for}
use Rattle.card_entries.proofs.HoldLaws.{hold_some, hold_fits}
use Rattle.card_entries.specs.declared.Slot.{Slot}
use Rattle.base_lists.specs.Members.{In, first, later, Rising, rises}
use Rattle.build_sequence.specs.Build.{spell, Build}
use Rattle.build_sequence.specs.Verdict.{Before, Tells, Outcome, settled, unsettled}
use Rattle.base_lists.proofs.ListLaws.{not_in_nil, in_cons}
use Rattle.build_sequence.proofs.OrderLaws.{before_irr}
use Rattle.build_sequence.proofs.VerdictLaws.{tells_one}
use Rattle.span_theory.specs.Walk.{builds, placements}
use Rattle.span_theory.specs.Settling.{span_entries, MeansSpan, settles, goes_on}
use Rattle.span_theory.specs.Run.{verdict_on, outcome}
use Rattle.span_theory.proofs.Builds.{Complete, build_complete, complete_build, builds_sound, builds_complete, builds_rising}
use Rattle.span_theory.proofs.Chains.{complete_before}

module _ {limit l : ℕ} {es : List Slot} (entered : Hold limit (format_for span l es) es) where
  abbrev fit : (e : Slot) → In e es → e.word < 4 ^ l
  fit = hold_fits entered

  verdict_tells : (bs : List (List ℕ)) → Rising Before bs → ((ws : List ℕ) → In ws bs → Complete l es ws)
      → ((ws : List ℕ) → Complete l es ws → In ws bs)
      → Tells (Build l (span_entries es)) (verdict_on l bs)
  verdict_tells [] r sound complete = λ t b. let u = build_complete b in not_in_nil (complete u.0 u.1)
  verdict_tells (ws ∷ []) r sound complete =
      (complete_build (sound ws first), λ t b. let u = build_complete b in u.2 ∙ ap (spell l) (only u.0 u.1))
    where
      only : (us : List ℕ) → Complete l es us → us ≡ ws
      only us c = ⊎_elim (λ e. e) (λ g. absurd (not_in_nil g)) (in_cons (complete us c))
  verdict_tells (ws ∷ vs ∷ more) (rises up r) sound complete = (
    complete_build (sound ws first),
    (spell l vs, complete_build (sound vs (later first)), λ e. before_irr (spell l ws) (rw e at (ahead vs (later first) (up vs first)))),
    λ t b. let u = build_complete b in
        ⊎_map (λ e. u.2 ∙ ap (spell l) e) (λ g. rw u.2 (ahead u.0 (later g) (up u.0 g))) (in_cons (complete u.0 u.1)),
  )
    where
      ahead : (us : List ℕ) → In us (ws ∷ vs ∷ more) → Before ws us → Before (spell l ws) (spell l us)
      ahead us h b = complete_before fit (sound ws first) (sound us h) b

  -- what the walk comes to is true
  pub outcome_means : (budget : ℕ) → MeansSpan l es budget (outcome l es budget)
  unfolding outcome
  outcome_means budget = go (leb (placements l es) budget) refl
    where
      go : (t : Bool) → leb (placements l es) budget ≡ t
          → MeansSpan l es budget (cond t (settled (verdict_on l (builds l es)) (placements l es)) (unsettled budget))
      go true e =
          settles refl (leb-true _ _ e)
          (verdict_tells (builds l es) (builds_rising l es) (λ ws h. builds_sound l es h)
          (λ ws c. builds_complete l es (hold_some entered) c))
      go false e = goes_on refl (leb-false _ _ e)

-- two outcomes that both mean what they say are one
pub means_one : {l budget : ℕ} {es : List Slot} {o o' : Outcome} → MeansSpan l es budget o → MeansSpan l es budget o' → o ≡ o'
means_one {l} {es} (settles {v} a b t) (settles {v = v'} c d u) =
    let e = a ∙ sym c in
    let f = tells_one (Build l (span_entries es)) v v' t u in
    cc
means_one (settles a b t) (goes_on c d) = absurd (omega arith)
means_one (goes_on c d) (settles a b t) = absurd (omega arith)
means_one (goes_on a b) (goes_on c d) = ap unsettled (a ∙ sym c)

-- at every budget not below the placements the walk comes to its verdict
pub outcome_settles : (l : ℕ) (es : List Slot) (budget : ℕ) → placements l es ≤ budget
    → outcome l es budget ≡ settled (verdict_on l (builds l es)) (placements l es)
unfolding outcome
outcome_settles l es budget h = rw (le-leb (placements l es) budget h)
