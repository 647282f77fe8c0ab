-- A run of the walk under a budget, as a fold over what the walk reaches: what is kept on the way, and what it comes to. It stops when two
-- builds are complete, or when a placement is to be made and the budget is spent.
--   Run                       == how far a run has come
--   reach m budget r ws       == the run r when the words ws are reached, on a card of m entries
--   run m budget r reached    == the run r over all of `reached`, in order
--   come_to l budget r         == what it comes to
--   verdict_on l bs            == the verdict by the builds bs in their order
--   outcome l es budget       == what the walk comes to
--   out_of_budget               == in place of the number of complete builds where the budget is spent
--   state_of r                 == the builds that are complete, 0, 1 or 2, or `out_of_budget`
-- Assumes nothing.
use Rattle.std.specs.Prelude.{cond, List, [], ◌∷◌, ℕ, suc, eqb, leb, length}
use Rattle.card_entries.specs.declared.Slot.{Slot}
use Rattle.build_sequence.specs.Build.{spell}
use Rattle.build_sequence.specs.Verdict.{Verdict, sole, several, no_build, Outcome, settled, unsettled}
use Rattle.span_theory.specs.Walk.{builds, placements}

-- no build yet, one build, or two, the first of which is kept, each with the placements made; or the budget is spent
pub data Run : Type 0 where
  searching : ℕ → Run
  one : List ℕ → ℕ → Run
  two : List ℕ → ℕ → Run
  spent : Run

abbrev pub out_of_budget : ℕ
out_of_budget = 3

abbrev pub state_of : Run → ℕ
state_of (searching n) = 0
state_of (one vs n) = 1
state_of (two vs n) = 2
state_of spent = out_of_budget

unfoldable pub reach : ℕ → ℕ → Run → List ℕ → Run
reach m budget (searching n) ws = cond (leb budget n) spent (cond (eqb (length ws) m) (one ws (suc n)) (searching (suc n)))
reach m budget (one vs n) ws = cond (leb budget n) spent (cond (eqb (length ws) m) (two vs (suc n)) (one vs (suc n)))
reach m budget (two vs n) ws = two vs n
reach m budget spent ws = spent

unfoldable pub run : ℕ → ℕ → Run → List (List ℕ) → Run
unfolding reach
run m budget r [] = r
run m budget r (ws ∷ reached) = run m budget (reach m budget r ws) reached

abbrev pub come_to : ℕ → ℕ → Run → Outcome
come_to l budget (searching n) = settled no_build n
come_to l budget (one ws n) = settled (sole (spell l ws)) n
come_to l budget (two ws n) = settled (several (spell l ws)) n
come_to l budget spent = unsettled budget

-- ---- the same at once, by the builds that the walk completes

abbrev pub verdict_on : ℕ → List (List ℕ) → Verdict
verdict_on l [] = no_build
verdict_on l (ws ∷ []) = sole (spell l ws)
verdict_on l (ws ∷ vs ∷ more) = several (spell l ws)

-- "It settles exactly if its placements up to the verdict are at most the budget"; "Unsettled gives placements equal to the budget."
unfoldable pub outcome : ℕ → List Slot → ℕ → Outcome
outcome l es budget = cond (leb (placements l es) budget) (settled (verdict_on l (builds l es)) (placements l es)) (unsettled budget)
