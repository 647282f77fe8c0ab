-- What the steps of the walk's code find: definitions for the contracts of its inner functions.
--   between lo hi                  == the slots from lo up to hi
--   can_try words marks i want w j  == entry j is able, and its word is not w, the last one tried
--   ahead ok word slots k hi       == what is tried from the slot k on, where the slot k is tried itself
-- Assumes nothing.
use Rattle.std.specs.Prelude.{Bool, true, cond, ◌&&◌, not, List, [], ◌∷◌, ◌≡◌, ℕ, ◌+◌, ◌≤◌, ◌<◌, length, get_or, eqb, ltb}
use Rattle.base_lists.specs.Members.{keep}
use Rattle.build_method.specs.declared.MethodAnswer.{MethodAnswer}
use Rattle.build_method.specs.declared.MethodAnswer.TheVariants.{Sole, Several, None, Unsettled}
use Rattle.base_lists.specs.Parts.{part}
use Rattle.span_steps.specs.Steps.{able, is_due, opened, tries}
use Rattle.span_walk.specs.declared.Slots.{Slots}

abbrev pub between : ℕ → ℕ → Slots
between lo hi = record { lo = lo; hi = hi }

unfoldable pub can_try : List ℕ → List ℕ → ℕ → ℕ → ℕ → ℕ → Bool
can_try words marks i want w j = able words marks i want j && not (eqb (get_or words j 0) w)

unfoldable pub ahead : (ℕ → Bool) → List ℕ → List ℕ → ℕ → ℕ → List ℕ
ahead ok words slots k hi =
    cond (ltb k hi) (get_or slots k 0 ∷ tries ok (λ j. get_or words j 0) (get_or words (get_or slots k 0) 0) (part slots (k + 1) hi)) []

-- the slots from lo up to hi are there, and have numbers below m
pub record SlotsBelow (slots : List ℕ) (lo hi m : ℕ) : Type 0 where
  pub in_order : lo ≤ hi
  pub ends : hi ≤ length slots
  pub below : (k : ℕ) → lo ≤ k → k < hi → get_or slots k 0 < m

-- what `due` promises: of all the slots of the place i, these may be tried
pub record Opened (slots twos marks : List ℕ) (i : ℕ) (all these : Slots) : Type 0 where
  pub from : all.lo ≤ these.lo
  pub in_order : these.lo ≤ these.hi
  pub to : these.hi ≤ all.hi
  pub open_part : part slots these.lo these.hi
      ≡ opened (keep (is_due twos marks i) (part slots all.lo all.hi)) (part slots all.lo all.hi)

-- what `next` promises: nothing of the slots is tried before r, where w was the last word tried, and what stands at r is tried
pub record Next (ok : ℕ → Bool) (words slots : List ℕ) (w : ℕ) (among : Slots) (r : ℕ) : Type 0 where
  pub on : among.lo ≤ r
  pub within : r ≤ among.hi
  pub able_there : r < among.hi → ok (get_or slots r 0) ≡ true
  pub rest : tries ok (λ j. get_or words j 0) w (part slots among.lo among.hi) ≡ ahead ok words slots r among.hi

-- what `outcome_of` answers, by the placements and the state
abbrev pub walked_at : ℕ → ℕ → ℕ → MethodAnswer
walked_at budget placed state =
    cond (eqb state 0) (None placed) (cond (eqb state 1) (Sole placed) (cond (eqb state 2) (Several placed) (Unsettled budget)))
