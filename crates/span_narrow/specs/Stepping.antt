-- What the steps of the method ask and promise.
--   Cell list marks i r                     == r is the cell of the state at i, whose list is `list`
--   Known plan marks table i                == a state at i, of which the table has the chances
--   Completes plan marks s r                == r says whether a build is completed from the state at the spot s
--   Leading plan marks table i e            == entry e is tried from the state at i, and of the state after it the table has the chances
--   Trying plan marks table i               == of each state that follows on the state at i the table has the chances
--   Trials plan marks at t                  == the entries of the list before the slot were tried: c has their digits
-- Assumes nothing.
use Rattle.std.specs.Prelude.{◌≡◌, Bool, List, ℕ, ◌+◌, ◌-◌, ◌*◌, ◌^◌, ◌≤◌, ◌<◌, length, get_or, set}
use Rattle.std.proofs.Math.Option.{Option}
use Rattle.base_lists.specs.Members.{In}
use Rattle.span_layers.specs.Completed.{paths, is_some}
use Rattle.base_lists.specs.Parts.{part}
use Rattle.span_steps.specs.Steps.{no_word, tries, Wants}
use Rattle.span_narrow.specs.declared.chances.Spot.{Spot}
use Rattle.span_narrow.specs.declared.chances.Trial.{Trial}
use Rattle.span_narrow.specs.declared.chances.Turn.{Turn}
use Rattle.span_narrow.specs.Digits.{picked, trial_digits}
use Rattle.span_narrow.specs.Plan.{Plan, list_on, left_on, Planned}
use Rattle.span_narrow.specs.States.{cells_over, Sides, cell_of, dues_in, can_stand, tried_at, paths_after, agreeing, HasChances}

pub record Cell (list marks : List ℕ) (i r : ℕ) : Type 0 where
  pub is : r ≡ cell_of list marks i
  pub low : r < cells_over * (i + 1)

pub record Known (plan : Plan) (marks table : List ℕ) (i : ℕ) : Type 0 where
  pub planned : Planned plan
  pub inside : i ≤ length plan.words
  pub room : cells_over * length plan.words ≤ length table
  pub sides : Sides plan marks i (i + 1)
  pub told : i < length plan.words → HasChances plan marks table i

-- of the place's list those whom the state's cell picks and whose word agrees
abbrev pub chosen_at : Plan → List ℕ → List ℕ → Spot → List ℕ
chosen_at plan marks table s =
    agreeing plan.words s.i s.want (picked (get_or table (cell_of (list_on plan s.i) marks s.i) 0) (list_on plan s.i))

pub record Completes (plan : Plan) (marks : List ℕ) (s : Spot) (r : Bool) : Type 0 where
  pub each : (p : Option ℕ) → Wants plan.l s.i s.want p
      → r ≡ is_some (paths plan.l (length plan.words - s.i) s.i p (left_on plan marks))

pub record Leading (plan : Plan) (marks table : List ℕ) (i e : ℕ) : Type 0 where
  pub planned : Planned plan
  pub inside : i < length plan.words
  pub room : cells_over * length plan.words ≤ length table
  pub sides : Sides plan marks i (i + 1)
  pub tried : In e (tried_at plan marks i)
  pub told : i + 1 < length plan.words → HasChances plan (set marks e 1) table (i + 1)

pub record Trying (plan : Plan) (marks table : List ℕ) (i : ℕ) : Type 0 where
  pub planned : Planned plan
  pub inside : i < length plan.words
  pub room : cells_over * length plan.words ≤ length table
  pub sides : Sides plan marks i (i + 1)
  pub told : (j : ℕ) → In j (tried_at plan marks i) → i + 1 < length plan.words → HasChances plan (set marks j 1) table (i + 1)

-- those of the place's list from the slot k on
abbrev pub list_from : Plan → ℕ → ℕ → List ℕ
list_from plan i k = part plan.slots k (get_or plan.starts (i + 1) 0)

-- the next slot
abbrev pub next_turn : Turn → Turn
next_turn at = record { i = at.i; k = at.k + 1; due = at.due }

pub record Trials (plan : Plan) (marks : List ℕ) (at : Turn) (t : Trial) : Type 0 where
  pub from : get_or plan.starts at.i 0 ≤ at.k
  pub to : at.k ≤ get_or plan.starts (at.i + 1) 0
  pub due_is : at.due ≡ dues_in plan.twos marks at.i (list_on plan at.i)
  pub few : t.c < 2 ^ (at.k - get_or plan.starts at.i 0)
  pub among : (j : ℕ)
      → In j (tries (can_stand plan.twos marks at.i at.due) (λ x. get_or plan.words x 0) t.tried (list_from plan at.i at.k))
      → In j (tried_at plan marks at.i)
  pub rest : trial_digits (can_stand plan.twos marks at.i at.due) (λ j. is_some (paths_after plan marks at.i j)) (λ j. get_or plan.words j 0)
      t.c t.tried (list_from plan at.i at.k)
      ≡ trial_digits (can_stand plan.twos marks at.i at.due) (λ j. is_some (paths_after plan marks at.i j)) (λ j. get_or plan.words j 0)
      0 no_word (list_on plan at.i)
