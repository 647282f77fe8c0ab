-- The sweep back over the places: in the cell of each state that is kept its chances take the place of the number that kept it.
--   Half plan table i b               == the table has the chances of the kept states after the place i, and of those at i whose digits are b
--                                        or more; of the others it says which are kept
--   Sweeping plan marks table i b     == the same, and the marks are those of a state at i
-- Assumes nothing.
use Rattle.std.specs.Prelude.{◌≡◌, true, List, ℕ, ◌+◌, ◌*◌, ◌≤◌, ◌<◌, length, get_or}
use Rattle.span_memory.specs.Memory.{bits_of}
use Rattle.span_narrow.specs.Plan.{Plan, list_on, Planned}
use Rattle.span_narrow.specs.States.{cells_over, Sides, is_kept, KeepsNext, HasChances, Exact}

pub record Half (plan : Plan) (table : List ℕ) (i b : ℕ) : Type 0 where
  pub keeps : List ℕ
  pub closed : KeepsNext plan keeps
  pub begun : get_or keeps 0 0 ≡ 0 → ⊥
  pub room : cells_over * length plan.words ≤ length table
  pub same : (k : ℕ) → k < cells_over * i + b → get_or table k 0 ≡ get_or keeps k 0
  pub exact : Exact plan keeps table (i + 1)
  pub here : (marks : List ℕ) → i < length plan.words → Sides plan marks i (i + 1) → is_kept plan marks keeps i ≡ true
      → b ≤ bits_of marks (list_on plan i)
      → HasChances plan marks table i

pub record Sweeping (plan : Plan) (marks table : List ℕ) (i b : ℕ) : Type 0 where
  pub planned : Planned plan
  pub inside : i < length plan.words
  pub sides : Sides plan marks i (i + 1)
  pub half : Half plan table i b
