-- How far a walk has come: the placements, and the builds that are complete, 0, 1 or 2, or `out_of_budget`.
--   most_budget                         == the largest budget
--   tally_of budget went                == the same of what the code keeps, which is nothing where the budget is spent
--   PlacedOne i m before after         == one placement more, at the place i of m
--   PlacedMore size budget before after
--                                      == `size` placements more that complete no build
-- Assumes nothing.
use Rattle.std.specs.Prelude.{◌≡◌, ℕ, ◌+◌, ◌≤◌, ◌<◌, Option, Some, None}
use Rattle.span_theory.specs.Run.{out_of_budget}
use Rattle.span_memory.specs.declared.tally.Tally.{Tally}

-- "A budget is 0 to 4,294,967,295."
abbrev pub most_budget : ℕ
most_budget = 4294967295

abbrev pub tally_of : ℕ → Option Tally → Tally
tally_of budget None = record { placed = budget; builds = out_of_budget }
tally_of budget (Some t) = t

-- what `placed_at` promises: a placement is counted, and a build where the place i is the last of m
pub record PlacedOne (i m : ℕ) (before after : Tally) : Type 0 where
  pub count : after.placed ≡ before.placed + 1
  pub last : i + 1 ≡ m → after.builds ≡ before.builds + 1
  pub other : i + 1 < m → after.builds ≡ before.builds

-- what `skipped` promises: so many placements more, or the budget is spent
pub record PlacedMore (size budget : ℕ) (before after : Tally) : Type 0 where
  pub fits : before.placed + size ≤ budget → (after.placed ≡ before.placed + size) × (after.builds ≡ before.builds)
  pub over : budget < before.placed + size → (after.placed ≡ budget) × (after.builds ≡ out_of_budget)
