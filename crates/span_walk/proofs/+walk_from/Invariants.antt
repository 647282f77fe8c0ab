-- `walk_from` meets its contract, by the number of entries that are not placed, which falls with each placement. The loop keeps `Looping`:
-- the marks are as at the call, and for every reader of the definition the run has come so far; that the slot
-- is one of the place's, if there is one; and that what the memory says is true (`Recalls`). Assumes nothing.
use Rattle.std.proofs.Common.{◌-◌, ◌<◌, length, IfSome, unwrap_or}
use Rattle.span_steps.specs.Steps.{tables_of}
use Rattle.span_walk.specs.Going.{noted, calling}
use Rattle.span_walk.specs.Recalling.{Recalls}
use Rattle.span_walk.proofs.Held.{Looping}
use Rattle.span_walk.proofs.+walk_from.Given as goal

abbrev pub decreases-walk_from : goal.decreases-walk_from
decreases-walk_from l = length l.tables.now.words.now - l.at.i

abbrev pub invariant-loop-slot : goal.invariant-loop-slot
invariant-loop-slot l =
    let tables = tables_of l.tables in
    Looping (calling tables l.fn.at (noted l.initial.marks l.initial.first)) (noted l.marks l.first) l.tally (unwrap_or l.slot l.hi) l.hi
    × IfSome l.slot (λ k. k < l.hi) × Recalls tables l.fn.at.mask l.known

abbrev pub decreases-loop-slot : goal.decreases-loop-slot
decreases-loop-slot l = l.hi - unwrap_or l.slot l.hi
