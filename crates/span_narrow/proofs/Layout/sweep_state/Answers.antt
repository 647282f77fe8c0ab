-- `sweep_state` meets its contract: a state that is not kept is passed over (`half_skip`), and the chances of one that is kept take its cell
-- (`half_store`). Assumes nothing.
use mathlib.Core.Path.{refl}
use Prim.Native.Nat.{◌+◌}
use native.Mathlib.Omega.{arith}
use Rattle.span_narrow.specs.Plan.{plan_in}
use Rattle.span_narrow.specs.States.{Sides}
use Rattle.span_narrow.proofs.SideLaws.{list_apart, sides_spread}
use Rattle.span_narrow.proofs.SweepLaws.{sets_few, half_skip, half_trying, half_store}
use Rattle.span_narrow.proofs.Layout.sweep_state.Goals as goal
use Rattle.span_narrow.proofs.Layout.sweep_state.Goals.{After-spread}

-- the marks are those of a state again
spread_sides : (c : After-spread) → Sides (plan_in c.args.self.now) c.spread.new.marks c.args.i (c.args.i + 1)
spread_sides c =
    let pre = c.requires.sweeping in
    sides_spread pre.planned pre.inside pre.sides (rw c.list.ensures at c.spread.ensures)

pub returns-then-table-cell-eq0 : goal.returns-then-table-cell-eq0
returns-then-table-cell-eq0 c =
    record {
      planned = c.requires.sweeping.planned;
      inside = c.requires.sweeping.inside;
      sides = c.requires.sweeping.sides;
      half = half_skip c.requires.sweeping.planned _ c.requires.sweeping.half c.requires.sweeping.inside c.if-table-cell-eq0.true;
    }

pub overflow_add-cell : goal.overflow_add-cell
overflow_add-cell c =
    let pre = c.requires.sweeping in
    omega (arith, (sets_few pre.planned pre.inside refl).0, c.requires.b_bound, pre.inside, pre.half.room, c.well_formed)

pub bounds-table-cell : goal.bounds-table-cell
bounds-table-cell c =
    let pre = c.requires.sweeping in
    omega (arith, (sets_few pre.planned pre.inside refl).0, c.requires.b_bound, pre.inside, pre.half.room)

pub chances-requires : goal.chances-requires
chances-requires c =
    let pre = c.requires.sweeping in
    half_trying pre.planned _ pre.half pre.inside (spread_sides (goal.at.chances-requires c).After-spread)
    (rw c.list.ensures at c.spread.ensures).digits c.if-table-cell-eq0.false

pub returns : goal.returns
returns c =
    let sides = spread_sides (goal.at.returns c).After-spread in
    let pre = c.requires.sweeping in
    let few = (sets_few pre.planned pre.inside refl).0 in
    record {
      planned = pre.planned;
      inside = pre.inside;
      sides = rw c.chances.ensures.marks_unchanged sides;
      half = half_store pre.planned _ pre.half pre.inside sides (rw c.list.ensures at c.spread.ensures).digits _
          (omega (arith, few, c.requires.b_bound)) c.chances.ensures.chances;
    }

pub spread-requires-clause-apart : goal.spread-requires-clause-apart
spread-requires-clause-apart c =
    rw c.list.ensures (list_apart c.requires.sweeping.planned c.requires.sweeping.inside)
