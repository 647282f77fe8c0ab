-- `sweep_place` meets its contract: from the last set of its entries to the first one state more is swept in each turn (`Sweeping`), and then
-- its entries are left. Assumes nothing.
use Rattle.span_narrow.specs.Plan.{plan_in}
use Rattle.span_narrow.specs.Sweeping.{Sweeping}
use Rattle.span_narrow.proofs.Layout.sweep_place.Given as goal

abbrev pub invariant-loop-b : goal.invariant-loop-b
invariant-loop-b l = Sweeping (plan_in l.self) l.marks l.table l.i l.b
