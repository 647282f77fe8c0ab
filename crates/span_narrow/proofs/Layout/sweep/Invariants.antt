-- `sweep` meets its contract: one place more is swept in each turn. Assumes nothing.
use Rattle.span_narrow.specs.Plan.{plan_in}
use Rattle.span_narrow.specs.States.{Sides}
use Rattle.span_narrow.specs.Sweeping.{Half}
use Rattle.span_narrow.proofs.Layout.sweep.Given as goal

abbrev pub invariant-loop-i : goal.invariant-loop-i
invariant-loop-i l = Sides (plan_in l.self) l.marks l.i l.i × Half (plan_in l.self) l.table l.i 0
