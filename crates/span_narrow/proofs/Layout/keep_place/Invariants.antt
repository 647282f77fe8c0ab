-- `keep_place` meets its contract: one state more is seen in each turn (`Opening`), and then its entries are placed. Assumes nothing.
use Rattle.span_narrow.specs.Plan.{plan_in}
use Rattle.span_narrow.specs.Keeping.{Opening}
use Rattle.span_narrow.proofs.Layout.keep_place.Given as goal

abbrev pub invariant-loop-b : goal.invariant-loop-b
invariant-loop-b l = Opening (plan_in l.self) l.marks l.table l.i l.b
