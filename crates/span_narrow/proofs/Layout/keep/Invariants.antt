-- `keep` meets its contract: it begins with the first state alone, and one place more is seen in each turn. Assumes nothing.
use Prim.Native.Nat.{◌+◌, ◌*◌}
use Rattle.span_narrow.specs.Plan.{plan_in}
use Rattle.span_narrow.specs.States.{cells_over, Sides}
use Rattle.span_narrow.specs.Keeping.{KeptBelow}
use Rattle.span_narrow.proofs.Layout.keep.Given as goal

abbrev pub invariant-loop-i : goal.invariant-loop-i
invariant-loop-i l = Sides (plan_in l.self) l.marks l.i (l.i + 1) × KeptBelow (plan_in l.self) l.table (cells_over * l.i)
