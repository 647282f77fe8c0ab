-- `read_off` meets its contract: one word more is read in each turn (`SoFarRead`). Assumes nothing.
use Rattle.span_narrow.specs.Plan.{plan_in}
use Rattle.span_narrow.specs.ReadOff.{Readable}
use Rattle.span_narrow.proofs.ReadLaws.{SoFarRead}
use Rattle.span_narrow.proofs.Layout.read_off.Given as goal

abbrev pub invariant-loop-i : goal.invariant-loop-i
invariant-loop-i l =
    (asked : Readable (plan_in l.self) l.initial.marks l.table l.initial.first) × SoFarRead asked l.marks l.first l.i
    l.want l.more
