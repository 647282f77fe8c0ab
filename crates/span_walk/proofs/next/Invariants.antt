-- `next` meets its contract: the loop keeps that nothing is tried from `from` up to k (`Skipped`). Assumes nothing.
use Rattle.span_walk.proofs.StepLaws.{Skipped}
use Rattle.span_walk.proofs.next.Given as goal

abbrev pub invariant-loop-k : goal.invariant-loop-k
invariant-loop-k l = Skipped l.tables.slots.now l.tables.words.now l.marks l.i l.want l.tried l.from l.hi l.k
