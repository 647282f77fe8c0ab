-- `due` meets its contract: the loop keeps that of the slots before k at most one is due (`Seen`). Assumes nothing.
use Rattle.span_walk.proofs.StepLaws.{Seen}
use Rattle.span_walk.proofs.due.Given as goal

abbrev pub invariant-loop-k : goal.invariant-loop-k
invariant-loop-k l = Seen l.tables.slots.now l.tables.twos.now l.marks l.i l.lo l.hi l.the l.k
