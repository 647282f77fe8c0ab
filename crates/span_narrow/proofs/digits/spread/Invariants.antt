-- `spread` meets its contract: the loop keeps that the entries that it has seen are marked (`MarkingBy`). Assumes nothing.
use Prim.Native.Nat.{◌-◌}
use lib.ListN.{length}
use Rattle.span_narrow.proofs.SpreadLaws.{MarkingBy}
use Rattle.span_narrow.proofs.digits.spread.Given as goal

abbrev pub invariant-loop-e : goal.invariant-loop-e
invariant-loop-e l = MarkingBy l.list l.initial.marks l.b (length l.list - length l.yielded) l.rest l.marks
