-- `mark_list` meets its contract: one entry more is marked in each turn (`Marking`). Assumes nothing.
use Rattle.span_narrow.proofs.MarkLaws.{Marking}
use Rattle.span_narrow.proofs.digits.mark_list.Given as goal

abbrev pub invariant-loop-e : goal.invariant-loop-e
invariant-loop-e l = Marking l.list l.initial.marks l.v l.e-index l.marks
