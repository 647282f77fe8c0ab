-- `bits_of` meets its contract: the marks of the entries before the index are told. Assumes nothing.
use Rattle.span_memory.proofs.KeyLaws.{Telling}
use Rattle.span_memory.proofs.bits_of.Given as goal

abbrev pub invariant-loop-e : goal.invariant-loop-e
invariant-loop-e l = Telling l.marks l.list l.e-index l.bits
