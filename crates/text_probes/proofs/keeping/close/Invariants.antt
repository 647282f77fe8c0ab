-- `close` meets its contract. The invariant is `Closed`. Assumes nothing.
use Rattle.text_probes.proofs.CloseLaws.{Closed}
use Rattle.text_probes.proofs.keeping.close.Given as goal

abbrev pub invariant-loop-e : goal.invariant-loop-e
invariant-loop-e l = Closed l.ones l.initial.twos l.e l.twos
