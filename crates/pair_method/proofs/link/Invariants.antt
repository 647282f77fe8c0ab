-- `pair_method::link` meets its contract. The loop's invariant is `Linking` of proofs/LinkLaws.antt. Assumes nothing.
use Rattle.pair_method.proofs.LinkLaws.{Linking}
use Rattle.pair_method.proofs.link.Given as goal

abbrev pub invariant-loop-x : goal.invariant-loop-x
invariant-loop-x l = Linking l.initial.card l.card l.x
