-- `pair_method::enter_all` meets its contract. The loop's invariant is `Entering` of proofs/EnterLaws.antt. Assumes nothing.
use Rattle.pair_method.proofs.EnterLaws.{Entering}
use Rattle.pair_method.proofs.enter_all.Given as goal

abbrev pub invariant-loop-e : goal.invariant-loop-e
invariant-loop-e l = Entering l.lists.words.now l.lists.ones.now l.lists.twos.now l.card l.e
