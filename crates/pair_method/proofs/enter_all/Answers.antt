-- The goals of `pair_method::enter_all` that the check leaves open; Invariants.antt says how it is met. Assumes nothing.
use Rattle.pair_method.proofs.EnterLaws.{entering_more}
use Rattle.pair_method.proofs.enter_all.Goals as goal

pub loop-e-preserved : goal.loop-e-preserved
loop-e-preserved c = entering_more c.loop-e.invariant c.loop-e-test.true c.slot.ensures c.enter.ensures
