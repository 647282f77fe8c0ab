-- The goals of `pair_settling::settle_all` that the check leaves open; Invariants.antt says how it is met. Assumes nothing.
use mathlib.Core.Path.{refl}
use Rattle.pair_settling.proofs.Settled.{settling_more, settled_all}
use Rattle.pair_settling.proofs.settle_all.Goals as goal

pub loop-e-preserved : goal.loop-e-preserved
loop-e-preserved c =
    settling_more c.loop-e.invariant c.in_ok-settle.ensures refl

pub returns : goal.returns
returns c =
    record {
      gives = settled_all c.loop-e.invariant (rw c.requires.ready.shape.puts at c.loop-e-test.false);
      shape = c.loop-e.invariant.shape;
    }
