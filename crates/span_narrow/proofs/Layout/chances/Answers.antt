-- The goals of `chances` that the check leaves open; Invariants.antt says how it is met. Assumes nothing.
use native.Mathlib.Omega.{arith}
use Rattle.span_narrow.proofs.TrialLaws.{trials_all}
use Rattle.span_narrow.proofs.Layout.chances.Goals as goal

pub returns-clause-chances : goal.returns-clause-chances
returns-clause-chances c =
    trials_all c.requires c.loop-k.invariant.1 (omega (arith, c.loop-k-test.false, c.start_of-k-end.ensures))
