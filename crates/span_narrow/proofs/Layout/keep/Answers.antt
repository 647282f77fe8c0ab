-- The goals of `keep` that the check leaves open; Invariants.antt says how it is met. Assumes nothing.
use native.Mathlib.Omega.{arith}
use Rattle.span_narrow.proofs.ReachLaws.{below_half}
use Rattle.span_narrow.proofs.Layout.keep.Goals as goal

pub returns : goal.returns
returns c =
    below_half c.requires.planned _ c.loop-i.invariant.1 (omega (arith, c.loop-i-test.false))
