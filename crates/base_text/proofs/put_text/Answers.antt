-- The goals of `put_text` that the check leaves open; Invariants.antt says how it is met. Assumes nothing.
use native.Mathlib.Omega.{arith}
use Rattle.base_text.proofs.PuttingLaws.{put_so_far_none, put_so_far_length, put_so_far_turn, put_so_far_all}
use Rattle.base_text.proofs.put_text.Goals as goal

pub loop-i-init : goal.loop-i-init
loop-i-init c = put_so_far_none _ _ _ c.requires

pub bounds-out-at : goal.bounds-out-at
bounds-out-at c =
    omega (arith, put_so_far_length _ _ _ c.loop-i.invariant, c.requires, c.loop-i-test.true)

pub loop-i-preserved : goal.loop-i-preserved
loop-i-preserved c = put_so_far_turn _ _ _ c.loop-i.invariant c.loop-i-test.true

pub shape_of-out : goal.shape_of-out
shape_of-out c = put_so_far_length _ _ _ c.loop-i.invariant

pub returns : goal.returns
returns c = put_so_far_all _ _ _ c.loop-i.invariant c.loop-i-test.false
