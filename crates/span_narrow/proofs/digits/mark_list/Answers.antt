-- The goals of `mark_list` that the check leaves open; Invariants.antt says how it is met. Assumes nothing.
use native.Mathlib.Omega.{arith}
use Rattle.base_lists.proofs.FillingLaws.{get_d_in}
use Rattle.span_narrow.proofs.MarkLaws.{marking_turn, marking_all}
use Rattle.span_narrow.proofs.digits.mark_list.Goals as goal

pub bounds-marks-from : goal.bounds-marks-from
bounds-marks-from c =
    let known = c.requires.each _ (get_d_in _ c.loop-e.e-index c.loop-e-test.true) in
    omega (arith, c.loop-e.invariant.all, c.from.ensures)

pub loop-e-preserved : goal.loop-e-preserved
loop-e-preserved c =
    let known = c.requires.each _ (get_d_in _ c.loop-e.e-index c.loop-e-test.true) in
    rw c.from.ensures (marking_turn _ _ _ c.loop-e.invariant c.loop-e-test.true (omega (arith, c.loop-e.invariant.all)))

pub returns : goal.returns
returns c =
    marking_all _ _ _ c.loop-e.invariant c.loop-e-test.false
