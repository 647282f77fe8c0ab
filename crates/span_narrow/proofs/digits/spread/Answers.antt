-- The goals of `spread` that the check leaves open; Invariants.antt says how it is met. Assumes nothing.
use mathlib.Core.Path.{◌≡◌, refl}
use Prim.Native.Nat.{◌-◌}
use native.Mathlib.Omega.{arith}
use lib.ListN.{length}
use Rattle.span_narrow.proofs.BackLaws.{from_more, next_back, none_back}
use Rattle.span_narrow.proofs.SpreadLaws.{marking_by_none, marking_by_turn, marking_by_all}
use Rattle.span_narrow.proofs.digits.spread.Goals as goal

pub loop-e-init : goal.loop-e-init
loop-e-init c =
    let all : length c.args.list.now - 0 ≡ length c.args.list.now = omega arith in rw all (marking_by_none _ _ _ c.requires.b_bound)

pub bounds-marks-from : goal.bounds-marks-from
bounds-marks-from c =
    let own = next_back c.args.list.now _ c.into_iter-e-iterator.result (cc) _ c.loop-e.yielded_by _ _ c.next.ensures.steps c.in-Some.is in
    let known = c.requires.below.each _ own.2 in
    omega (arith, c.loop-e.invariant.all, c.from.ensures, known)

pub loop-e-preserved : goal.loop-e-preserved
loop-e-preserved c =
    let own = next_back c.args.list.now _ c.into_iter-e-iterator.result (cc) _ c.loop-e.yielded_by _ _ c.next.ensures.steps c.in-Some.is in
    let known = c.requires.below.each _ own.2 in
    rw (from_more c.args.list.now c.loop-e.yielded c.in-Some.e, c.from.ensures, own.1)
    (marking_by_turn _ _ _ c.loop-e.invariant c.requires.apart own.0 (omega (arith, c.loop-e.invariant.all, own.1, known)) refl)

pub returns : goal.returns
returns c =
    marking_by_all _ _ _ c.loop-e.invariant
    (none_back c.args.list.now _ c.into_iter-e-iterator.result (cc) _ c.loop-e.yielded_by _ _ c.next.ensures.steps c.in-None.is)
