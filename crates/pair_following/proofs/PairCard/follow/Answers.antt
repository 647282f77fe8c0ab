-- The goals of `pair_following::PairCard::follow` that the check leaves open; Invariants.antt says how it is met. Assumes nothing.
use mathlib.Core.Path.{refl}
use native.Mathlib.Omega.{arith}
use Rattle.std.proofs.lemmas.Result.{err_from_is_err_and}
use Rattle.pair_following.proofs.ExclusionLaws.{room}
use Rattle.pair_following.proofs.StepLaws.{grown_stops}
use Rattle.pair_following.proofs.PlaceLaws.{chase_start, chase_more, follow_end, follow_stop}
use Rattle.pair_following.proofs.PairCard.follow.Goals as goal

pub place-requires : goal.place-requires
place-requires c =
    let pre = c.requires in
    let free = room pre.ready.shape pre.unplaced.0 pre.unplaced.1 pre.unplaced.2 in
    (rw pre.ready.shape.puts pre.unplaced.0, omega (arith, pre.ready.shape.trails, free))

pub loop-top-init : goal.loop-top-init
loop-top-init c =
    let pre = c.requires in
    let put = c.place.ensures in
    rw (put.0, put.1, put.2) (chase_start pre.ready.shape pre.closed pre.unplaced.0 pre.unplaced.1 pre.unplaced.2 pre.unplaced.3)

pub loop-top-preserved : goal.loop-top-preserved
loop-top-preserved c =
    chase_more c.loop-top.invariant c.loop-top-test.true c.in_ok-exclude_all.ensures

pub returns-in_err-exclude_all : goal.returns-in_err-exclude_all
returns-in_err-exclude_all c =
    let pre = c.requires in
    let p = err_from_is_err_and c.from_residual.result c.from_residual.ensures.1 in
    let put = c.place.ensures in
    rw p.1
    (follow_stop pre.ready.shape pre.closed pre.unplaced.0 pre.unplaced.1 pre.unplaced.2 pre.unplaced.3 {A = Unit {0}} refl
    (grown_stops (rw (put.0, put.1, put.2) at c.loop-top.invariant).grown c.in_err-exclude_all.ensures refl))

pub returns : goal.returns
returns c =
    let pre = c.requires in
    let put = c.place.ensures in
    follow_end pre.ready.shape pre.closed pre.unplaced.0 pre.unplaced.1 pre.unplaced.2 pre.unplaced.3
    (rw (put.0, put.1, put.2) at c.loop-top.invariant)
    c.loop-top-test.false
