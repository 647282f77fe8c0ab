-- `pair_following::PairCard::exclude` meets its contract: the goals that the check leaves open. Assumes nothing.
use Rattle.pair_following.proofs.ExclusionLaws.{grown_put, trail_room, other_inside}
use Rattle.pair_following.proofs.PairCard.exclude.Goals as goal

pub place-requires : goal.place-requires
place-requires c =
    let pre = c.requires in
    (rw pre.trail.puts pre.placed.1, trail_room pre.trail pre.placed.1 (rw pre.trail.puts at c.if-was-placed.false) pre.placed.2)

pub returns : goal.returns
returns c =
    let pre = c.requires in
    let put = c.place.ensures in
    rw (put.0, put.1, put.2)
    (grown_put pre.trail pre.placed.0 pre.placed.1 pre.placed.4 c.if-e-f.false pre.placed.3
    (c.goes.ensures.no c.if-goes.false) c.other-r.ensures
    (rw c.other-r.ensures (other_inside pre.pairs pre.placed.1 pre.placed.4)) c.if-r-q.false
    (rw pre.trail.puts at c.if-was-placed.false))
