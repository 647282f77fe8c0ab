-- The goals of `pair_choosing::weigh` that the check leaves open; Invariants.antt says how it is met. Assumes nothing.
use Rattle.pair_following.proofs.Slots.{list_start, list_none, list_entry, list_more, list_next}
use Rattle.pair_choosing.proofs.Choosing.{kept_none, weighed_start, weighing_more, weighed_end}
use Rattle.pair_choosing.proofs.weigh.Goals as goal

pub loop-k-init : goal.loop-k-init
loop-k-init c =
    let pre = c.requires in
    let none = list_none pre.ready.links pre.t_bound c.args.pairs.now.mask in
    rw c.last_slot-k.ensures (list_start pre.ready.links pre.t_bound, kept_none pre.ready.shape, weighed_start none)

pub loop-k-preserved : goal.loop-k-preserved
loop-k-preserved c =
    let pre = c.requires in
    let inv = c.loop-k.invariant in
    let more = c.loop-k-test.true in
    let next = list_next pre.ready.links inv.0 more c.args.pairs.now.mask in
    let both = weighing_more pre.t_bound (list_entry pre.ready.links inv.0 more) next inv.1 inv.2 c.with_tried-s.ensures in
    rw c.slot_before-k.ensures (list_more pre.ready.links inv.0 more, both.0, both.1)

pub returns : goal.returns
returns c = (c.loop-k.invariant.1, weighed_end c.loop-k-test.false c.loop-k.invariant.2)
