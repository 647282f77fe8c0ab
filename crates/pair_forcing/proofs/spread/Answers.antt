-- The goals of `pair_forcing::spread` that the check leaves open; Invariants.antt says how it is met. Assumes nothing.
use Prim.Native.Nat.{◌<◌}
use Rattle.pair_following.specs.Following.{count_in}
use Rattle.pair_following.proofs.ExclusionLaws.{other_asks, other_inside}
use Rattle.pair_forcing.proofs.spread.Goals as goal

pub other-q-requires : goal.other-q-requires
other-q-requires c =
    let inv = c.loop-seen.invariant in
    let low = inv.0.inside _ c.loop-seen-test.true in
    other_asks c.requires.ready.holds low (inv.1.closed.allowed _ low (inv.0.placed _ c.loop-seen-test.true))

pub fewer-few-requires : goal.fewer-few-requires
fewer-few-requires c =
    let inv = c.loop-seen.invariant in
    let e = inv.0.inside _ c.loop-seen-test.true in
    let low : c.other-q.result < count_in c.args.pairs.now.card.now =
    rw c.other-q.ensures (other_inside c.requires.ready.holds e (inv.1.closed.allowed _ e (inv.0.placed _ c.loop-seen-test.true))) in
    rw c.loop-seen.invariant.2 low

pub force_if-requires : goal.force_if-requires
force_if-requires c =
    let pre = c.requires in
    let inv = c.loop-seen.invariant in
    let e = inv.0.inside _ c.loop-seen-test.true in
    let low : c.other-q.result < count_in c.args.pairs.now.card.now =
    rw c.other-q.ensures (other_inside c.requires.ready.holds e (inv.1.closed.allowed _ e (inv.0.placed _ c.loop-seen-test.true))) in
    record { ready = record { holds = pre.ready.holds; links = pre.ready.links; shape = inv.0 }; sure = inv.1; t_bound = low }
