-- The goals of `pair_method::link` that the check leaves open; Invariants.antt says how it is met. Assumes nothing.
use Prim.Native.Nat.{◌*◌, ◌<◌}
use native.Mathlib.Omega.{arith}
use Rattle.pair_following.specs.Following.{count_in}
use Rattle.pair_method.proofs.LinkLaws.{linking_more, slot_in, prev_room, place_in_lem, last_room_after}
use Rattle.pair_method.proofs.link.Goals as goal

pub place_of-t-requires : goal.place_of-t-requires
place_of-t-requires c =
    let in_range : c.loop-x.x < 2 * count_in c.args.card.now = omega (arith, c.loop-x-test.true) in
    slot_in c.loop-x.invariant in_range

pub last_slot-before-requires : goal.last_slot-before-requires
last_slot-before-requires c =
    let in_range : c.loop-x.x < 2 * count_in c.args.card.now = omega (arith, c.loop-x-test.true) in
    place_in_lem c.loop-x.invariant in_range c.place_of-t.ensures (c.requires.0 _ in_range)

pub bounds-card-x : goal.bounds-card-x
bounds-card-x c =
    let in_range : c.loop-x.x < 2 * count_in c.args.card.now = omega (arith, c.loop-x-test.true) in
    prev_room c.loop-x.invariant in_range

pub bounds-card-t : goal.bounds-card-t
bounds-card-t c =
    let in_range : c.loop-x.x < 2 * count_in c.args.card.now = omega (arith, c.loop-x-test.true) in
    last_room_after c.loop-x.invariant in_range c.place_of-t.ensures (c.requires.0 _ in_range) _

pub loop-x-preserved : goal.loop-x-preserved
loop-x-preserved c =
    let in_range : c.loop-x.x < 2 * count_in c.args.card.now = omega (arith, c.loop-x-test.true) in
    linking_more c.loop-x.invariant in_range c.place_of-t.ensures (c.requires.0 _ in_range) c.last_slot-before.ensures
