-- The goals of `pair_following::PairCard::clear` that the check leaves open; Invariants.antt says how it is met. Assumes nothing.
use mathlib.Core.Path.{refl}
use Prim.Native.Nat.{◌<◌}
use Rattle.std.proofs.lemmas.Result.{err_from_is_err_and}
use Rattle.pair_following.specs.Following.{nth, count_in}
use Rattle.pair_following.proofs.StepLaws.{grown_stops}
use Rattle.pair_following.proofs.Slots.{list_start, list_entry, list_stands, list_more}
use Rattle.pair_following.proofs.PlaceLaws.{clear_start, clear_more, clear_end}
use Rattle.pair_following.proofs.PairCard.clear.Goals as goal

pub loop-k-init : goal.loop-k-init
loop-k-init c =
    let pre = c.requires in
    rw c.last_slot-k.ensures (list_start pre.ready.links pre.placed.1, clear_start c.args.self.now.mask pre.ready.links pre.placed.1 pre.ready.shape)

pub exclude-requires : goal.exclude-requires
exclude-requires c =
    let pre = c.requires in
    let more = c.loop-k-test.true in
    let low = list_entry pre.ready.links c.loop-k.invariant.0 more in
    let there = list_stands pre.ready.links c.loop-k.invariant.0 more c.args.self.now.mask in
    let at = c.requires.placed in
    let placed : nth c.loop-k.placed.put.now c.args.e < count_in c.args.self.now.card.now =
    rw (c.loop-k.invariant.1.grown.traced.keeps c.args.e at.0 at.2) at.2 in
    record { pairs = pre.ready.holds; trail = c.loop-k.invariant.1.grown.shape; placed = (pre.placed.0, low, pre.placed.1, placed, there) }

pub loop-k-preserved : goal.loop-k-preserved
loop-k-preserved c =
    let pre = c.requires in
    let inv = c.loop-k.invariant in
    let more = c.loop-k-test.true in
    let at = c.requires.placed in
    let placed : nth c.loop-k.placed.put.now c.args.e < count_in c.args.self.now.card.now =
    rw (c.loop-k.invariant.1.grown.traced.keeps c.args.e at.0 at.2) at.2 in
    rw c.slot_before-k.ensures (
      list_more pre.ready.links inv.0 more,
      clear_more c.args.self.now.mask pre.ready.links inv.0 inv.1 more pre.placed.0 placed c.in_ok-exclude.ensures,
    )

pub returns-in_err-exclude : goal.returns-in_err-exclude
returns-in_err-exclude c =
    let p = err_from_is_err_and c.from_residual.result c.from_residual.ensures.1 in
    rw p.1 (grown_stops c.loop-k.invariant.1.grown c.in_err-exclude.ensures refl)

pub returns : goal.returns
returns c = clear_end c.loop-k-test.false c.loop-k.invariant.1
