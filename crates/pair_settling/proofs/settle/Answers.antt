-- `pair_settling::settle` meets its contract: place one, and where that fails, undone, place two (proofs/Settled.antt). Assumes nothing.
use mathlib.Core.Path.{sym, ◌∙◌}
use mathlib.Core.Logic.{inr}
use Prim.Native.Nat.{◌<◌}
use native.Mathlib.Omega.{arith}
use Rattle.pair_following.specs.Following.{count_in}
use Rattle.pair_following.proofs.ExclusionLaws.{two_inside}
use Rattle.pair_settling.proofs.Settled.{place_two, undone}
use Rattle.pair_settling.proofs.settle.Goals as goal

pub follow-requires-2 : goal.follow-requires-2
follow-requires-2 c =
    let pre = c.requires in
    let second : c.place_of-two.result < count_in c.args.pairs.now.card.now =
    omega (arith, c.place_of-two.ensures, two_inside pre.ready.holds pre.e_bound) in
    let undo = c.undo.ensures in
    let back = undone pre.ready.shape pre.closed pre.e_bound c.place_of-one.ensures c.place_of-two.ensures second
    (sym c.is_ok.ensures.value ∙ c.if-is_ok.false) c.follow.ensures undo.back in
    let unplaced = rw pre.ready.shape.puts at c.if-placed-e.false in
    record {
      ready = record { holds = pre.ready.holds; links = pre.ready.links; shape = rw (undo.trail.0, undo.trail.1) back.shape };
      closed = rw back.same pre.closed;
      unplaced = (pre.e_bound, rw back.same unplaced, second, inr c.place_of-two.ensures);
    }

pub returns : goal.returns
returns c =
    let pre = c.requires in
    let second : c.place_of-two.result < count_in c.args.pairs.now.card.now =
    omega (arith, c.place_of-two.ensures, two_inside pre.ready.holds pre.e_bound) in
    let undo = c.undo.ensures in
    place_two pre.ready.shape pre.closed pre.e_bound c.place_of-one.ensures c.place_of-two.ensures second
    (sym c.is_ok.ensures.value ∙ c.if-is_ok.false) c.follow.ensures undo.back
    (rw (undo.trail.0, undo.trail.1) at c.follow-2.ensures)
