-- `pair_forcing::force` meets its contract: a law of proofs/SureLaws.antt for each outcome. Assumes nothing.
use borrow.Author.Rules.{rules}
use mathlib.Core.Path.{refl, ap}
use Prim.Native.Nat.{◌<◌}
use lib.ListN.{length}
use Rattle.pair_following.specs.Following.{pairs_in}
use Rattle.pair_following.specs.Common.{many_in}
use Rattle.pair_following.proofs.ExclusionLaws.{inside_of}
use Rattle.pair_forcing.proofs.SureLaws.{one_entry, force_none, force_one}
use Rattle.pair_forcing.proofs.force.Goals as goal

pub returns-in-None : goal.returns-in-None
returns-in-None c =
    let pre = c.requires in
    force_none (inside_of pre.ready.holds) pre.sure pre.ready.shape pre.t_bound (c.found_at.ensures c.args.pairs.now.mask)
    (ap (λ r. many_in r) c.in-None.is)

pub bounds-placed-e : goal.bounds-placed-e
bounds-placed-e c =
    let one = one_entry (pairs_in c.args.pairs.now) (c.in-One.ensures c.args.pairs.now.mask) in
    rw c.requires.ready.shape.puts one.0

pub offset_bounds-placed-e : goal.offset_bounds-placed-e
offset_bounds-placed-e c =
    let one = one_entry (pairs_in c.args.pairs.now) (c.in-One.ensures c.args.pairs.now.mask) in
    let low : c.in-One.e < length c.args.placed.now.put.now = rw c.requires.ready.shape.puts one.0 in
    search rules

pub follow-requires : goal.follow-requires
follow-requires c =
    let pre = c.requires in
    let one = one_entry (pairs_in c.args.pairs.now) (c.in-One.ensures c.args.pairs.now.mask) in
    let unplaced = rw pre.ready.shape.puts at c.if-placed-e.true in
    record { ready = pre.ready; closed = pre.sure.closed; unplaced = (one.0, unplaced, pre.t_bound, one.1) }

pub returns-in-One : goal.returns-in-One
returns-in-One c =
    let pre = c.requires in
    force_one (inside_of pre.ready.holds) pre.sure pre.ready.shape pre.t_bound (c.in-One.ensures c.args.pairs.now.mask) refl
    _ _ c.follow.ensures
