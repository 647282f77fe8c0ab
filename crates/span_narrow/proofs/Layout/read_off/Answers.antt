-- The goals of `read_off` that the check leaves open; Invariants.antt says how it is met. Assumes nothing.
use mathlib.Core.Path.{refl}
use Prim.Native.Nat.{◌<◌}
use native.Mathlib.Omega.{arith}
use lib.ListN.{length}
use Rattle.span_narrow.proofs.PlaceLaws.{tried_here}
use Rattle.span_narrow.proofs.ReadLaws.{reading_none, reading_taking, reading_turn, reading_all}
use Rattle.span_narrow.proofs.Layout.read_off.Goals as goal

pub loop-i-init : goal.loop-i-init
loop-i-init c =
    (c.requires, reading_none c.requires)

pub take_first-t-requires : goal.take_first-t-requires
take_first-t-requires c =
    reading_taking c.loop-i.invariant.0 c.loop-i.invariant.1 c.loop-i-test.true

pub offset_bounds-words-t : goal.offset_bounds-words-t
offset_bounds-words-t c =
    let low : c.take_first-t.result.e < length c.args.self.now.tables.words.now =
    let inv = c.loop-i.invariant in
    (tried_here inv.0.planned inv.1.sides c.loop-i-test.true _ c.take_first-t.ensures.tried).0 in
    omega (arith, low, c.well_formed)

pub bounds-words-t : goal.bounds-words-t
bounds-words-t c =
    let low : c.take_first-t.result.e < length c.args.self.now.tables.words.now =
    let inv = c.loop-i.invariant in
    (tried_here inv.0.planned inv.1.sides c.loop-i-test.true _ c.take_first-t.ensures.tried).0 in
    low

pub loop-i-preserved : goal.loop-i-preserved
loop-i-preserved c =
    let inv = c.loop-i.invariant in
    (inv.0, reading_turn inv.0 inv.1 c.loop-i-test.true c.take_first-t.ensures c.tail_of-want.ensures refl)

pub returns : goal.returns
returns c =
    let inv = c.loop-i.invariant in reading_all inv.0 inv.1 c.loop-i-test.false
