-- `leads` meets its contract: the state after the entry that is tried is known (`leading_known`), and its mark is taken away again.
-- Assumes nothing.
use Prim.Native.Nat.{◌<◌}
use native.Mathlib.Omega.{arith}
use lib.ListN.{length, length-set}
use Rattle.span_narrow.proofs.PlaceLaws.{tried_here, tried_free}
use Rattle.span_narrow.proofs.StateLaws.{completes_after, marked_unmarked, leading_known}
use Rattle.span_narrow.proofs.Layout.leads.Goals as goal

pub bounds-marks-e : goal.bounds-marks-e
bounds-marks-e c =
    let low : c.args.e < length c.args.self.now.tables.words.now =
    (tried_here c.requires.planned c.requires.sides c.requires.inside _ c.requires.tried).0 in
    let has-mark : c.args.e < length c.args.marks.now =
    omega (arith, low, c.requires.sides.marks_all) in
    has-mark

pub offset_bounds-self-e : goal.offset_bounds-self-e
offset_bounds-self-e c =
    let low : c.args.e < length c.args.self.now.tables.words.now =
    (tried_here c.requires.planned c.requires.sides c.requires.inside _ c.requires.tried).0 in
    omega (arith, low, c.well_formed)

pub bounds-self-e : goal.bounds-self-e
bounds-self-e c =
    let low : c.args.e < length c.args.self.now.tables.words.now =
    (tried_here c.requires.planned c.requires.sides c.requires.inside _ c.requires.tried).0 in
    low

pub completes-r-requires : goal.completes-r-requires
completes-r-requires c =
    leading_known c.requires

pub bounds-marks-e-2 : goal.bounds-marks-e-2
bounds-marks-e-2 c =
    let low : c.args.e < length c.args.self.now.tables.words.now =
    (tried_here c.requires.planned c.requires.sides c.requires.inside _ c.requires.tried).0 in
    let has-mark : c.args.e < length c.args.marks.now =
    omega (arith, low, c.requires.sides.marks_all) in
    omega (arith, has-mark, length-set c.args.marks.now c.args.e 1)

pub returns : goal.returns
returns c =
    record {
      value = completes_after _ _ _ _ c.tail_of.ensures c.completes-r.ensures;
      marks_unchanged = marked_unmarked _ _ (tried_free c.requires.planned c.requires.sides c.requires.inside _ c.requires.tried);
    }
