-- The goals of `keep_place` that the check leaves open; Invariants.antt says how it is met. Assumes nothing.
use mathlib.Core.Path.{refl}
use Prim.Native.Nat.{◌<◌}
use native.Mathlib.Omega.{arith}
use lib.ListN.{length}
use Rattle.span_narrow.proofs.SideLaws.{sides_filled}
use Rattle.span_narrow.proofs.ReachLaws.{below_place}
use Rattle.span_narrow.proofs.Layout.keep_place.Goals as goal

pub returns : goal.returns
returns c =
    let inside : c.args.i < length c.args.self.now.tables.words.now = omega (arith, c.requires.inside) in
    let inv = c.loop-b.invariant in record {
      sides = sides_filled inv.planned inside inv.sides (rw c.list-list.ensures at c.mark_list.ensures) (omega arith) refl;
      kept_below = below_place inv.planned _ inv.upto inside (rw c.list-list.ensures at (rw c.sets_of-b-end.ensures at c.loop-b-test.false));
    }
