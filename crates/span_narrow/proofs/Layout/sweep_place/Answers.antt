-- The goals of `sweep_place` that the check leaves open; Invariants.antt says how it is met. Assumes nothing.
use mathlib.Core.Path.{refl}
use native.Mathlib.Omega.{arith}
use Rattle.span_narrow.proofs.SideLaws.{sides_back, sides_cleared}
use Rattle.span_narrow.proofs.SweepLaws.{half_next, half_done}
use Rattle.span_narrow.proofs.Layout.sweep_place.Goals as goal

pub loop-b-init : goal.loop-b-init
loop-b-init c =
    record {
      planned = c.requires.planned.0;
      inside = c.requires.planned.1;
      sides = sides_back c.requires.sides;
      half = half_next c.requires.planned.0 _ c.requires.half c.requires.planned.1 (rw c.list-list.ensures at c.sets_of-b.ensures);
    }

pub returns : goal.returns
returns c =
    let inv = c.loop-b.invariant in record {
      sides_left = sides_cleared inv.planned inv.inside inv.sides (rw c.list-list.ensures at c.mark_list.ensures) (omega arith) refl;
      swept = half_done inv.half (omega (arith, c.loop-b-test.false));
    }
