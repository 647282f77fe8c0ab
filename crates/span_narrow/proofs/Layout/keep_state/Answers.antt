-- `keep_state` meets its contract: a state that is not kept is passed over (`below_skip`), and those that follow on one that is kept are kept
-- (`below_follow`). Assumes nothing.
use mathlib.Core.Path.{refl}
use Prim.Native.Nat.{◌+◌, ◌<◌}
use native.Mathlib.Omega.{arith}
use lib.ListN.{length}
use Rattle.span_narrow.specs.Plan.{plan_in}
use Rattle.span_narrow.specs.States.{Sides}
use Rattle.span_narrow.proofs.SideLaws.{list_apart, sides_spread}
use Rattle.span_narrow.proofs.SweepLaws.{sets_few}
use Rattle.span_narrow.proofs.ReachLaws.{below_follow}
use Rattle.span_narrow.proofs.Layout.keep_state.Goals as goal
use Rattle.span_narrow.proofs.Layout.keep_state.Goals.{After-spread}

-- the place is one of the card's, and the marks are those of a state again
in_card : (c : After-spread) → c.args.i < length c.args.self.now.tables.words.now
in_card c = omega (arith, c.requires.opening.inside)

spread_sides : (c : After-spread) → Sides (plan_in c.args.self.now) c.spread.new.marks c.args.i (c.args.i + 1)
spread_sides c =
    sides_spread c.requires.opening.planned (in_card c) c.requires.opening.sides (rw c.list.ensures at c.spread.ensures)

pub overflow_add-i : goal.overflow_add-i
overflow_add-i c =
    let pre = c.requires.opening in
    let inside : c.args.i < length c.args.self.now.tables.words.now = omega (arith, pre.inside) in
    omega (arith, (sets_few pre.planned inside refl).0, c.requires.b_bound, pre.inside, pre.upto.room, c.well_formed)

pub bounds-table-i : goal.bounds-table-i
bounds-table-i c =
    let pre = c.requires.opening in
    let inside : c.args.i < length c.args.self.now.tables.words.now = omega (arith, pre.inside) in
    omega (arith, (sets_few pre.planned inside refl).0, c.requires.b_bound, pre.inside, pre.upto.room)

pub returns : goal.returns
returns c =
    let before = (goal.at.returns c).After-spread in
    let pre = c.requires.opening in
    let few = (sets_few pre.planned (in_card before) refl).0 in
    record {
      planned = pre.planned;
      inside = pre.inside;
      sides = rw c.keep_followers.ensures.marks_unchanged (spread_sides before);
      upto = below_follow pre.planned _ _ pre.upto pre.inside (omega (arith, few, c.requires.b_bound)) (spread_sides before)
          (rw c.list.ensures at c.spread.ensures).digits c.keep_followers.ensures.kept_after;
    }

pub spread-requires-clause-apart : goal.spread-requires-clause-apart
spread-requires-clause-apart c =
    let inside : c.args.i < length c.args.self.now.tables.words.now = omega (arith, c.requires.opening.inside) in
    rw c.list.ensures (list_apart c.requires.opening.planned inside)
