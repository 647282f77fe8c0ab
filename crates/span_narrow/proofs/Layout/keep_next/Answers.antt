-- `keep_next` meets its contract, by its two ways out (`kept_skip`, `kept_take`). Assumes nothing.
use mathlib.Core.Path.{◌≡◌, refl, ap}
use mathlib.Core.Bool.{not}
use Prim.Native.Nat.{◌<◌}
use native.Mathlib.Omega.{arith}
use lib.ListN.{length}
use Rattle.base_lists.proofs.TestLaws.{failed, passed}
use Rattle.span_narrow.specs.Plan.{plan_in}
use Rattle.span_narrow.specs.Keeping.{is_tried}
use Rattle.span_narrow.proofs.FollowLaws.{there_entry, there_cell, tried_left, kept_skip, kept_take}
use Rattle.span_narrow.proofs.Layout.keep_next.Goals as goal
use Rattle.span_narrow.proofs.Layout.keep_next.Goals.{After-can_stand}

-- the entry is one of the card's, and the test says whether it is tried
entry_low : (c : After-can_stand) → c.entry_at-e.result < length c.args.self.now.tables.words.now
entry_low c =
    omega (arith, there_entry c.requires.keepable.here c.args.at.k c.requires.i_bound.0 c.requires.i_bound.1, c.entry_at-e.ensures)

test_is : (c : After-can_stand) → c.can_stand.result ≡ is_tried (plan_in c.args.self.now) c.args.marks.now c.args.at c.args.tried
test_is c = rw c.entry_at-e.ensures at c.can_stand.ensures

pub entry_at-e-requires : goal.entry_at-e-requires
entry_at-e-requires c =
    omega (arith, c.requires.i_bound.1, c.requires.keepable.here.ends)

pub can_stand-requires : goal.can_stand-requires
can_stand-requires c =
    let low : c.entry_at-e.result < length c.args.self.now.tables.words.now =
    omega (arith, there_entry c.requires.keepable.here c.args.at.k c.requires.i_bound.0 c.requires.i_bound.1, c.entry_at-e.ensures) in
    (low, omega (arith, c.requires.keepable.twos_all), omega (arith, c.requires.keepable.marks_all))

pub returns-then-not-can_stand : goal.returns-then-not-can_stand
returns-then-not-can_stand c =
    record {
      kept_if_tried = kept_skip (failed (test_is (goal.at.returns-then-not-can_stand c).After-can_stand) (ap not c.if-not-can_stand.true));
      marks_unchanged = refl;
    }

pub keep_after-requires : goal.keep_after-requires
keep_after-requires c =
    let before = (goal.at.keep_after-requires c).After-can_stand in
    let tried = passed (test_is before) (ap not c.if-not-can_stand.false) in
    record {
      list_there = rw c.requires.keepable.marks_all c.requires.keepable.next;
      e_in_bounds = (
        omega (arith, entry_low before, c.requires.keepable.marks_all),
        rw c.entry_at-e.ensures (tried_left (plan_in c.args.self.now) c.args.marks.now c.args.at c.args.tried tried),
        c.requires.keepable.room,
      );
    }

pub offset_bounds-words-e : goal.offset_bounds-words-e
offset_bounds-words-e c =
    let low = entry_low (goal.at.offset_bounds-words-e c).After-can_stand in omega (arith, low, c.well_formed)

pub bounds-words-e : goal.bounds-words-e
bounds-words-e c = entry_low (goal.at.bounds-words-e c).After-can_stand

pub returns : goal.returns
returns c =
    let tried = passed (test_is (goal.at.returns c).After-can_stand) (ap not c.if-not-can_stand.false) in
    record {
      kept_if_tried = kept_take c.entry_at-e.ensures tried refl (there_cell _ c.requires.keepable.next c.requires.keepable.room)
          c.keep_after.ensures.table_after;
      marks_unchanged = c.keep_after.ensures.marks_unchanged;
    }
