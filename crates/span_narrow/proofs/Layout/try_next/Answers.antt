-- `try_next` meets its contract, by its two ways out (`trials_skip`, `trials_take`). Assumes nothing.
use mathlib.Core.Path.{◌≡◌, refl, sym, ap, ◌∙◌}
use mathlib.Core.Bool.{not}
use Prim.Native.Nat.{◌+◌, ◌*◌, ◌<◌}
use native.Mathlib.Omega.{arith}
use lib.ListN.{length}
use Rattle.base_lists.proofs.TestLaws.{failed, passed}
use Rattle.span_narrow.specs.Plan.{plan_in}
use Rattle.span_narrow.specs.Keeping.{is_tried}
use Rattle.span_narrow.proofs.StateLaws.{digit_of}
use Rattle.span_narrow.proofs.TrialLaws.{trials_here, trials_below, trials_in, trials_skip, trials_take, trying_leading}
use Rattle.span_narrow.proofs.Layout.try_next.Goals as goal
use Rattle.span_narrow.proofs.Layout.try_next.Goals.{After-can_stand}

-- the entry is one of the card's, and the test says whether it is tried
entry_low : (c : After-can_stand) → c.entry_at-e.result < length c.args.self.now.tables.words.now
entry_low c = omega (arith, trials_below c.requires.trying c.requires.trials.0 c.requires.trials.1, c.entry_at-e.ensures)

test_is : (c : After-can_stand) → c.can_stand.result ≡ is_tried (plan_in c.args.self.now) c.args.marks.now c.args.at c.args.t.tried
test_is c = rw c.entry_at-e.ensures at c.can_stand.ensures

pub entry_at-e-requires : goal.entry_at-e-requires
entry_at-e-requires c =
    trials_here c.requires.trying c.requires.trials.0 c.requires.trials.1

pub can_stand-requires : goal.can_stand-requires
can_stand-requires c =
    let low : c.entry_at-e.result < length c.args.self.now.tables.words.now =
    omega (arith, trials_below c.requires.trying c.requires.trials.0 c.requires.trials.1, c.entry_at-e.ensures) in
    (low, omega (arith, c.requires.trying.planned.card.as_twos), omega (arith, c.requires.trying.sides.marks_all))

pub returns-then-not-can_stand : goal.returns-then-not-can_stand
returns-then-not-can_stand c =
    record {
      tried_next = trials_skip c.requires.trying c.requires.trials.0 c.requires.trials.1
          (failed (test_is (goal.at.returns-then-not-can_stand c).After-can_stand) (ap not c.if-not-can_stand.true));
      marks_unchanged = refl;
    }

pub leads-requires : goal.leads-requires
leads-requires c =
    rw c.entry_at-e.ensures
    (trying_leading c.requires.trying
    (trials_in c.requires.trying c.requires.trials.0 c.requires.trials.1
    (passed (test_is (goal.at.leads-requires c).After-can_stand) (ap not c.if-not-can_stand.false))))

pub offset_bounds-words-e : goal.offset_bounds-words-e
offset_bounds-words-e c =
    let low = entry_low (goal.at.offset_bounds-words-e c).After-can_stand in omega (arith, low, c.well_formed)

pub bounds-words-e : goal.bounds-words-e
bounds-words-e c = entry_low (goal.at.bounds-words-e c).After-can_stand

pub returns : goal.returns
returns c =
    rw c.entry_at-e.ensures (record {
      tried_next = trials_take c.requires.trying c.requires.trials.0 c.requires.trials.1
          (passed (test_is (goal.at.returns c).After-can_stand) (ap not c.if-not-can_stand.false))
          (sym (rw c.entry_at-e.ensures at c.leads.ensures.value))
          (ap (λ n. 2 * c.args.t.c + n) (c.from.ensures ∙ digit_of _));
      marks_unchanged = c.leads.ensures.marks_unchanged;
    })
