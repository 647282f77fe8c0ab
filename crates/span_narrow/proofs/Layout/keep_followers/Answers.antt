-- The goals of `keep_followers` that the check leaves open; Invariants.antt says how it is met. Assumes nothing.
use mathlib.Core.Path.{◌∙◌}
use native.Mathlib.Omega.{arith}
use Rattle.span_narrow.proofs.FollowLaws.{visiting_turn, visiting_all, kept_same}
use Rattle.span_narrow.proofs.Layout.keep_followers.Goals as goal

pub loop-k-preserved : goal.loop-k-preserved
loop-k-preserved c =
    let inv = c.loop-k.invariant in (
      c.keep_next-tried.ensures.marks_unchanged ∙ inv.0,
      visiting_turn inv.1 (omega (arith, c.loop-k-test.true, c.start_of-k-end.ensures)) (kept_same inv.0 c.keep_next-tried.ensures.kept_if_tried),
    )

pub returns-clause-kept_after : goal.returns-clause-kept_after
returns-clause-kept_after c =
    visiting_all c.loop-k.invariant.1 (omega (arith, c.loop-k-test.false, c.start_of-k-end.ensures))
