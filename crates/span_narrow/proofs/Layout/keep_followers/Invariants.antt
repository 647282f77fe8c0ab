-- `keep_followers` meets its contract: one entry more is tried in each turn (`Visiting`). Assumes nothing.
use mathlib.Core.Path.{◌≡◌}
use Rattle.span_narrow.specs.Plan.{plan_in}
use Rattle.span_narrow.proofs.FollowLaws.{Visiting}
use Rattle.span_narrow.proofs.Layout.keep_followers.Given as goal

abbrev pub invariant-loop-k : goal.invariant-loop-k
invariant-loop-k l =
    (l.marks ≡ l.initial.marks) × Visiting (plan_in l.self) l.initial.marks l.initial.table record { i = l.i; k = l.k; due = l.due } l.tried
    l.table
