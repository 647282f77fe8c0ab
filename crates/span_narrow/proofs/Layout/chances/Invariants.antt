-- `chances` meets its contract: the loop tries one entry more (`Trials`), and in the end has the chances (`trials_all`). Assumes nothing.
use mathlib.Core.Path.{◌≡◌}
use Rattle.span_narrow.specs.Plan.{plan_in}
use Rattle.span_narrow.specs.Stepping.{Trials}
use Rattle.span_narrow.proofs.Layout.chances.Given as goal

abbrev pub invariant-loop-k : goal.invariant-loop-k
invariant-loop-k l =
    (l.marks ≡ l.initial.marks) × Trials (plan_in l.self) l.initial.marks record { i = l.i; k = l.k; due = l.due } l.t
