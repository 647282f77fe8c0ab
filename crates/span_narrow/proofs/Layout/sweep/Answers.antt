-- The goals of `sweep` that the check leaves open; Invariants.antt says how it is met. Assumes nothing.
use Rattle.span_narrow.proofs.SideLaws.{sides_marked}
use Rattle.span_narrow.proofs.Layout.sweep.Goals as goal

pub loop-i-init : goal.loop-i-init
loop-i-init c =
    (sides_marked c.requires.planned.0 c.requires.planned.1 (c.fill.ensures.after (λ y h. h)), c.requires.half)
