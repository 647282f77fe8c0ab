-- The goals of `next` that the check leaves open; Invariants.antt says how it is met. Assumes nothing.
use Rattle.std.proofs.Common.{sym, ◌∙◌, arith}
use Rattle.span_walk.proofs.StepLaws.{skipped_more, skipped_found, skipped_all}
use Rattle.span_walk.proofs.next.Goals as goal

pub returns-then-can_try-clause-next : goal.returns-then-can_try-clause-next
returns-then-can_try-clause-next c =
    let found = sym c.can_try.ensures ∙ c.if-can_try.true in
    skipped_found _ _ _ _ _ _ c.loop-k.invariant c.requires.slots_below.ends (omega (arith, c.loop-k.auto)) c.loop-k-test.true
    (rw c.entry_at.ensures at found)

pub loop-k-preserved : goal.loop-k-preserved
loop-k-preserved c =
    let missed = sym c.can_try.ensures ∙ c.if-can_try.false in
    skipped_more _ _ _ _ _ _ c.loop-k.invariant c.requires.slots_below.ends c.loop-k-test.true (rw c.entry_at.ensures at missed)

pub returns-clause-next : goal.returns-clause-next
returns-clause-next c =
    skipped_all _ _ _ _ _ _ c.loop-k.invariant c.requires.slots_below.ends c.requires.slots_below.in_order c.loop-k-test.false
