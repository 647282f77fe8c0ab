-- The goals of `due` that the check leaves open; Invariants.antt says how it is met. Assumes nothing.
use Rattle.std.proofs.Common.{sym, ◌∙◌, arith}
use Rattle.span_walk.proofs.StepLaws.{seen_not, seen_first, seen_second}
use Rattle.span_walk.proofs.due.Goals as goal
use Rattle.span_walk.proofs.due.Goals.{then-is_due+in-None, else-is_due}

pub returns-in-Some : goal.returns-in-Some
returns-in-Some c =
    let found = sym c.is_due.ensures ∙ c.if-is_due.true in
    let asked = c.requires.slots_below in
    seen_second _ _ _ _ _ _ asked.ends c.loop-k.invariant c.loop-k-test.true asked.in_order c.in-Some.is (rw c.entry_at.ensures at found)

pub loop-k-preserved : goal.loop-k-preserved
loop-k-preserved c =
    let there = c.requires.slots_below.ends in
    let so_far = c.loop-k.invariant in
    elim c.if-is_due.branch [
      | then-is_due+in-None w ↦
          let found = sym c.is_due.ensures ∙ w.if-is_due.true in
          rw w.the-is (seen_first _ _ _ _ _ _ there so_far c.loop-k-test.true (omega (arith, c.loop-k.auto)) w.in-None.is (rw c.entry_at.ensures at found))
      | else-is_due w ↦
          let missed = sym c.is_due.ensures ∙ w.if-is_due.false in
          rw w.the-is (seen_not _ _ _ _ _ _ there so_far c.loop-k-test.true (rw c.entry_at.ensures at missed))
    ]
