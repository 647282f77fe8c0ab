-- The goals of `close` that the check leaves open; Invariants.antt says how it is met. Assumes nothing.
use Rattle.text_probes.proofs.CloseLaws.{closed_filled, closed_kept, closed_all}
use Rattle.text_probes.proofs.keeping.close.Goals as goal
use Rattle.text_probes.proofs.keeping.close.Goals.{then-two, else-two}

pub loop-e-preserved : goal.loop-e-preserved
loop-e-preserved c = elim c.if-two.branch [
  | then-two w ↦ rw w.twos-is (closed_filled c.requires c.loop-e.invariant c.loop-e-test.true w.if-two.true)
  | else-two w ↦ rw w.twos-is (closed_kept c.requires c.loop-e.invariant c.loop-e-test.true w.if-two.false)
]

pub returns : goal.returns
returns c = closed_all c.requires c.loop-e.invariant c.loop-e-test.false
