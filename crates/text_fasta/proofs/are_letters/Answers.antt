-- The goals of `are_letters` that the check leaves open; Invariants.antt says how it is met. Assumes nothing.
use Rattle.text_fasta.proofs.LeadingLaws.{seen_turn, seen_all}
use Rattle.text_fasta.proofs.are_letters.Goals as goal

pub loop-b-preserved : goal.loop-b-preserved
loop-b-preserved c = seen_turn c.loop-b.invariant c.loop-b-test.true c.is_letter-all.ensures

pub returns : goal.returns
returns c = seen_all c.loop-b.invariant c.loop-b-test.false
