-- `put_text` meets its contract: one byte more stands in each turn (`put_so_far_turn`). Assumes nothing.
use Rattle.base_text.proofs.PuttingLaws.{PutSoFar}
use Rattle.base_text.proofs.put_text.Given as goal

abbrev pub invariant-loop-i : goal.invariant-loop-i
invariant-loop-i l = PutSoFar l.text l.at l.initial.out l.i l.out
