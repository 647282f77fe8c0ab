-- `put_lines` meets its contract: the lines so far stand at the start of the output (`Lines`). Assumes nothing.
use Rattle.text_export.proofs.LoopLaws.{Lines}
use Rattle.text_export.proofs.putting.put_lines.Given as goal

abbrev pub invariant-loop-e : goal.invariant-loop-e
invariant-loop-e l = Lines l.f l.card l.initial.out l.out l.at l.e
