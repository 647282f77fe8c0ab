-- `read_word` meets its contract. The invariant is `Spelling`. Assumes nothing.
use Rattle.text_probes.proofs.WordCursor.{Spelling}
use Rattle.text_probes.proofs.line.read_word.Given as goal

abbrev pub invariant-loop-end : goal.invariant-loop-end
invariant-loop-end l = Spelling l.text l.at l.value l.end
