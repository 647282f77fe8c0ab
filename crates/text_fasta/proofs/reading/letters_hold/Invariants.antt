-- `letters_hold` meets its contract: the letters so far are counted (`Counting`). Assumes nothing.
use Rattle.text_fasta.proofs.LoopLaws.{Counting}
use Rattle.text_fasta.proofs.reading.letters_hold.Given as goal

abbrev pub invariant-loop-b : goal.invariant-loop-b
invariant-loop-b l = Counting l.body l.k l.b-index
