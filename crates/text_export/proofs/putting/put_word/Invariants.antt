-- `put_word` meets its contract: one letter more stands in each turn, before the others (`letters_turn`). Assumes nothing.
use Rattle.text_export.proofs.PutLaws.{LettersFrom}
use Rattle.text_export.proofs.putting.put_word.Given as goal

abbrev pub invariant-loop-i : goal.invariant-loop-i
invariant-loop-i l = LettersFrom l.l l.word l.at l.initial.out l.i l.v l.out
