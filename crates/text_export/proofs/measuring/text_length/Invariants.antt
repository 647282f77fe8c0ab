-- `text_length` meets its contract: the lines so far are counted (`Counted`). Assumes nothing.
use Rattle.text_export.proofs.LoopLaws.{Counted}
use Rattle.text_export.proofs.measuring.text_length.Given as goal

abbrev pub invariant-loop-e : goal.invariant-loop-e
invariant-loop-e l = Counted l.f l.card l.n l.e
