-- `are_letters` meets its contract: whether the bytes so far are letters (`Seen`). Assumes nothing.
use Rattle.base_letters.specs.Letters.{is_letter}
use Rattle.text_fasta.proofs.LeadingLaws.{Seen}
use Rattle.text_fasta.proofs.are_letters.Given as goal

abbrev pub invariant-loop-b : goal.invariant-loop-b
invariant-loop-b l = Seen is_letter l.bytes l.all l.b-index
