-- `fault_in` meets its contract. Assumes nothing.
use Rattle.base_answers.proofs.Laws.{told_holds, told_refused}
use Rattle.text_fasta.proofs.AnswerLaws.{letters_fault, lines_fault}
use Rattle.text_fasta.proofs.reading.fault_in.Goals as goal

pub returns-in-Err : goal.returns-in-Err
returns-in-Err c = letters_fault _ (told_refused c.letters_hold.ensures c.in-Err.is)

pub returns-in-Ok : goal.returns-in-Ok
returns-in-Ok c =
    lines_fault _ c.requires (told_holds c.letters_hold.ensures c.in-Ok.is)
