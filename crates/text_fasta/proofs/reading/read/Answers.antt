-- `read` meets its contract. Assumes nothing.
use Rattle.std.proofs.lemmas.Result.{err_from_is_err_and}
use Rattle.base_answers.proofs.Laws.{said_given, said_refused}
use Rattle.text_fasta.proofs.AnswerLaws.{not_headed, name_held}
use Rattle.text_fasta.proofs.reading.read.Goals as goal

pub read_named-requires : goal.read_named-requires
read_named-requires c =
    name_held _ _ _ _ _ (said_given (λ n. n) c.name_in.ensures c.in_ok-n.was)

pub returns-in_err-n : goal.returns-in_err-n
returns-in_err-n c =
    let p = err_from_is_err_and c.from_residual.result c.from_residual.ensures.1 in
    rw (p.1, p.2) (not_headed _ _ _ _ (said_refused (λ n. n) c.name_in.ensures c.in_err-n.was))
