-- `export` meets its contract. Assumes nothing.
use Rattle.std.proofs.lemmas.Result.{err_from_is_err_and}
use Rattle.base_answers.proofs.Laws.{said_given, said_refused}
use Rattle.text_export.proofs.ExportLaws.{export_refused}
use Rattle.text_export.proofs.export.Goals as goal

pub export_card-requires : goal.export_card-requires
export_card-requires c = said_given (λ f. f) c.admit.ensures c.in_ok-f.was

pub returns-in_err-f : goal.returns-in_err-f
returns-in_err-f c =
    let p = err_from_is_err_and c.from_residual.result c.from_residual.ensures.1 in
    rw (p.1, p.2) (export_refused (λ i. (c.type_inv.card i).fits) (said_refused (λ f. f) c.admit.ensures c.in_err-f.was))
