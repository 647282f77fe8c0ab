-- `write` meets its contract. Assumes nothing.
use mathlib.Core.Path.{sym, ◌∙◌}
use Rattle.std.proofs.lemmas.Result.{err_from_is_err_and}
use Rattle.base_answers.specs.Answer.{sound}
use Rattle.base_answers.proofs.Laws.{first_passed, told_holds, told_refused}
use Rattle.text_fasta.proofs.AnswerLaws.{no_name, no_letters}
use Rattle.text_fasta.proofs.writing.write.Goals as goal

pub returns-then-not-is_name : goal.returns-then-not-is_name
returns-then-not-is_name c = no_name _ _ _ (sym c.is_name.ensures ∙ c.if-not-is_name.true)

pub write_named-requires : goal.write_named-requires
write_named-requires c =
    let letters = told_holds c.letters_hold.ensures c.in_ok-letters_hold.was in
    (sym c.is_name.ensures ∙ c.if-not-is_name.false, (first_passed _ _ _ _ sound sound letters).0)

pub returns-in_err-letters_hold : goal.returns-in_err-letters_hold
returns-in_err-letters_hold c =
    let p = err_from_is_err_and c.from_residual.result c.from_residual.ensures.1 in
    rw (p.1, p.2) (no_letters _ _ _ (sym c.is_name.ensures ∙ c.if-not-is_name.false) (told_refused c.letters_hold.ensures c.in_err-letters_hold.was))
