-- `name_in` meets its contract. Assumes nothing.
use mathlib.Core.Path.{sym, ap, ◌∙◌}
use mathlib.Core.List.{[]}
use Rattle.base_answers.specs.Numbers.{Name}
use Rattle.base_answers.specs.Answer.{given}
use Rattle.base_answers.proofs.Laws.{first_fail, first_last}
use Rattle.text_fasta.proofs.HeadLaws.{name_found}
use Rattle.text_fasta.proofs.reading.name_in.Goals as goal

pub returns-then-not-is_headed : goal.returns-then-not-is_headed
returns-then-not-is_headed c = sym (first_fail _ Name 0 [] _ (sym c.is_headed.ensures ∙ c.if-not-is_headed.true))

pub returns : goal.returns
returns c =
    let headed = sym c.is_headed.ensures ∙ c.if-not-is_headed.false in
    ap given (name_found _ c.name_length-n.ensures headed) ∙ sym (first_last _ Name 0 _ headed)
