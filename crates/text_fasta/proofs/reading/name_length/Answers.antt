-- `name_length` meets its contract: no more bytes are looked at than a name may have, and one. Assumes nothing.
use borrow.Author.Rules.{rules}
use borrow.Author.Tests.{eqb-true}
use mathlib.Core.Path.{sym, ◌∙◌}
use Rattle.text_fasta.specs.Reading.{no_break}
use Rattle.text_fasta.proofs.HeadLaws.{nothing_leads, in_reach}
use Rattle.text_fasta.proofs.reading.name_length.Goals as goal

pub returns-then-is_empty : goal.returns-then-is_empty
returns-then-is_empty c = nothing_leads c.args.bytes.now (eqb-true _ 0 (sym c.is_empty.ensures ∙ c.if-is_empty.true))

pub returns : goal.returns
returns c = c.leading.ensures no_break (λ b h t e. search rules) ∙ in_reach c.args.bytes.now c.min-end.ensures
