-- `is_body` meets its contract: line after line is looked at (`looked_by_all`). Assumes nothing.
use borrow.Author.Rules.{rules}
use borrow.Author.Tests.{eqb-true, eqb-false}
use mathlib.Core.Path.{sym, ap, ◌∙◌}
use mathlib.Core.Bool.{not}
use native.Mathlib.Omega.{arith}
use Rattle.text_fasta.proofs.LinedLaws.{nothing_body}
use Rattle.text_fasta.proofs.LoopLaws.{looked_by_all}
use Rattle.text_fasta.proofs.reading.is_body.Goals as goal

pub returns-then-not-is_empty : goal.returns-then-not-is_empty
returns-then-not-is_empty c =
    let some = eqb-false _ 0 (sym c.is_empty.ensures ∙ c.if-not-is_empty.true) in
    looked_by_all _ (λ f f' x t call. search rules) _ _ _ _ _ (omega (arith, some)) c.chunks.ensures.size c.chunks.ensures.rest c.all.ensures.ran

pub returns-else-not-is_empty : goal.returns-else-not-is_empty
returns-else-not-is_empty c =
    ap not c.if-not-is_empty.false ∙ nothing_body _ (eqb-true _ 0 (sym c.is_empty.ensures ∙ c.if-not-is_empty.false))
