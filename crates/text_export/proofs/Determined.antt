-- The contract of `export` determines the outcome: two that both meet it at the same input are equal. `Post` is the contract as it is read
-- from the source. Assumes nothing.
use mathlib.Core.Path.{◌≡◌, sym, ◌∙◌}
use contract.Lifetimes.{Lfts}
use denote.Triple.Clauses.{AtExit}
use borrow.Fn.Kinds.{Dens, res_t, ended_of}
use Rattle.base_answers.proofs.Laws.{says_same}
use Rattle.text_export.proofs.export.Kinds as export
use Rattle.text_export.proofs.export.Reads as export_reads

pub export_one : (κs : Lfts 2) (a : Dens κs export.ps) (r r' : (res_t export.r κs).Denot) (e e' : AtExit (ended_of 2 export.ps export.r) κs)
    → export_reads.Post κs a r e → export_reads.Post κs a r' e' → (r ≡ r') × (e.1.0.now ≡ e'.1.0.now)
export_one κs a r r' e e' p q = (says_same r r' (p.answer ∙ sym q.answer), p.bytes ∙ sym q.bytes)
