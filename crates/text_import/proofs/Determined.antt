-- The contract of `import` determines the outcome: two that both meet it at the same input are equal. `Post` is the contract as it is read
-- from the source. Assumes nothing.
use mathlib.Core.Path.{◌≡◌, sym, ◌∙◌}
use contract.Lifetimes.{Lfts}
use denote.Triple.Clauses.{AtExit}
use borrow.Fn.Kinds.{Dens, res_t, ended_of}
use Rattle.base_answers.proofs.Laws.{says_same}
use Rattle.text_import.proofs.import.Kinds as import
use Rattle.text_import.proofs.import.Reads as import_reads

pub import_one : (κs : Lfts 2) (a : Dens κs import.ps) (r r' : (res_t import.r κs).Denot) (e e' : AtExit (ended_of 2 import.ps import.r) κs)
    → import_reads.Post κs a r e → import_reads.Post κs a r' e' → (r ≡ r') × (e.1.0.now ≡ e'.1.0.now)
import_one κs a r r' e e' p q = (says_same r r' (p.answer ∙ sym q.answer), p.bytes ∙ sym q.bytes)
