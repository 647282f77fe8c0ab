-- The contract of `write` determines the outcome: two answers, with what the output holds afterwards, that both meet it at the same input are
-- equal. `Post` is the contract as it is read from the source. Assumes nothing.
use mathlib.Core.Path.{◌≡◌, sym, ◌∙◌}
use Prim.Native.Nat.{ℕ}
use contract.Lifetimes.{Lfts}
use denote.Triple.Clauses.{AtExit}
use borrow.Fn.Kinds.{Dens, res_t, ended_of}
use Rattle.std.specs.Prelude.{Result}
use Rattle.base_answers.specs.declared.Refusal.{Refusal}
use Rattle.base_answers.specs.Answer.{says}
use Rattle.base_answers.proofs.Laws.{says_same}
use Rattle.card_writer.proofs.write.Kinds as write
use Rattle.card_writer.proofs.write.Reads as write_reads

-- two results that say the same are one
pub written_one : (r s : Result ℕ Refusal) → says r ≡ says s → r ≡ s
written_one = says_same

pub write_one : (κs : Lfts 4) (a : Dens κs write.ps) (r r' : (res_t write.r κs).Denot) (e e' : AtExit (ended_of 4 write.ps write.r) κs)
    → write_reads.Post κs a r e → write_reads.Post κs a r' e' → (r ≡ r') × (e.1.1.1.1.1.0.now ≡ e'.1.1.1.1.1.0.now)
write_one κs a r r' e e' p q = (written_one r r' (p.answer ∙ sym q.answer), p.bytes ∙ sym q.bytes)
