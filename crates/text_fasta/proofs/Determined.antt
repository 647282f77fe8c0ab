-- Each contract determines the outcome: two answers, with what the outputs hold afterwards, that meet it at the same input are equal. `Post` is
-- the contract as it is read from the source. Assumes nothing.
use mathlib.Core.Path.{◌≡◌, sym, ◌∙◌}
use contract.Lifetimes.{Lfts}
use denote.Triple.Clauses.{AtExit}
use borrow.Fn.Kinds.{Dens, res_t, ended_of}
use Rattle.base_answers.proofs.Laws.{says_same}
use Rattle.text_fasta.proofs.writing.write.Kinds as write
use Rattle.text_fasta.proofs.writing.write.Reads as write_reads
use Rattle.text_fasta.proofs.reading.read.Kinds as read
use Rattle.text_fasta.proofs.reading.read.Reads as read_reads

module _ (κs : Lfts 3) where
  pub write_one : (a : Dens κs write.ps) (r r' : (res_t write.r κs).Denot) (e e' : AtExit (ended_of 3 write.ps write.r) κs)
      → write_reads.Post κs a r e → write_reads.Post κs a r' e' → (r ≡ r') × (e.1.1.0.now ≡ e'.1.1.0.now)
  write_one a r r' e e' p q = (says_same r r' (p.answer ∙ sym q.answer), p.bytes ∙ sym q.bytes)

  pub read_one : (a : Dens κs read.ps) (r r' : (res_t read.r κs).Denot) (e e' : AtExit (ended_of 3 read.ps read.r) κs)
      → read_reads.Post κs a r e → read_reads.Post κs a r' e'
      → (r ≡ r') × (e.1.0.now ≡ e'.1.0.now) × (e.1.1.0.now ≡ e'.1.1.0.now)
  read_one a r r' e e' p q =
      (says_same r r' (p.answer ∙ sym q.answer), p.in_name ∙ sym q.in_name, p.in_letters ∙ sym q.in_letters)
