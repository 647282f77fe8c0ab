-- Each public contract determines the outcome: two results that both meet it at the same input are equal. `Post` is the contract as it is
-- read from the source. Assumes nothing.
use mathlib.Core.Path.{◌≡◌, sym, ◌∙◌}
use contract.Lifetimes.{Lfts}
use denote.Triple.Clauses.{AtExit}
use borrow.Fn.Kinds.{Dens, res_t, ended_of}
use Rattle.base_answers.proofs.Laws.{held_one}
use Rattle.card_block.proofs.companion.Kinds as companion
use Rattle.card_block.proofs.companion.Reads as companion_reads
use Rattle.card_block.proofs.fetch.Kinds as fetch
use Rattle.card_block.proofs.fetch.Reads as fetch_reads
use Rattle.card_block.proofs.part.Kinds as part
use Rattle.card_block.proofs.part.Reads as part_reads
use Rattle.card_block.proofs.two_at.Kinds as two_at
use Rattle.card_block.proofs.two_at.Reads as two_at_reads
use Rattle.card_block.proofs.four_at.Kinds as four_at
use Rattle.card_block.proofs.four_at.Reads as four_at_reads
use Rattle.card_block.proofs.put_two.Kinds as put_two
use Rattle.card_block.proofs.put_two.Reads as put_two_reads
use Rattle.card_block.proofs.put_four.Kinds as put_four
use Rattle.card_block.proofs.put_four.Reads as put_four_reads
use Rattle.card_block.proofs.seal.Kinds as seal
use Rattle.card_block.proofs.seal.Reads as seal_reads

module _ (κs : Lfts 1) where
  -- the companion's answer
  pub companion_one : (a : Dens κs companion.ps) (r r' : (res_t companion.r κs).Denot) (e e' : AtExit (ended_of 1 companion.ps companion.r) κs)
      → companion_reads.Post κs a r e → companion_reads.Post κs a r' e' → r ≡ r'
  companion_one a r r' e e' p q = held_one r r' (p ∙ sym q)

  -- the fetched part: its bytes and its place
  pub fetch_one : (a : Dens κs fetch.ps) (r r' : (res_t fetch.r κs).Denot) (e e' : AtExit (ended_of 1 fetch.ps fetch.r) κs)
      → fetch_reads.Post κs a r e → fetch_reads.Post κs a r' e' → (r.now ≡ r'.now) × (r.ref_ptr ≡ r'.ref_ptr)
  fetch_one a r r' e e' p q = (p.0 ∙ sym q.0, p.1 ∙ sym q.1)

  -- a part, whether it holds or not
  pub part_one : (a : Dens κs part.ps) (r r' : (res_t part.r κs).Denot) (e e' : AtExit (ended_of 1 part.ps part.r) κs)
      → part_reads.Post κs a r e → part_reads.Post κs a r' e' → (r.now ≡ r'.now) × (r.ref_ptr ≡ r'.ref_ptr)
  part_one a r r' e e' p q = (p.0 ∙ sym q.0, p.1 ∙ sym q.1)

  -- numbers in bytes
  pub two_at_one : (a : Dens κs two_at.ps) (r r' : (res_t two_at.r κs).Denot) (e e' : AtExit (ended_of 1 two_at.ps two_at.r) κs)
      → two_at_reads.Post κs a r e → two_at_reads.Post κs a r' e' → r ≡ r'
  two_at_one a r r' e e' p q = p ∙ sym q

  pub four_at_one : (a : Dens κs four_at.ps) (r r' : (res_t four_at.r κs).Denot) (e e' : AtExit (ended_of 1 four_at.ps four_at.r) κs)
      → four_at_reads.Post κs a r e → four_at_reads.Post κs a r' e' → r ≡ r'
  four_at_one a r r' e e' p q = p ∙ sym q

  -- what is written into a part
  pub put_two_one : (a : Dens κs put_two.ps) (r r' : (res_t put_two.r κs).Denot)
      (e e' : AtExit (ended_of 1 put_two.ps put_two.r) κs)
      → put_two_reads.Post κs a r e → put_two_reads.Post κs a r' e' → e.0.now ≡ e'.0.now
  put_two_one a r r' e e' p q = p ∙ sym q

  pub put_four_one : (a : Dens κs put_four.ps) (r r' : (res_t put_four.r κs).Denot)
      (e e' : AtExit (ended_of 1 put_four.ps put_four.r) κs)
      → put_four_reads.Post κs a r e → put_four_reads.Post κs a r' e' → e.0.now ≡ e'.0.now
  put_four_one a r r' e e' p q = p ∙ sym q

  pub seal_one : (a : Dens κs seal.ps) (r r' : (res_t seal.r κs).Denot)
      (e e' : AtExit (ended_of 1 seal.ps seal.r) κs)
      → seal_reads.Post κs a r e → seal_reads.Post κs a r' e' → e.0.now ≡ e'.0.now
  seal_one a r r' e e' p q = p ∙ sym q
