-- Each public contract determines the outcome: two results that both meet it at the same input are equal. `Post` is the contract as it is
-- read from the source. Assumes nothing.
use mathlib.Core.Path.{◌≡◌, sym, ◌∙◌}
use contract.Lifetimes.{Lfts}
use denote.Triple.Clauses.{AtExit}
use borrow.Fn.Kinds.{Dens, res_t, ended_of}
use Rattle.card_layout.proofs.entry_blocks.Kinds as entry_blocks
use Rattle.card_layout.proofs.entry_blocks.Reads as entry_blocks_reads
use Rattle.card_layout.proofs.size_of.Kinds as size_of_fn
use Rattle.card_layout.proofs.size_of.Reads as size_of_reads
use Rattle.card_layout.proofs.entries_before.Kinds as entries_before
use Rattle.card_layout.proofs.entries_before.Reads as entries_before_reads
use Rattle.card_layout.proofs.entries_in_block.Kinds as entries_in_block
use Rattle.card_layout.proofs.entries_in_block.Reads as entries_in_block_reads
use Rattle.card_layout.proofs.format_of.Kinds as format_of
use Rattle.card_layout.proofs.format_of.Reads as format_of_reads
use Rattle.card_layout.proofs.told_by.Kinds as told_by_lem
use Rattle.card_layout.proofs.told_by.Reads as told_by_reads
use Rattle.card_layout.proofs.slot_of.Kinds as slot_of
use Rattle.card_layout.proofs.slot_of.Reads as slot_of_reads
use Rattle.card_layout.proofs.entry_at.Kinds as entry_at
use Rattle.card_layout.proofs.entry_at.Reads as entry_at_reads
use Rattle.card_layout.proofs.head_spare.Kinds as head_spare_lem
use Rattle.card_layout.proofs.head_spare.Reads as head_spare_reads
use Rattle.card_layout.proofs.slots_spare.Kinds as slots_spare
use Rattle.card_layout.proofs.slots_spare.Reads as slots_spare_reads
use Rattle.card_layout.proofs.put_head.Kinds as put_head
use Rattle.card_layout.proofs.put_head.Reads as put_head_reads

module _ (κs : Lfts 0) where
  pub entry_blocks_one : (a : Dens κs entry_blocks.ps) (r r' : (res_t entry_blocks.r κs).Denot)
      (e e' : AtExit (ended_of 0 entry_blocks.ps entry_blocks.r) κs)
      → entry_blocks_reads.Post κs a r e → entry_blocks_reads.Post κs a r' e' → r ≡ r'
  entry_blocks_one a r r' e e' p q = p ∙ sym q

  pub size_of_one : (a : Dens κs size_of_fn.ps) (r r' : (res_t size_of_fn.r κs).Denot)
      (e e' : AtExit (ended_of 0 size_of_fn.ps size_of_fn.r) κs)
      → size_of_reads.Post κs a r e → size_of_reads.Post κs a r' e' → r ≡ r'
  size_of_one a r r' e e' p q = p ∙ sym q

  pub entries_before_one : (a : Dens κs entries_before.ps) (r r' : (res_t entries_before.r κs).Denot)
      (e e' : AtExit (ended_of 0 entries_before.ps entries_before.r) κs)
      → entries_before_reads.Post κs a r e → entries_before_reads.Post κs a r' e' → r ≡ r'
  entries_before_one a r r' e e' p q = p ∙ sym q

  pub entries_in_block_one : (a : Dens κs entries_in_block.ps) (r r' : (res_t entries_in_block.r κs).Denot)
      (e e' : AtExit (ended_of 0 entries_in_block.ps entries_in_block.r) κs)
      → entries_in_block_reads.Post κs a r e → entries_in_block_reads.Post κs a r' e' → r ≡ r'
  entries_in_block_one a r r' e e' p q = p ∙ sym q

module _ (κs : Lfts 1) where
  pub format_of_one : (a : Dens κs format_of.ps) (r r' : (res_t format_of.r κs).Denot)
      (e e' : AtExit (ended_of 1 format_of.ps format_of.r) κs)
      → format_of_reads.Post κs a r e → format_of_reads.Post κs a r' e' → r ≡ r'
  format_of_one a r r' e e' p q = p ∙ sym q

  pub told_by_one : (a : Dens κs told_by_lem.ps) (r r' : (res_t told_by_lem.r κs).Denot)
      (e e' : AtExit (ended_of 1 told_by_lem.ps told_by_lem.r) κs)
      → told_by_reads.Post κs a r e → told_by_reads.Post κs a r' e' → r ≡ r'
  told_by_one a r r' e e' p q = p ∙ sym q

  pub slot_of_one : (a : Dens κs slot_of.ps) (r r' : (res_t slot_of.r κs).Denot)
      (e e' : AtExit (ended_of 1 slot_of.ps slot_of.r) κs)
      → slot_of_reads.Post κs a r e → slot_of_reads.Post κs a r' e' → r ≡ r'
  slot_of_one a r r' e e' p q = p ∙ sym q

  pub entry_at_one : (a : Dens κs entry_at.ps) (r r' : (res_t entry_at.r κs).Denot)
      (e e' : AtExit (ended_of 1 entry_at.ps entry_at.r) κs)
      → entry_at_reads.Post κs a r e → entry_at_reads.Post κs a r' e' → r ≡ r'
  entry_at_one a r r' e e' p q = p ∙ sym q

  pub head_spare_one : (a : Dens κs head_spare_lem.ps) (r r' : (res_t head_spare_lem.r κs).Denot)
      (e e' : AtExit (ended_of 1 head_spare_lem.ps head_spare_lem.r) κs)
      → head_spare_reads.Post κs a r e → head_spare_reads.Post κs a r' e' → r ≡ r'
  head_spare_one a r r' e e' p q = p ∙ sym q

  pub slots_spare_one : (a : Dens κs slots_spare.ps) (r r' : (res_t slots_spare.r κs).Denot)
      (e e' : AtExit (ended_of 1 slots_spare.ps slots_spare.r) κs)
      → slots_spare_reads.Post κs a r e → slots_spare_reads.Post κs a r' e' → r ≡ r'
  slots_spare_one a r r' e e' p q = p ∙ sym q

  pub put_head_one : (a : Dens κs put_head.ps) (r r' : (res_t put_head.r κs).Denot)
      (e e' : AtExit (ended_of 1 put_head.ps put_head.r) κs)
      → put_head_reads.Post κs a r e → put_head_reads.Post κs a r' e' → e.0.now ≡ e'.0.now
  put_head_one a r r' e e' p q = p ∙ sym q
