-- Each public contract determines the outcome: two results that both meet it at the same input are equal. `Post` is the contract as it is
-- read from the source. Assumes nothing.
use mathlib.Core.Path.{◌≡◌, sym, ◌∙◌}
use contract.Lifetimes.{Lfts}
use denote.Triple.Clauses.{AtExit}
use borrow.Fn.Kinds.{Dens, res_t, ended_of}
use Rattle.base_answers.proofs.Laws.{held_one}
use Rattle.card_entries.proofs.is_kind.Kinds as is_kind_lem
use Rattle.card_entries.proofs.is_kind.Reads as is_kind_reads
use Rattle.card_entries.proofs.is_length.Kinds as is_length
use Rattle.card_entries.proofs.is_length.Reads as is_length_reads
use Rattle.card_entries.proofs.is_count.Kinds as is_count
use Rattle.card_entries.proofs.is_count.Reads as is_count_reads
use Rattle.card_entries.proofs.slot_at.Kinds as slot_at
use Rattle.card_entries.proofs.slot_at.Reads as slot_at_reads
use Rattle.card_entries.proofs.put_slot.Kinds as put_slot
use Rattle.card_entries.proofs.put_slot.Reads as put_slot_reads
use Rattle.card_entries.proofs.entry_of.Kinds as entry_of
use Rattle.card_entries.proofs.entry_of.Reads as entry_of_reads
use Rattle.card_entries.proofs.entry_holds.Kinds as entry_holds
use Rattle.card_entries.proofs.entry_holds.Reads as entry_holds_reads
use Rattle.card_entries.proofs.EntryLists.slot.Kinds as slot
use Rattle.card_entries.proofs.EntryLists.slot.Reads as slot_reads

module _ (κs : Lfts 1) where
  pub slot_at_one : (a : Dens κs slot_at.ps) (r r' : (res_t slot_at.r κs).Denot) (e e' : AtExit (ended_of 1 slot_at.ps slot_at.r) κs)
      → slot_at_reads.Post κs a r e → slot_at_reads.Post κs a r' e' → r ≡ r'
  slot_at_one a r r' e e' p q = p ∙ sym q

  pub put_slot_one : (a : Dens κs put_slot.ps) (r r' : (res_t put_slot.r κs).Denot) (e e' : AtExit (ended_of 1 put_slot.ps put_slot.r) κs)
      → put_slot_reads.Post κs a r e → put_slot_reads.Post κs a r' e' → e.0.now ≡ e'.0.now
  put_slot_one a r r' e e' p q = p ∙ sym q

module _ (κs : Lfts 2) where
  pub slot_one : (a : Dens κs slot.ps) (r r' : (res_t slot.r κs).Denot) (e e' : AtExit (ended_of 2 slot.ps slot.r) κs)
      → slot_reads.Post κs a r e → slot_reads.Post κs a r' e' → r ≡ r'
  slot_one a r r' e e' p q = p ∙ sym q

module _ (κs : Lfts 0) where
  pub is_kind_one : (a : Dens κs is_kind_lem.ps) (r r' : (res_t is_kind_lem.r κs).Denot)
      (e e' : AtExit (ended_of 0 is_kind_lem.ps is_kind_lem.r) κs)
      → is_kind_reads.Post κs a r e → is_kind_reads.Post κs a r' e' → r ≡ r'
  is_kind_one a r r' e e' p q = p ∙ sym q

  pub is_length_one : (a : Dens κs is_length.ps) (r r' : (res_t is_length.r κs).Denot)
      (e e' : AtExit (ended_of 0 is_length.ps is_length.r) κs)
      → is_length_reads.Post κs a r e → is_length_reads.Post κs a r' e' → r ≡ r'
  is_length_one a r r' e e' p q = p ∙ sym q

  pub is_count_one : (a : Dens κs is_count.ps) (r r' : (res_t is_count.r κs).Denot)
      (e e' : AtExit (ended_of 0 is_count.ps is_count.r) κs)
      → is_count_reads.Post κs a r e → is_count_reads.Post κs a r' e' → r ≡ r'
  is_count_one a r r' e e' p q = p ∙ sym q

  pub entry_of_one : (a : Dens κs entry_of.ps) (r r' : (res_t entry_of.r κs).Denot) (e e' : AtExit (ended_of 0 entry_of.ps entry_of.r) κs)
      → entry_of_reads.Post κs a r e → entry_of_reads.Post κs a r' e' → r ≡ r'
  entry_of_one a r r' e e' p q = p ∙ sym q

  pub entry_holds_one : (a : Dens κs entry_holds.ps) (r r' : (res_t entry_holds.r κs).Denot)
      (e e' : AtExit (ended_of 0 entry_holds.ps entry_holds.r) κs)
      → entry_holds_reads.Post κs a r e → entry_holds_reads.Post κs a r' e' → r ≡ r'
  entry_holds_one a r r' e e' p q = held_one r r' (p ∙ sym q)
