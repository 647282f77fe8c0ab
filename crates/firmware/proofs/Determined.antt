-- Each exported contract determines the outcome: two results, with what a lent output holds afterwards, that both meet it at the same input
-- are equal. `Post` is the contract as it is read from the source. Assumes nothing.
use mathlib.Core.Path.{◌≡◌, sym, ◌∙◌}
use contract.Lifetimes.{Lfts}
use denote.Triple.Clauses.{AtExit}
use borrow.Fn.Kinds.{Dens, res_t, ended_of}
use Rattle.build_card.proofs.Determined.{told_one}
use Rattle.build_narrow.proofs.SettlingLaws.{settles_one}
use Rattle.build_count.proofs.CountingLaws.{counts_one}
use Rattle.firmware.specs.Building.{build_answer}
use Rattle.firmware.proofs.belfrymist_admit.Kinds as admit
use Rattle.firmware.proofs.belfrymist_admit.Reads as admit_reads
use Rattle.firmware.proofs.belfrymist_entry.Kinds as entry
use Rattle.firmware.proofs.belfrymist_entry.Reads as entry_reads
use Rattle.firmware.proofs.belfrymist_step.Kinds as step
use Rattle.firmware.proofs.belfrymist_step.Reads as step_reads
use Rattle.firmware.proofs.belfrymist_companion.Kinds as companion
use Rattle.firmware.proofs.belfrymist_companion.Reads as companion_reads
use Rattle.firmware.proofs.belfrymist_fetch.Kinds as fetch
use Rattle.firmware.proofs.belfrymist_fetch.Reads as fetch_reads
use Rattle.firmware.proofs.writing.belfrymist_write.Kinds as write
use Rattle.firmware.proofs.writing.belfrymist_write.Reads as write_reads
use Rattle.firmware.proofs.listing.belfrymist_import.Kinds as import
use Rattle.firmware.proofs.listing.belfrymist_import.Reads as import_reads
use Rattle.firmware.proofs.listing.belfrymist_export.Kinds as export
use Rattle.firmware.proofs.listing.belfrymist_export.Reads as export_reads
use Rattle.firmware.proofs.record.belfrymist_write_fasta.Kinds as write_fasta
use Rattle.firmware.proofs.record.belfrymist_write_fasta.Reads as write_fasta_reads
use Rattle.firmware.proofs.record.belfrymist_read_fasta.Kinds as read_fasta
use Rattle.firmware.proofs.record.belfrymist_read_fasta.Reads as read_fasta_reads
use Rattle.firmware.proofs.building.belfrymist_build.Kinds as build
use Rattle.firmware.proofs.building.belfrymist_build.Reads as build_reads
use Rattle.firmware.proofs.settle.belfrymist_settle.Kinds as settle
use Rattle.firmware.proofs.settle.belfrymist_settle.Reads as settle_reads
use Rattle.firmware.proofs.settle.belfrymist_settle_lists.Kinds as settle_lists
use Rattle.firmware.proofs.settle.belfrymist_settle_lists.Reads as settle_lists_reads
use Rattle.firmware.proofs.count.belfrymist_count.Kinds as count
use Rattle.firmware.proofs.count.belfrymist_count.Reads as count_reads
use Rattle.firmware.proofs.count.belfrymist_count_lists.Kinds as count_lists
use Rattle.firmware.proofs.count.belfrymist_count_lists.Reads as count_lists_reads

module _ (κs : Lfts 1) where
  -- what admitting answers
  pub admit_one : (a : Dens κs admit.ps) (r r' : (res_t admit.r κs).Denot) (e e' : AtExit (ended_of 1 admit.ps admit.r) κs)
      → admit_reads.Post κs a r e → admit_reads.Post κs a r' e' → r ≡ r'
  admit_one a r r' e e' p q = p ∙ sym q

  -- what fetching an entry answers
  pub entry_one : (a : Dens κs entry.ps) (r r' : (res_t entry.r κs).Denot) (e e' : AtExit (ended_of 1 entry.ps entry.r) κs)
      → entry_reads.Post κs a r e → entry_reads.Post κs a r' e' → r ≡ r'
  entry_one a r r' e e' p q = p ∙ sym q

  -- what a step of the reading head answers
  pub step_one : (a : Dens κs step.ps) (r r' : (res_t step.r κs).Denot) (e e' : AtExit (ended_of 1 step.ps step.r) κs)
      → step_reads.Post κs a r e → step_reads.Post κs a r' e' → r ≡ r'
  step_one a r r' e e' p q = p ∙ sym q

  -- what the companion of a fetch answers
  pub companion_one : (a : Dens κs companion.ps) (r r' : (res_t companion.r κs).Denot) (e e' : AtExit (ended_of 1 companion.ps companion.r) κs)
      → companion_reads.Post κs a r e → companion_reads.Post κs a r' e' → r ≡ r'
  companion_one a r r' e e' p q = p ∙ sym q

  -- where the fetched part stands
  pub fetch_one : (a : Dens κs fetch.ps) (r r' : (res_t fetch.r κs).Denot) (e e' : AtExit (ended_of 1 fetch.ps fetch.r) κs)
      → fetch_reads.Post κs a r e → fetch_reads.Post κs a r' e' → r ≡ r'
  fetch_one a r r' e e' p q = p ∙ sym q

-- what writing answers, and the output afterwards
pub write_one : (κs : Lfts 4) (a : Dens κs write.ps) (r r' : (res_t write.r κs).Denot) (e e' : AtExit (ended_of 4 write.ps write.r) κs)
    → write_reads.Post κs a r e → write_reads.Post κs a r' e' → (r ≡ r') × (e.1.1.1.1.1.0.now ≡ e'.1.1.1.1.1.0.now)
write_one κs a r r' e e' p q = (p.0 ∙ sym q.0, p.1 ∙ sym q.1)

-- what importing a list answers, and exporting a card, and the output afterwards
pub import_one : (κs : Lfts 2) (a : Dens κs import.ps) (r r' : (res_t import.r κs).Denot) (e e' : AtExit (ended_of 2 import.ps import.r) κs)
    → import_reads.Post κs a r e → import_reads.Post κs a r' e' → (r ≡ r') × (e.1.0.now ≡ e'.1.0.now)
import_one κs a r r' e e' p q = (p.0 ∙ sym q.0, p.1 ∙ sym q.1)

pub export_one : (κs : Lfts 2) (a : Dens κs export.ps) (r r' : (res_t export.r κs).Denot) (e e' : AtExit (ended_of 2 export.ps export.r) κs)
    → export_reads.Post κs a r e → export_reads.Post κs a r' e' → (r ≡ r') × (e.1.0.now ≡ e'.1.0.now)
export_one κs a r r' e e' p q = (p.0 ∙ sym q.0, p.1 ∙ sym q.1)

-- what writing a FASTA record answers, and reading one, and the outputs afterwards
pub write_fasta_one : (κs : Lfts 3) (a : Dens κs write_fasta.ps) (r r' : (res_t write_fasta.r κs).Denot)
    (e e' : AtExit (ended_of 3 write_fasta.ps write_fasta.r) κs)
    → write_fasta_reads.Post κs a r e
    → write_fasta_reads.Post κs a r' e'
    → (r ≡ r') × (e.1.1.0.now ≡ e'.1.1.0.now)
write_fasta_one κs a r r' e e' p q = (p.0 ∙ sym q.0, p.1 ∙ sym q.1)

pub read_fasta_one : (κs : Lfts 3) (a : Dens κs read_fasta.ps) (r r' : (res_t read_fasta.r κs).Denot)
    (e e' : AtExit (ended_of 3 read_fasta.ps read_fasta.r) κs)
    → read_fasta_reads.Post κs a r e
    → read_fasta_reads.Post κs a r' e'
    → (r ≡ r') × (e.1.0.now ≡ e'.1.0.now) × (e.1.1.0.now ≡ e'.1.1.0.now)
read_fasta_one κs a r r' e e' p q = (p.0 ∙ sym q.0, p.1.0 ∙ sym q.1.0, p.1.1 ∙ sym q.1.1)

-- what build answers, and the output afterwards
pub build_one : (κs : Lfts 2) (a : Dens κs build.ps) (r r' : (res_t build.r κs).Denot) (e e' : AtExit (ended_of 2 build.ps build.r) κs)
    → build_reads.Post κs a r e → build_reads.Post κs a r' e' → (r ≡ r') × (e.1.1.0.now ≡ e'.1.1.0.now)
build_one κs a r r' e e' p q = told_one build_answer a.1.1.0.now p.says q.says p.answer q.answer p.output q.output

-- what settling a card answers, and lists, and the output afterwards
pub settle_one : (κs : Lfts 2) (a : Dens κs settle.ps) (r r' : (res_t settle.r κs).Denot) (e e' : AtExit (ended_of 2 settle.ps settle.r) κs)
    → settle_reads.Post κs a r e → settle_reads.Post κs a r' e' → (r ≡ r') × (e.1.0.now ≡ e'.1.0.now)
settle_one κs a r r' e e' p q = settles_one p q

pub settle_lists_one : (κs : Lfts 4) (a : Dens κs settle_lists.ps) (r r' : (res_t settle_lists.r κs).Denot)
    (e e' : AtExit (ended_of 4 settle_lists.ps settle_lists.r) κs)
    → settle_lists_reads.Post κs a r e
    → settle_lists_reads.Post κs a r' e'
    → (r ≡ r') × (e.1.1.1.1.1.0.now ≡ e'.1.1.1.1.1.0.now)
settle_lists_one κs a r r' e e' p q = settles_one p q

-- the number of builds of a card, and of lists
pub count_one : (κs : Lfts 1) (a : Dens κs count.ps) (r r' : (res_t count.r κs).Denot) (e e' : AtExit (ended_of 1 count.ps count.r) κs)
    → count_reads.Post κs a r e → count_reads.Post κs a r' e' → r ≡ r'
count_one κs a r r' e e' p q = counts_one p q

pub count_lists_one : (κs : Lfts 3) (a : Dens κs count_lists.ps) (r r' : (res_t count_lists.r κs).Denot)
    (e e' : AtExit (ended_of 3 count_lists.ps count_lists.r) κs)
    → count_lists_reads.Post κs a r e
    → count_lists_reads.Post κs a r' e'
    → r ≡ r'
count_lists_one κs a r r' e e' p q = counts_one p q
