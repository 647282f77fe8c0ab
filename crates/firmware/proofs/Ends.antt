-- No exported function asks anything of its caller that its contract could state, and each call of one ends, with an answer and buffers that meet
-- its contract. `Pre` is what a contract asks, as it is read from the source. Assumes nothing.
use contract.Lifetimes.{Lfts}
use borrow.Fn.Kinds.{Dens}
use Rattle.firmware.proofs.belfrymist_admit.Kinds as admit_kinds
use Rattle.firmware.proofs.belfrymist_admit.Reads as admit_reads
use Rattle.firmware.proofs.belfrymist_admit.Statement as admit
use Rattle.firmware.proofs.belfrymist_admit.Met as admit_met
use Rattle.firmware.proofs.belfrymist_entry.Kinds as entry_kinds
use Rattle.firmware.proofs.belfrymist_entry.Reads as entry_reads
use Rattle.firmware.proofs.belfrymist_entry.Statement as entry
use Rattle.firmware.proofs.belfrymist_entry.Met as entry_met
use Rattle.firmware.proofs.belfrymist_step.Kinds as step_kinds
use Rattle.firmware.proofs.belfrymist_step.Reads as step_reads
use Rattle.firmware.proofs.belfrymist_step.Statement as step
use Rattle.firmware.proofs.belfrymist_step.Met as step_met
use Rattle.firmware.proofs.belfrymist_companion.Kinds as companion_kinds
use Rattle.firmware.proofs.belfrymist_companion.Reads as companion_reads
use Rattle.firmware.proofs.belfrymist_companion.Statement as companion
use Rattle.firmware.proofs.belfrymist_companion.Met as companion_met
use Rattle.firmware.proofs.belfrymist_fetch.Kinds as fetch_kinds
use Rattle.firmware.proofs.belfrymist_fetch.Reads as fetch_reads
use Rattle.firmware.proofs.belfrymist_fetch.Statement as fetch
use Rattle.firmware.proofs.belfrymist_fetch.Met as fetch_met
use Rattle.firmware.proofs.writing.belfrymist_write.Kinds as write_kinds
use Rattle.firmware.proofs.writing.belfrymist_write.Reads as write_reads
use Rattle.firmware.proofs.writing.belfrymist_write.Statement as write
use Rattle.firmware.proofs.writing.belfrymist_write.Met as write_met
use Rattle.firmware.proofs.listing.belfrymist_import.Kinds as import_kinds
use Rattle.firmware.proofs.listing.belfrymist_import.Reads as import_reads
use Rattle.firmware.proofs.listing.belfrymist_import.Statement as import
use Rattle.firmware.proofs.listing.belfrymist_import.Met as import_met
use Rattle.firmware.proofs.listing.belfrymist_export.Kinds as export_kinds
use Rattle.firmware.proofs.listing.belfrymist_export.Reads as export_reads
use Rattle.firmware.proofs.listing.belfrymist_export.Statement as export
use Rattle.firmware.proofs.listing.belfrymist_export.Met as export_met
use Rattle.firmware.proofs.record.belfrymist_write_fasta.Kinds as write_fasta_kinds
use Rattle.firmware.proofs.record.belfrymist_write_fasta.Reads as write_fasta_reads
use Rattle.firmware.proofs.record.belfrymist_write_fasta.Statement as write_fasta
use Rattle.firmware.proofs.record.belfrymist_write_fasta.Met as write_fasta_met
use Rattle.firmware.proofs.record.belfrymist_read_fasta.Kinds as read_fasta_kinds
use Rattle.firmware.proofs.record.belfrymist_read_fasta.Reads as read_fasta_reads
use Rattle.firmware.proofs.record.belfrymist_read_fasta.Statement as read_fasta
use Rattle.firmware.proofs.record.belfrymist_read_fasta.Met as read_fasta_met
use Rattle.firmware.proofs.building.belfrymist_build.Kinds as build_kinds
use Rattle.firmware.proofs.building.belfrymist_build.Reads as build_reads
use Rattle.firmware.proofs.building.belfrymist_build.Statement as build
use Rattle.firmware.proofs.building.belfrymist_build.Met as build_met
use Rattle.firmware.proofs.settle.belfrymist_settle.Kinds as settle_kinds
use Rattle.firmware.proofs.settle.belfrymist_settle.Reads as settle_reads
use Rattle.firmware.proofs.settle.belfrymist_settle.Statement as settle
use Rattle.firmware.proofs.settle.belfrymist_settle.Met as settle_met
use Rattle.firmware.proofs.settle.belfrymist_settle_lists.Kinds as settle_lists_kinds
use Rattle.firmware.proofs.settle.belfrymist_settle_lists.Reads as settle_lists_reads
use Rattle.firmware.proofs.settle.belfrymist_settle_lists.Statement as settle_lists
use Rattle.firmware.proofs.settle.belfrymist_settle_lists.Met as settle_lists_met
use Rattle.firmware.proofs.count.belfrymist_count.Kinds as count_kinds
use Rattle.firmware.proofs.count.belfrymist_count.Reads as count_reads
use Rattle.firmware.proofs.count.belfrymist_count.Statement as count
use Rattle.firmware.proofs.count.belfrymist_count.Met as count_met
use Rattle.firmware.proofs.count.belfrymist_count_lists.Kinds as count_lists_kinds
use Rattle.firmware.proofs.count.belfrymist_count_lists.Reads as count_lists_reads
use Rattle.firmware.proofs.count.belfrymist_count_lists.Statement as count_lists
use Rattle.firmware.proofs.count.belfrymist_count_lists.Met as count_lists_met

pub admit_asks_nothing : (κs : Lfts 1) (a : Dens κs admit_kinds.ps) → admit_reads.Pre κs a
admit_asks_nothing κs a = tt

pub admit_ends : {M : Type 1} → admit.statement M
admit_ends = admit_met.met

pub entry_asks_nothing : (κs : Lfts 1) (a : Dens κs entry_kinds.ps) → entry_reads.Pre κs a
entry_asks_nothing κs a = tt

pub entry_ends : {M : Type 1} → entry.statement M
entry_ends = entry_met.met

pub step_asks_nothing : (κs : Lfts 1) (a : Dens κs step_kinds.ps) → step_reads.Pre κs a
step_asks_nothing κs a = tt

pub step_ends : {M : Type 1} → step.statement M
step_ends = step_met.met

pub companion_asks_nothing : (κs : Lfts 1) (a : Dens κs companion_kinds.ps) → companion_reads.Pre κs a
companion_asks_nothing κs a = tt

pub companion_ends : {M : Type 1} → companion.statement M
companion_ends = companion_met.met

pub fetch_asks_nothing : (κs : Lfts 1) (a : Dens κs fetch_kinds.ps) → fetch_reads.Pre κs a
fetch_asks_nothing κs a = tt

pub fetch_ends : {M : Type 1} → fetch.statement M
fetch_ends = fetch_met.met

pub write_asks_nothing : (κs : Lfts 4) (a : Dens κs write_kinds.ps) → write_reads.Pre κs a
write_asks_nothing κs a = tt

pub write_ends : {M : Type 1} → write.statement M
write_ends = write_met.met

pub import_asks_nothing : (κs : Lfts 2) (a : Dens κs import_kinds.ps) → import_reads.Pre κs a
import_asks_nothing κs a = tt

pub import_ends : {M : Type 1} → import.statement M
import_ends = import_met.met

pub export_asks_nothing : (κs : Lfts 2) (a : Dens κs export_kinds.ps) → export_reads.Pre κs a
export_asks_nothing κs a = tt

pub export_ends : {M : Type 1} → export.statement M
export_ends = export_met.met

pub write_fasta_asks_nothing : (κs : Lfts 3) (a : Dens κs write_fasta_kinds.ps) → write_fasta_reads.Pre κs a
write_fasta_asks_nothing κs a = tt

pub write_fasta_ends : {M : Type 1} → write_fasta.statement M
write_fasta_ends = write_fasta_met.met

pub read_fasta_asks_nothing : (κs : Lfts 3) (a : Dens κs read_fasta_kinds.ps) → read_fasta_reads.Pre κs a
read_fasta_asks_nothing κs a = tt

pub read_fasta_ends : {M : Type 1} → read_fasta.statement M
read_fasta_ends = read_fasta_met.met

pub build_asks_nothing : (κs : Lfts 2) (a : Dens κs build_kinds.ps) → build_reads.Pre κs a
build_asks_nothing κs a = tt

pub build_ends : {M : Type 1} → build.statement M
build_ends = build_met.met

pub settle_asks_nothing : (κs : Lfts 2) (a : Dens κs settle_kinds.ps) → settle_reads.Pre κs a
settle_asks_nothing κs a = tt

pub settle_ends : {M : Type 1} → settle.statement M
settle_ends = settle_met.met

pub settle_lists_ask_nothing : (κs : Lfts 4) (a : Dens κs settle_lists_kinds.ps) → settle_lists_reads.Pre κs a
settle_lists_ask_nothing κs a = tt

pub settle_lists_end : {M : Type 1} → settle_lists.statement M
settle_lists_end = settle_lists_met.met

pub count_asks_nothing : (κs : Lfts 1) (a : Dens κs count_kinds.ps) → count_reads.Pre κs a
count_asks_nothing κs a = tt

pub count_ends : {M : Type 1} → count.statement M
count_ends = count_met.met

pub count_lists_ask_nothing : (κs : Lfts 3) (a : Dens κs count_lists_kinds.ps) → count_lists_reads.Pre κs a
count_lists_ask_nothing κs a = tt

pub count_lists_end : {M : Type 1} → count_lists.statement M
count_lists_end = count_lists_met.met
