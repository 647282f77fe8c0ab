-- No conversion asks anything, and each call of one ends, with numbers of bytes and buffers that meet its contract. `Pre` is what a contract asks,
-- as it is read from the source. Assumes nothing.
use contract.Lifetimes.{Lfts}
use borrow.Fn.Kinds.{Dens}
use Rattle.program_converting.proofs.to_card.convert.Kinds as to_card_kinds
use Rattle.program_converting.proofs.to_card.convert.Reads as to_card_reads
use Rattle.program_converting.proofs.to_card.convert.Statement as to_card
use Rattle.program_converting.proofs.to_card.convert.Met as to_card_met
use Rattle.program_converting.proofs.to_list.convert.Kinds as to_list_kinds
use Rattle.program_converting.proofs.to_list.convert.Reads as to_list_reads
use Rattle.program_converting.proofs.to_list.convert.Statement as to_list
use Rattle.program_converting.proofs.to_list.convert.Met as to_list_met
use Rattle.program_converting.proofs.to_fasta.convert.Kinds as to_fasta_kinds
use Rattle.program_converting.proofs.to_fasta.convert.Reads as to_fasta_reads
use Rattle.program_converting.proofs.to_fasta.convert.Statement as to_fasta
use Rattle.program_converting.proofs.to_fasta.convert.Met as to_fasta_met

pub to_card_asks_nothing : (κs : Lfts 3) (a : Dens κs to_card_kinds.ps) → to_card_reads.Pre κs a
to_card_asks_nothing κs a = tt

pub to_card_ends : {M : Type 1} → to_card.statement M
to_card_ends = to_card_met.met

pub to_list_asks_nothing : (κs : Lfts 3) (a : Dens κs to_list_kinds.ps) → to_list_reads.Pre κs a
to_list_asks_nothing κs a = tt

pub to_list_ends : {M : Type 1} → to_list.statement M
to_list_ends = to_list_met.met

pub to_fasta_asks_nothing : (κs : Lfts 4) (a : Dens κs to_fasta_kinds.ps) → to_fasta_reads.Pre κs a
to_fasta_asks_nothing κs a = tt

pub to_fasta_ends : {M : Type 1} → to_fasta.statement M
to_fasta_ends = to_fasta_met.met
