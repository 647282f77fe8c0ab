-- `write` and `read` ask nothing, and each call of them ends, with an answer and outputs that meet its contract. `Pre` is what a contract asks,
-- as it is read from the source. Assumes nothing.
use contract.Lifetimes.{Lfts}
use borrow.Fn.Kinds.{Dens}
use Rattle.text_fasta.proofs.writing.write.Kinds as write_kinds
use Rattle.text_fasta.proofs.writing.write.Reads as write_reads
use Rattle.text_fasta.proofs.writing.write.Statement as write
use Rattle.text_fasta.proofs.writing.write.Met as write_met
use Rattle.text_fasta.proofs.reading.read.Kinds as read_kinds
use Rattle.text_fasta.proofs.reading.read.Reads as read_reads
use Rattle.text_fasta.proofs.reading.read.Statement as read
use Rattle.text_fasta.proofs.reading.read.Met as read_met

pub write_asks_nothing : (κs : Lfts 3) (a : Dens κs write_kinds.ps) → write_reads.Pre κs a
write_asks_nothing κs a = tt

pub write_ends : {M : Type 1} → write.statement M
write_ends = write_met.met

pub read_asks_nothing : (κs : Lfts 3) (a : Dens κs read_kinds.ps) → read_reads.Pre κs a
read_asks_nothing κs a = tt

pub read_ends : {M : Type 1} → read.statement M
read_ends = read_met.met
