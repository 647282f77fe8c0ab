-- `import` asks nothing, and each call of it ends, with an answer and an output that meet its contract. `Pre` is what a contract asks, as it is
-- read from the source. Assumes nothing.
use contract.Lifetimes.{Lfts}
use borrow.Fn.Kinds.{Dens}
use Rattle.text_import.proofs.import.Kinds as import_kinds
use Rattle.text_import.proofs.import.Reads as import_reads
use Rattle.text_import.proofs.import.Statement as import
use Rattle.text_import.proofs.import.Met as import_met

pub import_asks_nothing : (κs : Lfts 2) (a : Dens κs import_kinds.ps) → import_reads.Pre κs a
import_asks_nothing κs a = tt

pub import_ends : {M : Type 1} → import.statement M
import_ends = import_met.met
