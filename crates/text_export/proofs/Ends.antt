-- `export` asks nothing, and each call of it ends, with an answer and an output that meet its contract. `Pre` is what a contract asks, as it is
-- read from the source. Assumes nothing.
use contract.Lifetimes.{Lfts}
use borrow.Fn.Kinds.{Dens}
use Rattle.text_export.proofs.export.Kinds as export_kinds
use Rattle.text_export.proofs.export.Reads as export_reads
use Rattle.text_export.proofs.export.Statement as export
use Rattle.text_export.proofs.export.Met as export_met

pub export_asks_nothing : (κs : Lfts 2) (a : Dens κs export_kinds.ps) → export_reads.Pre κs a
export_asks_nothing κs a = tt

pub export_ends : {M : Type 1} → export.statement M
export_ends = export_met.met
