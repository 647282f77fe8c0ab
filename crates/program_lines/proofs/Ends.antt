-- No report asks anything, and each call of one ends, with a number of bytes and a buffer that meet its contract. `Pre` is what a contract asks, as
-- it is read from the source. Assumes nothing.
use contract.Lifetimes.{Lfts}
use borrow.Fn.Kinds.{Dens}
use Rattle.program_lines.proofs.report.Kinds as report_kinds
use Rattle.program_lines.proofs.report.Reads as report_reads
use Rattle.program_lines.proofs.report.Statement as report
use Rattle.program_lines.proofs.report.Met as report_met
use Rattle.program_lines.proofs.settle.report.Kinds as settle_report_kinds
use Rattle.program_lines.proofs.settle.report.Reads as settle_report_reads
use Rattle.program_lines.proofs.settle.report.Statement as settle_report
use Rattle.program_lines.proofs.settle.report.Met as settle_report_met
use Rattle.program_lines.proofs.count.report.Kinds as count_report_kinds
use Rattle.program_lines.proofs.count.report.Reads as count_report_reads
use Rattle.program_lines.proofs.count.report.Statement as count_report
use Rattle.program_lines.proofs.count.report.Met as count_report_met

pub report_asks_nothing : (κs : Lfts 2) (a : Dens κs report_kinds.ps) → report_reads.Pre κs a
report_asks_nothing κs a = tt

pub report_ends : {M : Type 1} → report.statement M
report_ends = report_met.met

pub settle_report_asks_nothing : (κs : Lfts 2) (a : Dens κs settle_report_kinds.ps) → settle_report_reads.Pre κs a
settle_report_asks_nothing κs a = tt

pub settle_report_ends : {M : Type 1} → settle_report.statement M
settle_report_ends = settle_report_met.met

pub count_report_asks_nothing : (κs : Lfts 2) (a : Dens κs count_report_kinds.ps) → count_report_reads.Pre κs a
count_report_asks_nothing κs a = tt

pub count_report_ends : {M : Type 1} → count_report.statement M
count_report_ends = count_report_met.met
