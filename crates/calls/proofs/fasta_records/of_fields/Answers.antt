-- `calls::fasta_records::of_fields` is safe: what is lent is a part of an array each. Assumes nothing.
use native.Mathlib.Omega.{arith}
use lib.ListN.{length-take}
use Rattle.calls.proofs.fasta_records.of_fields.Goals as goal

pub slice_bounds-told-end : goal.slice_bounds-told-end
slice_bounds-told-end g c = simp length-take (omega arith)

pub slice_bounds-told-end-2 : goal.slice_bounds-told-end-2
slice_bounds-told-end-2 g c = simp length-take (omega arith)

pub slice_bounds-told-end-3 : goal.slice_bounds-told-end-3
slice_bounds-told-end-3 g c = simp length-take (omega arith)
