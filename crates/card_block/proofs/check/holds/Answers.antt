-- `card_block::check::holds` meets its contract: the bytes before the check are there. Assumes nothing.
use native.Mathlib.Omega.{arith}
use lib.ListN.{length-take}
use Rattle.card_block.proofs.check.holds.Goals as goal

pub slice_bounds-bytes_of-end : goal.slice_bounds-bytes_of-end
slice_bounds-bytes_of-end c = simp length-take (omega arith)
