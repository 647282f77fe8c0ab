-- The goals of `card_layout::is_zeros` that the check leaves open; Invariants.antt says how it is met. Assumes nothing.
use native.Mathlib.Omega.{arith}
use Rattle.card_layout.proofs.Laws.{zeros_turn, zeros_end}
use Rattle.card_layout.proofs.is_zeros.Goals as goal

pub loop-x-preserved : goal.loop-x-preserved
loop-x-preserved c = let at = c.loop-x in zeros_turn _ at.x-index at.all _ at.invariant (omega arith)

pub returns : goal.returns
returns c = zeros_end c.args.bytes.now c.loop-x.x-index _ _ c.loop-x.invariant (omega arith)
