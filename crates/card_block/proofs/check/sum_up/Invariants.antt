-- `card_block::check::sum_up` meets its contract. The invariant: the sums are the plain sums of the bytes so far, which are few enough for
-- `plain_most`. Assumes nothing.
use mathlib.Core.Path.{◌≡◌}
use lib.ListN.{take}
use Rattle.card_block.specs.Plain.{plain_of}
use Rattle.card_block.proofs.check.sum_up.Given as goal

abbrev pub invariant-loop-x : goal.invariant-loop-x
invariant-loop-x l = l.s ≡ plain_of (take l.x-index l.bytes)
