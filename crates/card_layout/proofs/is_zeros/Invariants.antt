-- `card_layout::is_zeros` meets its contract. The invariant: what was looked at and what is left are zeros exactly if all is. Assumes nothing.
use mathlib.Core.Path.{◌≡◌}
use mathlib.Core.Bool.{◌&&◌}
use lib.ListN.{drop}
use Rattle.card_layout.specs.Layout.{is_zeros}
use Rattle.card_layout.proofs.is_zeros.Given as goal

abbrev pub invariant-loop-x : goal.invariant-loop-x
invariant-loop-x l = (l.all && is_zeros (drop l.x-index l.bytes)) ≡ is_zeros l.bytes
