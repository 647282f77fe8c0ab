-- `vectors::run_all` is safe and ends. The invariant: the card is the first n bytes of its buffer. Assumes nothing.
use Prim.Native.Nat.{◌≤◌}
use mathlib.Core.Path.{◌≡◌}
use lib.ListN.{length}
use Rattle.vectors.proofs.run_all.Given as goal

abbrev pub invariant-loop : goal.invariant-loop
invariant-loop g l = (l.n ≤ length l.card) × (length l.card ≡ length l.initial.card)
