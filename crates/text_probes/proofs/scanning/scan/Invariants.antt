-- `scan` meets its contract. The invariant is `Scanning`. What falls is how many bytes are left. Assumes nothing.
use Prim.Native.Nat.{◌-◌}
use lib.ListN.{length}
use Rattle.text_probes.proofs.ScanTurn.{Scanning}
use Rattle.text_probes.proofs.scanning.scan.Given as goal

abbrev pub invariant-loop-at : goal.invariant-loop-at
invariant-loop-at l = Scanning l.text l.initial.words l.s l.at (record { words = l.words; ones = l.ones; twos = l.twos })

abbrev pub decreases-loop-at : goal.decreases-loop-at
decreases-loop-at l = length l.text - l.at
