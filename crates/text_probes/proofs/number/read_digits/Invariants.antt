-- `read_digits` meets its contract. The invariant: the digits that are left read as all do, after a number of 16 bits. Assumes nothing.
use mathlib.Core.Path.{◌≡◌}
use Prim.Native.Nat.{◌<◌, ◌^◌}
use lib.ListN.{drop}
use Rattle.text_probes.specs.Reading.{read_digits}
use Rattle.text_probes.proofs.number.read_digits.Given as goal

abbrev pub invariant-loop-i : goal.invariant-loop-i
invariant-loop-i l = (read_digits l.v (drop l.i l.text) ≡ read_digits l.first (drop l.at l.text)) × (l.v < 2 ^ 16)
