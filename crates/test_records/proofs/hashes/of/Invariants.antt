-- `test_records::hashes::of` meets its contract. The invariant: the hash so far and what is left give the hash of all. Assumes nothing.
use mathlib.Core.List.{map}
use Rattle.test_records.proofs.HashLaws.{SoFar}
use Rattle.test_records.proofs.hashes.of.Given as goal

abbrev pub invariant-loop-x : goal.invariant-loop-x
invariant-loop-x g l = SoFar (map g.T.Element.value l.s) l.h l.x-index
