-- `put_letters` meets its contract: the letters of the lines so far are put (`Parting`). Assumes nothing.
use Prim.Native.Nat.{◌+◌}
use mathlib.Core.Path.{◌≡◌}
use Rattle.std.specs.Slice.Iter.{chunks_rest, chunks_size}
use Rattle.text_fasta.specs.Record.{line_letters}
use Rattle.text_fasta.proofs.LoopLaws.{Parting}
use Rattle.text_fasta.proofs.reading.put_letters.Given as goal

abbrev pub invariant-loop-line : goal.invariant-loop-line
invariant-loop-line l =
    goal.iterator-loop-line.can_next l.line-iterator
    × goal.iterator-loop-line.is_finite l.line-iterator
    × (chunks_size l.line-iterator ≡ line_letters + 1)
    × Parting l.body l.initial.out l.to (chunks_rest l.line-iterator) l.out
