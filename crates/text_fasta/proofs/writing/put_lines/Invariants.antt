-- `put_lines` meets its contract: the letters so far are put in lines (`Lining`). Assumes nothing.
use mathlib.Core.Path.{◌≡◌}
use Rattle.std.specs.Slice.Iter.{chunks_rest, chunks_size}
use Rattle.text_fasta.specs.Record.{line_letters}
use Rattle.text_fasta.proofs.LoopLaws.{Lining}
use Rattle.text_fasta.proofs.writing.put_lines.Given as goal

abbrev pub invariant-loop-line : goal.invariant-loop-line
invariant-loop-line l =
    goal.iterator-loop-line.can_next l.line-iterator
    × goal.iterator-loop-line.is_finite l.line-iterator
    × (chunks_size l.line-iterator ≡ line_letters)
    × Lining l.letters l.at l.initial.out l.to (chunks_rest l.line-iterator) l.out
