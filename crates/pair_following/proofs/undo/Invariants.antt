-- `pair_following::undo` meets its contract. The loop's invariant is `Undoing` of proofs/UndoLaws.antt. Assumes nothing.
use Rattle.pair_following.specs.Following.{progress_of}
use Rattle.pair_following.proofs.UndoLaws.{Undoing}
use Rattle.pair_following.proofs.undo.Given as goal

abbrev pub invariant-loop-i : goal.invariant-loop-i
invariant-loop-i l = Undoing (progress_of l.initial.put l.trail l.n) l.from l.none l.put l.i
