-- `pair_following::Placed::undo` meets its contract. The loop's invariant is `Undoing` of proofs/UndoLaws.antt. Assumes nothing.
use mathlib.Core.Path.{◌≡◌}
use Rattle.pair_following.specs.Following.{progress_in}
use Rattle.pair_following.proofs.UndoLaws.{Undoing}
use Rattle.pair_following.proofs.Placed.undo.Given as goal

abbrev pub invariant-loop-i : goal.invariant-loop-i
invariant-loop-i l =
    Undoing (progress_in l.initial.self) l.from l.none l.self.put.now l.i × (l.self.trail.now ≡ l.initial.self.trail.now)
