-- `pair_choosing::choose_all` meets its contract. The loop's invariant is `Deciding` of proofs/Deciding.antt. Assumes nothing.
use Rattle.pair_following.specs.Following.{pairs_in, progress_in}
use Rattle.pair_choosing.proofs.Deciding.{Deciding}
use Rattle.pair_choosing.proofs.choose_all.Given as goal

abbrev pub invariant-loop-t : goal.invariant-loop-t
invariant-loop-t l =
    Deciding (pairs_in l.pairs) (progress_in l.placed) l.choices l.words l.t
