-- `pair_settling::settle_all` meets its contract. The loop's invariant is `Settling` of proofs/Settled.antt. Assumes nothing.
use Rattle.pair_following.specs.Following.{pairs_in, progress_in}
use Rattle.pair_settling.proofs.Settled.{Settling}
use Rattle.pair_settling.proofs.settle_all.Given as goal

abbrev pub invariant-loop-e : goal.invariant-loop-e
invariant-loop-e l =
    Settling (pairs_in l.pairs) (progress_in l.initial.placed) (progress_in l.placed) l.e
