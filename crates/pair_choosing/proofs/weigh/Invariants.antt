-- `pair_choosing::weigh` meets its contract. The loop goes through the list of t (`Listing`). Assumes nothing.
use Rattle.pair_following.specs.Following.{nth, pairs_in, progress_in}
use Rattle.pair_following.specs.Common.{one_in, many_in}
use Rattle.pair_choosing.specs.Choosing.{Kept, Weighed}
use Rattle.pair_following.proofs.Slots.{Listing}
use Rattle.pair_choosing.proofs.weigh.Given as goal

abbrev pub invariant-loop-k : goal.invariant-loop-k
invariant-loop-k l =
    Listing l.pairs.card.now l.t l.k
    × Kept (pairs_in l.pairs) (progress_in l.initial.placed) (progress_in l.placed)
    × Weighed (pairs_in l.pairs) (nth l.initial.placed.put.now) l.t l.k (one_in l.s) (many_in l.s)

abbrev pub decreases-loop-k : goal.decreases-loop-k
decreases-loop-k l = l.k
