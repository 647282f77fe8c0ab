-- `pair_forcing::force_all` meets its contract. Assumes nothing.
use Rattle.pair_following.specs.Following.{nth, count_in, pairs_in, progress_in, Trail}
use Rattle.pair_forcing.specs.Forcing.{Sure}
use Rattle.pair_forcing.proofs.force_all.Given as goal

abbrev pub invariant-loop-t : goal.invariant-loop-t
invariant-loop-t l =
    Trail (count_in l.pairs.card.now) (progress_in l.placed) × Sure (pairs_in l.pairs) (nth l.placed.put.now)
