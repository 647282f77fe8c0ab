-- `pair_forcing::spread` meets its contract. Assumes nothing.
use mathlib.Core.Path.{◌≡◌}
use Prim.Native.Nat.{◌-◌}
use lib.ListN.{length}
use Rattle.pair_following.specs.Following.{nth, count_in, pairs_in, progress_in, Trail}
use Rattle.pair_forcing.specs.Forcing.{Sure}
use Rattle.pair_forcing.proofs.spread.Given as goal

abbrev pub invariant-loop-seen : goal.invariant-loop-seen
invariant-loop-seen l =
    Trail (count_in l.pairs.card.now) (progress_in l.placed) × Sure (pairs_in l.pairs) (nth l.placed.put.now)
    × (length l.count ≡ count_in l.pairs.card.now)

abbrev pub decreases-loop-seen : goal.decreases-loop-seen
decreases-loop-seen l = count_in l.pairs.card.now - l.seen
