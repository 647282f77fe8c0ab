-- `pair_following::PairCard::follow` meets its contract. The loop's invariant: each placed entry has all others free, but for those on the trail
-- from top on (`Chasing`, proofs/PlaceLaws.antt). The measure is what is left of the trail's room. Assumes nothing.
use Prim.Native.Nat.{◌-◌}
use Rattle.pair_following.specs.Following.{count_in, pairs_in, progress_in}
use Rattle.pair_following.proofs.PlaceLaws.{Chasing}
use Rattle.pair_following.proofs.PairCard.follow.Given as goal

abbrev pub invariant-loop-top : goal.invariant-loop-top
invariant-loop-top l =
    Chasing (pairs_in l.self) (progress_in l.initial.placed) (progress_in l.placed) l.top

abbrev pub decreases-loop-top : goal.decreases-loop-top
decreases-loop-top l = count_in l.self.card.now - l.top
