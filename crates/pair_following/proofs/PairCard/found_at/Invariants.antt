-- `pair_following::PairCard::found_at` meets its contract. The loop goes through the list of t (`Listing`). Assumes nothing.
use Prim.Native.Nat.{ℕ}
use Rattle.pair_following.specs.Following.{nth, pairs_of}
use Rattle.pair_following.specs.Common.{Common, by, one_in, many_in}
use Rattle.pair_following.proofs.Slots.{Listing}
use Rattle.pair_following.proofs.PairCard.found_at.Given as goal

abbrev pub invariant-loop-k : goal.invariant-loop-k
invariant-loop-k l =
    Listing l.self.card.now l.t l.k
    × ((mask : ℕ) → Common (by l.key (pairs_of l.self.card.now mask)) (nth l.placed.put.now) l.t l.k (one_in l.s) (many_in l.s))

abbrev pub decreases-loop-k : goal.decreases-loop-k
decreases-loop-k l = l.k
