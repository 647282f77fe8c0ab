-- `pair_following::PairCard::clear` meets its contract. The loop goes through the list of q; the entries from slot k on are free of e (`Clearing`,
-- proofs/PlaceLaws.antt). The measure is k. Assumes nothing.
use Rattle.pair_following.specs.Following.{pairs_in, progress_in}
use Rattle.pair_following.proofs.Slots.{Listing}
use Rattle.pair_following.proofs.PlaceLaws.{Clearing}
use Rattle.pair_following.proofs.PairCard.clear.Given as goal

abbrev pub invariant-loop-k : goal.invariant-loop-k
invariant-loop-k l =
    Listing l.self.card.now l.q l.k × Clearing (pairs_in l.self) (progress_in l.initial.placed)
    (progress_in l.placed) l.e l.q l.k

abbrev pub decreases-loop-k : goal.decreases-loop-k
decreases-loop-k l = l.k
