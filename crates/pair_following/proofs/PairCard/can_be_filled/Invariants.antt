-- `pair_following::PairCard::can_be_filled` meets its contract. The loop goes through the list of q; the entries behind it cannot come to stand there
-- (`NoneFrom`). Assumes nothing.
use Rattle.pair_following.proofs.Slots.{NoneFrom}
use Rattle.pair_following.proofs.PairCard.can_be_filled.Given as goal

abbrev pub invariant-loop-k : goal.invariant-loop-k
invariant-loop-k l = NoneFrom l.self.card.now l.placed.put.now l.q l.k

abbrev pub decreases-loop-k : goal.decreases-loop-k
decreases-loop-k l = l.k
