-- The goals of `pair_following::PairCard::can_be_filled` that the check leaves open; Invariants.antt says how it is met. Assumes nothing.
use Rattle.pair_following.proofs.Slots.{none_start, none_more, none_end}
use Rattle.pair_following.proofs.PairCard.can_be_filled.Goals as goal

pub loop-k-init : goal.loop-k-init
loop-k-init c = let pre = c.requires in rw c.last_slot-k.ensures (none_start pre.2 pre.0)

pub loop-k-preserved : goal.loop-k-preserved
loop-k-preserved c =
    let pre = c.requires in
    let not = c.possible.ensures.no c.if-possible.false in
    rw c.slot_before-k.ensures (none_more pre.2 c.loop-k.invariant c.loop-k-test.true (λ mask y. not (rw pre.1 y.1)))

pub returns : goal.returns
returns c h = none_end c.loop-k.invariant c.loop-k-test.false
