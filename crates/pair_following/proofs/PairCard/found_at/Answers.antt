-- The goals of `pair_following::PairCard::found_at` that the check leaves open; Invariants.antt says how it is met. Assumes nothing.
use Rattle.pair_following.proofs.Slots.{list_start, list_none, list_entry, list_stands, list_more, list_next}
use Rattle.pair_following.proofs.CommonLaws.{common_start, common_also, common_end}
use Rattle.pair_following.proofs.PairCard.found_at.Goals as goal

pub loop-k-init : goal.loop-k-init
loop-k-init c =
    let pre = c.requires in
    rw c.last_slot-k.ensures (list_start pre.lists pre.place.0, λ mask. common_start (list_none pre.lists pre.place.0 mask))

pub loop-k-preserved : goal.loop-k-preserved
loop-k-preserved c =
    let pre = c.requires in
    let inv = c.loop-k.invariant in
    let more = c.loop-k-test.true in
    rw c.slot_before-k.ensures (
      list_more pre.lists inv.0 more,
      λ mask. common_also pre.place.0 (list_entry pre.lists inv.0 more) (list_next pre.lists inv.0 more mask) (inv.1 mask)
          (list_stands pre.lists inv.0 more mask) c.with_possible-s.ensures,
    )

pub returns : goal.returns
returns c mask = common_end c.loop-k-test.false (c.loop-k.invariant.1 mask)
