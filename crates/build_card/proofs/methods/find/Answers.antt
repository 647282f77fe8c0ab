-- The goals of `find` that the check leaves open: the lists are those of the card's kind. Assumes nothing.
use Rattle.card_entries.proofs.HoldLaws.{hold_kind, lists_of_kind}
use Rattle.build_card.proofs.methods.find.Goals as goal

pub walk-requires-clause-span_lists : goal.walk-requires-clause-span_lists
walk-requires-clause-span_lists c = lists_of_kind c.requires.lists_hold c.if-f-eq-SPAN.true

pub settle-requires-clause-pair_lists : goal.settle-requires-clause-pair_lists
settle-requires-clause-pair_lists c =
    lists_of_kind c.requires.lists_hold (hold_kind c.requires.lists_hold.hold c.if-f-eq-SPAN.false)
