-- The goal of `card_writer::write` that the check leaves open: what is written over the output has the size of a card of these lists. Assumes nothing.
use native.Mathlib.Omega.{arith}
use lib.ListN.{length, length-take}
use Rattle.base_answers.proofs.Laws.{told_holds}
use Rattle.card_entries.specs.Fault.{least_length, most_length}
use Rattle.card_entries.specs.Bounds.{least_entries, most_entries}
use Rattle.card_layout.proofs.Laws.{kind_below}
use Rattle.card_entries.proofs.Laws.{within_both}
use Rattle.card_lists.proofs.Laws.{lists_held}
use Rattle.card_writer.proofs.write.Goals as goal

pub put_card-requires-clause-format_fits : goal.put_card-requires-clause-format_fits
put_card-requires-clause-format_fits c =
    let has = lists_held (told_holds c.lists_hold.ensures c.in_ok-lists_hold.was) in
    let kind = kind_below c.args.kind has.hold.a_kind in
    let letters = (within_both least_length most_length c.args.l has.hold.letters).1 in
    let count = (within_both least_entries most_entries (length c.args.words.now) has.hold.count).1 in
    let lent = length-take c.size_of-size.result c.args.out.now in
    omega (arith, kind, letters, count, lent, c.if-out-size.false, c.size_of-size.ensures)
