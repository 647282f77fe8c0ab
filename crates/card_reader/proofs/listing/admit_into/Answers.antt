-- `card_reader::listing::admit_into` meets its contract: each return is one of the three outcomes. Assumes nothing.
use mathlib.Core.Path.{sym, ap, ◌∙◌}
use native.Mathlib.Omega.{arith}
use Rattle.card_block.specs.Bytes.{AreBytes}
use Rattle.card_entries.specs.declared.Format.{Format}
use Rattle.card_reader.proofs.FetchingLaws.{told_admitted}
use Rattle.card_reader.proofs.ListingLaws.{listed_no_room, listed_filled}
use Rattle.card_reader.proofs.listing.admit_into.Goals as goal

pub fill-requires-clause-on_card : goal.fill-requires-clause-on_card
fill-requires-clause-on_card c =
    let has = told_admitted _ _ c.admit.ensures c.in_ok-f.was in
    let m = ap (λ (f : Format). f.m) has.told in
    (omega (arith, m, has.head.most), omega (arith, m, has.size))

pub returns-then-has_room : goal.returns-then-has_room
returns-then-has_room c =
    let of_bytes : AreBytes c.args.card.now = λ i. (c.type_inv.card i).fits in
    let has = told_admitted _ _ c.admit.ensures c.in_ok-f.was in
    let room = sym c.has_room.ensures ∙ c.if-has_room.true in
    let did = c.fill.ensures in
    listed_filled _ _ _ _ _ of_bytes has room did.words_after did.ones_after did.twos_after

pub returns-else-has_room : goal.returns-else-has_room
returns-else-has_room c =
    let of_bytes : AreBytes c.args.card.now = λ i. (c.type_inv.card i).fits in
    let has = told_admitted _ _ c.admit.ensures c.in_ok-f.was in
    listed_no_room _ _ _ _ _ of_bytes has (sym c.has_room.ensures ∙ c.if-has_room.false)
