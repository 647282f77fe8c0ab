-- `settle` meets its contract: a crowded place leaves no build (`crowded_settles`), and without one the card is laid out. Assumes nothing.
use Prim.Native.Nat.{◌≤◌}
use native.Mathlib.Omega.{arith}
use lib.ListN.{length}
use lib.Seq.{length-take-le}
use Rattle.card_entries.specs.Bounds.{most_entries}
use Rattle.card_entries.proofs.HoldLaws.{few_entries}
use Rattle.span_narrow.proofs.PlanLaws.{first_places_told, told_planned}
use Rattle.span_narrow.proofs.SettleLaws.{crowded_settles, settles_told}
use Rattle.span_narrow.proofs.settle.Goals as goal

pub prepare-requires : goal.prepare-requires
prepare-requires c =
    let most : length c.args.lists.now.words.now ≤ most_entries = few_entries c.requires.span_lists in
    record { span_lists = c.requires.span_lists; table_room = record { places = omega (arith, most); in_slots = omega (arith, most) } }

pub returns-then-crowded : goal.returns-then-crowded
returns-then-crowded c =
    crowded_settles c.prepare.ensures _ c.requires.narrow c.crowded.ensures c.if-crowded.true

pub settle-requires : goal.settle-requires
settle-requires c =
    let few : length c.args.lists.now.words.now ≤ most_entries =
    few_entries c.requires.span_lists in
    let found-room : length c.args.lists.now.words.now ≤ length c.args.found.now =
    c.requires.words_in_bounds in
    record {
      planned = told_planned c.requires.span_lists c.prepare.ensures (c.crowded.ensures.no_place c.if-crowded.false).few;
      marks_len = (length-take-le _ _ few, omega (arith, few), length-take-le _ _ found-room);
    }

pub returns : goal.returns
returns c =
    let told = first_places_told c.requires.span_lists c.prepare.ensures in
    settles_told _ _ told _ _ c.settle.ensures.first_len c.settle.ensures.settles_lists
