-- `settle_from` meets its contract: the room, the kind and the widths in turn, and then what the method finds. Assumes nothing.
use Prim.Native.Nat.{◌≤◌}
use native.Mathlib.Omega.{arith}
use lib.ListN.{length}
use Rattle.std.proofs.lemmas.Result.{err_from_is_err_and}
use Rattle.base_answers.proofs.Laws.{told_holds, told_refused}
use Rattle.card_entries.specs.Hold.{format_for}
use Rattle.build_card.specs.Building.{letters_in}
use Rattle.card_lists.proofs.Laws.{held_lists}
use Rattle.build_narrow.specs.Passing.{PassesTests}
use Rattle.build_narrow.proofs.TestLaws.{lists_no_room, lists_has_room}
use Rattle.build_narrow.proofs.SettlingLaws.{building_refused, spans_refused, spans_pass, passes_as_span}
use Rattle.build_narrow.proofs.settle_from.Goals as goal

pub returns-then-out-letters_in : goal.returns-then-out-letters_in
returns-then-out-letters_in c =
    building_refused (lists_no_room _ _ _ _ _ _ _ (held_lists c.requires) (omega (arith, c.if-out-letters_in.true, c.letters_in.ensures)))

pub settle_narrow-requires : goal.settle_narrow-requires
settle_narrow-requires c =
    let in-room : letters_in (format_for c.args.kind c.args.l c.args.lists.now.words.now) ≤ length c.args.out.now =
    omega (arith, c.if-out-letters_in.false, c.letters_in.ensures) in
    let pass : PassesTests c.args.kind c.args.l c.args.lists.now.words.now c.args.lists.now.ones.now c.args.lists.now.twos.now (length c.args.out.now) =
    spans_pass c.requires in-room (told_holds c.spans_hold.ensures c.in_ok-spans_hold.was) in
    passes_as_span pass

pub returns-in_err-spans_hold : goal.returns-in_err-spans_hold
returns-in_err-spans_hold c =
    let in-room : letters_in (format_for c.args.kind c.args.l c.args.lists.now.words.now) ≤ length c.args.out.now =
    omega (arith, c.if-out-letters_in.false, c.letters_in.ensures) in
    let p = err_from_is_err_and c.from_residual.result c.from_residual.ensures.1 in
    rw (p.1, p.2)
    (spans_refused (lists_has_room _ _ _ _ _ _ _ (held_lists c.requires) in-room)
    (told_refused c.spans_hold.ensures c.in_err-spans_hold.was))
