-- The goals of `put_lines` that the check leaves open; Invariants.antt says how it is met. Assumes nothing.
use mathlib.Core.Path.{◌≡◌, sym, ap, ◌∙◌}
use native.Mathlib.Omega.{arith}
use lib.ListN.{length}
use Rattle.card_entries.specs.declared.Slot.{Slot}
use Rattle.base_text.proofs.PuttingLaws.{put_as}
use Rattle.text_probes.specs.Line.{line_text}
use Rattle.text_export.specs.Exporting.{line_for}
use Rattle.text_export.proofs.LoopLaws.{lines_none, lines_turn, lines_room, lines_all}
use Rattle.text_export.proofs.ExportLaws.{slot_there, its_bounds, its_small, list_is}
use Rattle.text_export.proofs.putting.put_lines.Goals as goal

pub loop-e-init : goal.loop-e-init
loop-e-init c = lines_none c.args.f c.args.card.now _

pub slot_of-requires : goal.slot_of-requires
slot_of-requires c = slot_there _ c.requires.0 _ c.loop-e-test.true

pub put_line-at-requires : goal.put_line-at-requires
put_line-at-requires c =
    let card = c.args.card.now in
    let bounds = its_bounds card c.requires.0 in
    let here = c.loop-e-test.true in
    let whole = c.requires.1 ∙ ap length (list_is card c.requires.0) in
    rw c.slot_of.ensures (
    record {
      fine = (bounds.0, bounds.1, its_small card c.requires.0 _ here);
      room = lines_room c.args.f card c.loop-e.e c.loop-e.invariant here whole;
    }
    )

pub loop-e-preserved : goal.loop-e-preserved
loop-e-preserved c =
    let f = c.args.f in
    lines_turn f c.args.card.now c.loop-e.e c.loop-e.invariant
    (put_as c.put_line-at.ensures (ap (λ (s : Slot). line_text (line_for f.kind f.l s)) c.slot_of.ensures))

pub returns : goal.returns
returns c =
    let list = list_is c.args.card.now c.requires.0 in
    let same : c.loop-e.e ≡ c.args.f.m = omega (arith, c.loop-e.auto.e-end, c.loop-e-test.false) in
    lines_all c.args.f c.args.card.now (rw same at c.loop-e.invariant) (c.requires.1 ∙ ap length list) ∙ sym list
