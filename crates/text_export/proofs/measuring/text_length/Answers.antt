-- The goals of `text_length` that the check leaves open; Invariants.antt says how it is met. Assumes nothing.
use mathlib.Core.Path.{◌≡◌, sym, ap, ◌∙◌}
use mathlib.Core.List.{List}
use Prim.Native.Nat.{ℕ, ◌≤◌, ◌<◌}
use native.Mathlib.Omega.{arith}
use lib.ListN.{length}
use Rattle.base_answers.specs.Answer.{given}
use Rattle.card_entries.specs.declared.Format.{Format}
use Rattle.card_entries.specs.declared.Slot.{Slot}
use Rattle.card_entries.specs.Bounds.{most_entries}
use Rattle.card_layout.specs.Layout.{slot_of}
use Rattle.card_reader.specs.Fetching.{admission}
use Rattle.text_probes.specs.Line.{line_text, most_line}
use Rattle.text_export.specs.Exporting.{line_for}
use Rattle.text_export.proofs.LoopLaws.{line_at, counted_none, counted_turn}
use Rattle.text_export.proofs.ExportLaws.{slot_there, its_bounds, its_small, its_short, list_is}
use Rattle.text_export.proofs.measuring.text_length.Goals as goal

pub loop-e-init : goal.loop-e-init
loop-e-init c = counted_none _ _

pub slot_of-requires : goal.slot_of-requires
slot_of-requires c = slot_there _ c.requires _ c.loop-e-test.true

pub line_length-n-requires : goal.line_length-n-requires
line_length-n-requires c =
    let card = c.args.card.now in
    ((its_bounds card c.requires).1, rw (sym c.slot_of.ensures) at (its_small card c.requires _ c.loop-e-test.true))

-- the next line is as long as it is counted, and no longer than any
next : (card : List ℕ) {f : Format} {e k : ℕ} {s : Slot} → admission most_entries card ≡ given f → e < f.m
    → k ≡ length (line_text (line_for f.kind f.l s)) → s ≡ slot_of card e → (k ≡ length (line_text (line_at f card e))) × (k ≤ most_line)
next card admitted h is here =
    let line = rw here at is in
    (line, omega (arith, line, its_short card admitted _ h))

pub overflow_add-n : goal.overflow_add-n
overflow_add-n c =
    let here = c.loop-e-test.true in
    let line = next c.args.card.now c.requires here c.line_length-n.ensures c.slot_of.ensures in
    omega (arith, c.loop-e.invariant.few, line.1, here, (its_bounds c.args.card.now c.requires).2)

pub loop-e-preserved : goal.loop-e-preserved
loop-e-preserved c =
    let line = next c.args.card.now c.requires c.loop-e-test.true c.line_length-n.ensures c.slot_of.ensures in
    counted_turn _ _ c.loop-e.invariant line.0 line.1

pub returns : goal.returns
returns c =
    let same : c.loop-e.e ≡ c.args.f.m = omega (arith, c.loop-e.auto.e-end, c.loop-e-test.false) in
    (rw same at c.loop-e.invariant).counts ∙ sym (ap length (list_is c.args.card.now c.requires))
