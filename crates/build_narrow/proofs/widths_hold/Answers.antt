-- The goals of `widths_hold` that the check leaves open; Invariants.antt says how it is met. Assumes nothing.
use mathlib.Core.Path.{◌≡◌, sym, ap, ◌∙◌}
use mathlib.Core.Bool.{not}
use mathlib.Core.List.{[]}
use Prim.Native.Nat.{ℕ}
use native.Mathlib.Omega.{arith}
use Rattle.base_answers.specs.Numbers.{Wider}
use Rattle.base_answers.specs.Answer.{sound}
use Rattle.base_answers.proofs.Laws.{first_fail, turn_refused}
use Rattle.base_lists.proofs.TestLaws.{failed}
use Rattle.card_entries.specs.declared.Slot.{Slot}
use Rattle.card_entries.specs.Slot.{slot_from}
use Rattle.span_layers.specs.Narrow.{is_narrow}
use Rattle.build_narrow.proofs.TestLaws.{width_test}
use Rattle.build_narrow.proofs.widths_hold.Goals as goal

pub returns-then-not-is_narrow : goal.returns-then-not-is_narrow
returns-then-not-is_narrow c =
    let slot-at : ℕ → Slot =
    slot_from c.args.lists.now.words.now c.args.lists.now.ones.now c.args.lists.now.twos.now in
    let said : c.is_narrow.result ≡ is_narrow (slot-at c.loop-e.e) =
    rw c.slot.ensures at c.is_narrow.ensures in
    let wrong = first_fail _ Wider c.loop-e.e [] sound (failed said (ap not c.if-not-is_narrow.true)) in
    sym (turn_refused (width_test slot-at) _ _ sound (omega arith) wrong) ∙ c.loop-e.invariant
