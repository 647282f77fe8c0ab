-- `walk_from` meets its contract, by the laws of `Held` and `RecallLaws`. Assumes nothing.
use Rattle.std.proofs.Common.{◌≡◌, refl, sym, ◌∙◌, arith, ◌<◌, ℕ, ◌+◌, length, get_or, IfSome}
use Rattle.span_memory.specs.Memory.{KeyOf}
use Rattle.span_tables.specs.Prepared.{list_at}
use Rattle.span_memory.specs.declared.tally.Tally.{Tally}
use Rattle.span_walk.specs.declared.Slots.{Slots}
use Rattle.span_walk.specs.declared.Walking.{Walking}
use Rattle.span_walk.specs.Steps.{between, Opened, Next}
use Rattle.span_steps.specs.Steps.{no_word}
use Rattle.span_walk.specs.Going.{Call, Ready}
use Rattle.span_walk.proofs.Held.{able_at, Looping, OneOn, ready_end, held_spent, held_at, held_end, held_over, held_next, held_start}
use Rattle.span_walk.proofs.Held.{open_start, open_next, looping_below, looping_over}
use Rattle.span_walk.proofs.RecallLaws.{told_went, recalls_stored}
use Rattle.span_walk.proofs.StepLaws.{opened_below, ahead_none, slots_below, no_slot, not_some}
use Rattle.span_walk.proofs.+walk_from.Goals as goal
use Rattle.span_walk.proofs.+walk_from.Goals.{in-Some+in_default-recall, in_default}

-- the place is one that is to be filled
inside : {call : Call} → Ready call → (call.at.i ≡ length call.tables.words → ⊥) → call.at.i < length call.tables.words
inside ready h = omega (arith, ready.inside, h)

-- the place after
next_place : {at : Walking} {want : ℕ} {tally : Tally}
    → OneOn at (record { i = at.i + 1; want = want; mask = at.mask; budget = at.budget; tally = tally })
next_place = record { place = refl; mask = refl; budget = refl }

-- slot k is the first that is tried
begins : {call : Call} {lo end k : ℕ} {these : Slots} → Ready call → call.at.i < length call.tables.words
    → lo ≡ get_or call.tables.starts call.at.i 0
    → end ≡ get_or call.tables.starts (call.at.i + 1) 0
    → Opened call.tables.slots call.tables.twos call.notes.marks call.at.i (between lo end) these
    → Next (able_at call) call.tables.words call.tables.slots no_word these k
    → Looping call call.notes call.at.tally k these.hi
begins ready there lo_is end_is open_is next = record {
  held = held_start ready there lo_is end_is open_is next;
  open_slots = open_start ready there lo_is end_is open_is next;
  going = ready.going there;
  inside = there;
}

pub returns-then-i-tables-clause-went_on : goal.returns-then-i-tables-clause-went_on
returns-then-i-tables-clause-went_on t c = ready_end c.requires.ready c.if-i-tables.true

pub due-open-requires-clause-slots_below : goal.due-open-requires-clause-slots_below
due-open-requires-clause-slots_below t c =
    let card = c.requires.ready in
    rw card.twos_all (slots_below card.prepared (inside card c.if-i-tables.false) c.start_of-lo.ensures c.start_of-end.ensures)

pub next-slot-requires-clause-slots_below : goal.next-slot-requires-clause-slots_below
next-slot-requires-clause-slots_below t c =
    let card = c.requires.ready in
    opened_below (slots_below card.prepared (inside card c.if-i-tables.false) c.start_of-lo.ensures c.start_of-end.ensures) c.due-open.ensures

pub returns-then-is_none-clause-went_on : goal.returns-then-is_none-clause-went_on
returns-then-is_none-clause-went_on t c =
    let card = c.requires.ready in
    let start = begins card (inside card c.if-i-tables.false) c.start_of-lo.ensures c.start_of-end.ensures c.due-open.ensures c.next-slot.ensures.next in
    held_end start.held (ahead_none _ _ _ _ _ (no_slot _ _ c.if-is_none.ensures))

pub returns-in-Some-recall-clause-went_on : goal.returns-in-Some-recall-clause-went_on
returns-in-Some-recall-clause-went_on t c =
    let card = c.requires.ready in
    let keyed = rw c.list.ensures at c.in-Some.ensures in
    told_went card (inside card c.if-i-tables.false) c.requires.recalls keyed c.in-Some-recall.ensures c.skipped.ensures.placed_more

pub loop-slot-init : goal.loop-slot-init
loop-slot-init t c =
    let card = c.requires.ready in (
      begins card (inside card c.if-i-tables.false) c.start_of-lo.ensures c.start_of-end.ensures c.due-open.ensures c.next-slot.ensures.next,
      c.next-slot.ensures.in_range,
      c.requires.recalls,
    )

pub returns-then-tally-budget-clause-went_on : goal.returns-then-tally-budget-clause-went_on
returns-then-tally-budget-clause-went_on t c =
    let inv = rw c.in-Some-slot.is at c.loop-slot.invariant in
    held_spent (held_at inv.1 inv.0.held) inv.0.going c.if-tally-budget.true

pub walk_from-went-requires : goal.walk_from-went-requires
walk_from-went-requires t c =
    let inv = rw c.in-Some-slot.is at c.loop-slot.invariant in (
      omega (arith, c.decreases, inv.0.inside),
      (
        looping_below c.requires.ready inv.0 inv.1 c.entry_at-e.ensures c.if-tally-budget.false c.keep_word.ensures next_place refl
            c.placed_at.ensures,
        inv.2,
      ),
    )

pub returns-in_err-tally-clause-went_on : goal.returns-in_err-tally-clause-went_on
returns-in_err-tally-clause-went_on t c =
    let inv = rw c.in-Some-slot.is at c.loop-slot.invariant in
    let turned = looping_over c.requires.ready inv.0 inv.1 c.entry_at-e.ensures c.if-tally-budget.false c.keep_word.ensures next_place refl
    c.placed_at.ensures (rw c.in_err-tally.was at c.walk_from-went.ensures.went_on) in
    rw c.from_residual.ensures (held_over turned (omega arith))

pub returns-then-tally-ge2-clause-went_on : goal.returns-then-tally-ge2-clause-went_on
returns-then-tally-ge2-clause-went_on t c =
    let inv = rw c.in-Some-slot.is at c.loop-slot.invariant in
    let turned = looping_over c.requires.ready inv.0 inv.1 c.entry_at-e.ensures c.if-tally-budget.false c.keep_word.ensures next_place refl
    c.placed_at.ensures (rw c.in_ok-tally.was at c.walk_from-went.ensures.went_on) in
    held_over turned c.if-tally-ge2.true

pub loop-slot-preserved : goal.loop-slot-preserved
loop-slot-preserved t c =
    let inv = rw c.in-Some-slot.is at c.loop-slot.invariant in
    let next = c.next-slot-in-Some-slot.ensures in
    let turned = looping_over c.requires.ready inv.0 inv.1 c.entry_at-e.ensures c.if-tally-budget.false c.keep_word.ensures next_place refl
    c.placed_at.ensures (rw c.in_ok-tally.was at c.walk_from-went.ensures.went_on) in (
      record {
        held = held_next turned next.next;
        open_slots = open_next _ inv.0.open_slots turned.unmarked next.next;
        going = omega (arith, c.if-tally-ge2.false);
        inside = inv.0.inside;
      },
      next.in_range,
      c.walk_from-went.ensures.still_recalls,
    )

pub returns-in-Some-key-clause-went_on : goal.returns-in-Some-key-clause-went_on
returns-in-Some-key-clause-went_on t c =
    held_end c.loop-slot.invariant.0.held (ahead_none _ _ _ _ _ (no_slot _ _ (not_some c.in_default-slot.not-Some)))

pub returns-in-Some-key-clause-still_recalls : goal.returns-in-Some-key-clause-still_recalls
returns-in-Some-key-clause-still_recalls t c =
    let card = c.requires.ready in
    let inv = c.loop-slot.invariant in
    let made : IfSome c.key_of-key.result (KeyOf c.args.marks.now (list_at c.args.tables.now.starts.now c.args.tables.now.slots.now c.args.at.i) c.args.at.i c.args.at.want) =
    rw c.list.ensures at c.key_of-key.ensures in
    let kept : c.match-key.key ≡ c.key_of-key.result =
    elim c.match-key.branch [ in-Some+in_default-recall w ↦ cc w.key-is | in_default w ↦ cc w.key-is ] in
    let keyed = rw (sym kept ∙ c.in-Some-key.is) at made in
    recalls_stored card inv.0.inside inv.2 keyed (held_end inv.0.held (ahead_none _ _ _ _ _ (no_slot _ _ (not_some c.in_default-slot.not-Some))))
    c.remember.ensures

pub returns-in_default-key-clause-went_on : goal.returns-in_default-key-clause-went_on
returns-in_default-key-clause-went_on t c =
    held_end c.loop-slot.invariant.0.held (ahead_none _ _ _ _ _ (no_slot _ _ (not_some c.in_default-slot.not-Some)))
