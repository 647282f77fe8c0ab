-- The goals of `choose` that the check leaves open; Invariants.antt says how it is met. Assumes nothing.
use mathlib.Core.Path.{◌≡◌, sym, ◌∙◌}
use Prim.Native.Nat.{◌-◌}
use native.Mathlib.Omega.{arith}
use lib.ListN.{length}
use Rattle.span_narrow.proofs.BackLaws.{from_more, next_back, none_back}
use Rattle.span_narrow.proofs.ChooseLaws.{looked_none, looked_skip, looked_more, looked_all}
use Rattle.span_narrow.proofs.digits.choose.Goals as goal
use Rattle.span_narrow.proofs.digits.choose.Goals.{then-is_picked, else-is_picked}

pub loop-e-init : goal.loop-e-init
loop-e-init c =
    let all : length c.args.list.now - 0 ≡ length c.args.list.now = omega arith in rw all (looked_none _ _ _ _ _)

pub bounds-words-e : goal.bounds-words-e
bounds-words-e c =
    let own = next_back c.args.list.now _ c.into_iter-e-iterator.result (cc) _ c.loop-e.yielded_by _ _ c.next.ensures.steps c.in-Some.is in
    rw c.from-e.ensures (c.requires.each _ own.2)

pub loop-e-preserved : goal.loop-e-preserved
loop-e-preserved c =
    let own = next_back c.args.list.now _ c.into_iter-e-iterator.result (cc) _ c.loop-e.yielded_by _ _ c.next.ensures.steps c.in-Some.is in
    let is = rw (c.from-e.ensures, own.1) at (sym c.is_picked.ensures) in
    let inv = c.loop-e.invariant in
    let more = from_more c.args.list.now c.loop-e.yielded c.in-Some.e in
    elim c.if-is_picked.branch [
      | then-is_picked w ↦ rw (more, w.chosen-is, w.is_some.ensures, c.from-e.ensures, own.1)
          (looked_more _ _ _ _ _ inv own.0 (is ∙ w.if-is_picked.true))
      | else-is_picked w ↦ rw (more, w.chosen-is) (looked_skip _ _ _ _ _ inv own.0 (is ∙ w.if-is_picked.false))
    ]

pub returns : goal.returns
returns c =
    looked_all _ _ _ _ _ c.loop-e.invariant
    (none_back c.args.list.now _ c.into_iter-e-iterator.result (cc) _ c.loop-e.yielded_by _ _ c.next.ensures.steps c.in-None.is)
