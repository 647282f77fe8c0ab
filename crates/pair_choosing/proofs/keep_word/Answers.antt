-- The goals of `pair_choosing::keep_word` that the check leaves open; Invariants.antt says how it is met. Assumes nothing.
use mathlib.Core.Path.{refl}
use Rattle.std.proofs.lemmas.Result.{err_from_is_err_and}
use Rattle.pair_following.proofs.Slots.{list_start, list_none, list_entry, list_more, list_next}
use Rattle.pair_choosing.proofs.Choosing.{dropping_start, dropping_more, dropping_stops}
use Rattle.pair_choosing.proofs.keep_word.Goals as goal

pub loop-k-init : goal.loop-k-init
loop-k-init c =
    let pre = c.requires in
    let none = list_none pre.ready.links pre.t_bound c.args.pairs.now.mask in
    rw c.last_slot-k.ensures (list_start pre.ready.links pre.t_bound, dropping_start pre.closed pre.ready.shape none)

pub loop-k-preserved : goal.loop-k-preserved
loop-k-preserved c =
    let pre = c.requires in
    let inv = c.loop-k.invariant in
    let more = c.loop-k-test.true in
    let mask = c.args.pairs.now.mask in
    rw c.slot_before-k.ensures (
      list_more pre.ready.links inv.0 more,
      dropping_more pre.t_bound (list_entry pre.ready.links inv.0 more) (list_next pre.ready.links inv.0 more mask) inv.1
          c.in_ok-send_off.ensures refl,
    )

pub returns-in_err-send_off : goal.returns-in_err-send_off
returns-in_err-send_off c =
    let pre = c.requires in
    let p = err_from_is_err_and c.from_residual.result c.from_residual.ensures.1 in
    let inv = c.loop-k.invariant in
    let more = c.loop-k-test.true in
    rw p.1
    (dropping_stops pre.t_bound (list_entry pre.ready.links inv.0 more) (list_next pre.ready.links inv.0 more c.args.pairs.now.mask) inv.1
    c.in_err-send_off.ensures refl)
