-- The goals of `test_records::hashes::of` that the check leaves open; Invariants.antt says how it is met. Assumes nothing.
use Rattle.std.proofs.Common.{◌∙◌, sym, ap, arith}
use Rattle.std.proofs.lemmas.List.{get_or-map, length-map}
use Rattle.test_records.specs.Hash.{mixed}
use Rattle.test_records.proofs.HashLaws.{so_far_none, so_far_more, so_far_all}
use Rattle.test_records.proofs.hashes.of.Goals as goal

pub loop-x-init : goal.loop-x-init
loop-x-init g c = so_far_none _

pub loop-x-preserved : goal.loop-x-preserved
loop-x-preserved g c =
    let value = g.T.Element.value in
    let x = c.number.ensures ∙ ap value c.x-item.is ∙ sym (get_or-map value c.args.s.now c.loop-x.x-index c.x-item.result 0 c.loop-x-test.true) in
    so_far_more _ c.loop-x.invariant (rw length-map c.loop-x-test.true) (c.mix-h.ensures ∙ ap (mixed c.loop-x.h) x)

pub returns : goal.returns
returns g c = so_far_all c.loop-x.invariant (rw length-map (omega (arith, c.loop-x-test.false)))
