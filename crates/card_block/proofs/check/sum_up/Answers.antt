-- The goals of `card_block::check::sum_up` that the check leaves open; Invariants.antt says how it is met. Assumes nothing.
use native.Mathlib.Omega.{arith}
use mathlib.Core.Path.{refl}
use lib.ListN.{take, length-take}
use Rattle.card_block.specs.Plain.{plain_of}
use Rattle.card_block.proofs.Laws.{take_bytes}
use Rattle.card_block.proofs.PlainLaws.{plain_more, plain_most}
use Rattle.card_block.proofs.check.sum_up.Goals as goal

pub loop-x-init : goal.loop-x-init
unfolding plain_of
loop-x-init c = refl

pub plain_step-s-requires : goal.plain_step-s-requires
plain_step-s-requires c =
    let at = c.loop-x in
    let bytes = c.args.bytes.now in
    rw at.invariant
    (plain_most (take at.x-index bytes) (take_bytes at.x-index bytes (λ j. (c.type_inv.bytes j).fits))
    (simp length-take (omega (arith, c.requires))))

pub loop-x-preserved : goal.loop-x-preserved
loop-x-preserved c = let at = c.loop-x in cc (plain_more c.args.bytes.now at.x-index (omega arith))
