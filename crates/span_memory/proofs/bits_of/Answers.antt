-- The goals of `bits_of` that the check leaves open; Invariants.antt says how it is met. Assumes nothing.
use Rattle.base_lists.proofs.FillingLaws.{get_d_in}
use Rattle.span_memory.proofs.KeyLaws.{telling_none, telling_all}
use Rattle.span_memory.proofs.bits_of.Goals as goal

pub loop-e-init : goal.loop-e-init
loop-e-init c = telling_none _ _

pub mark_of-requires : goal.mark_of-requires
mark_of-requires c = c.requires.below.each _ (get_d_in _ c.loop-e.e-index c.loop-e-test.true)

pub returns : goal.returns
returns c = telling_all _ _ c.loop-e.invariant c.requires.list_len_bound c.loop-e-test.false
