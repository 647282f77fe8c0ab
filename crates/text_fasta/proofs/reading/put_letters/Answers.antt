-- The goals of `put_letters` that the check leaves open; Invariants.antt says how it is met. Assumes nothing.
use borrow.Author.Rules.{rules}
use mathlib.Core.Path.{◌∙◌}
use Rattle.text_fasta.proofs.LoopLaws.{piece_of, parting_none, parting_room, parting_turn, parting_all}
use Rattle.text_fasta.proofs.reading.put_letters.Goals as goal

pub loop-line-init : goal.loop-line-init
loop-line-init c = (search rules, tt, search rules, rw (c.into_iter-line-iterator.ensures.into_iter_gives, c.chunks-line-items.ensures.rest) (parting_none c.requires.0 c.requires.1))

pub put_text-to-requires : goal.put_text-to-requires
put_text-to-requires c = parting_room c.loop-line.invariant.3 (piece_of c.loop-line.invariant.2 c.in-Some.ensures.steps)

pub loop-line-preserved : goal.loop-line-preserved
loop-line-preserved c =
    let so_far = c.loop-line.invariant in
    let steps = c.in-Some.ensures.steps in
    (search rules, tt, steps.0 ∙ so_far.2, parting_turn so_far.3 (piece_of so_far.2 steps) c.put_text-to.ensures)

pub returns : goal.returns
returns c = parting_all c.loop-line.invariant.3 c.in-None.ensures.steps.1.0
