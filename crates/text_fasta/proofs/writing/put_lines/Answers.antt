-- The goals of `put_lines` that the check leaves open; Invariants.antt says how it is met. Assumes nothing.
use borrow.Author.Rules.{rules}
use mathlib.Core.Path.{◌∙◌}
use Rattle.text_fasta.proofs.LoopLaws.{piece_of, lining_none, lining_room, lining_turn, lining_all}
use Rattle.text_fasta.proofs.writing.put_lines.Goals as goal

pub loop-line-init : goal.loop-line-init
loop-line-init c = (search rules, tt, search rules, rw (c.into_iter-line-iterator.ensures.into_iter_gives, c.chunks-line-items.ensures.rest) (lining_none c.requires))

pub put_line-to-requires : goal.put_line-to-requires
put_line-to-requires c = lining_room c.loop-line.invariant.3 (piece_of c.loop-line.invariant.2 c.in-Some.ensures.steps)

pub loop-line-preserved : goal.loop-line-preserved
loop-line-preserved c =
    let so_far = c.loop-line.invariant in
    let steps = c.in-Some.ensures.steps in
    (search rules, tt, steps.0 ∙ so_far.2, lining_turn so_far.3 (piece_of so_far.2 steps) c.put_line-to.ensures)

pub returns : goal.returns
returns c = lining_all c.loop-line.invariant.3 c.in-None.ensures.steps.1.0
