-- The goals of `are_line_letters` that the check leaves open; Invariants.antt says how it is met. Assumes nothing.
use mathlib.Core.Path.{ap, ◌∙◌}
use Prim.Native.Nat.{◌/◌}
use lib.ListN.{length}
use Rattle.base_letters.specs.Letters.{is_letter}
use Rattle.text_fasta.specs.Record.{are_all}
use Rattle.text_fasta.proofs.LeadingLaws.{all_pieces, pieces_turn, pieces_all, pieces_join}
use Rattle.text_fasta.proofs.reading.are_line_letters.Goals as goal

pub loop-piece-preserved : goal.loop-piece-preserved
loop-piece-preserved c = pieces_turn is_letter _ _ c.loop-piece.invariant c.loop-piece-test.true c.are_letters-all.ensures

pub returns : goal.returns
returns c =
    let line = c.args.line.now in
    let all = pieces_all is_letter _ _ c.loop-piece.invariant c.loop-piece-test.false ∙ ap (all_pieces is_letter) c.as_chunks.ensures.front in
    let rest = c.are_letters.ensures ∙ ap (are_all is_letter) c.as_chunks.ensures.back in
    rw (all, rest) (pieces_join is_letter 20 (length line / 20) line)
