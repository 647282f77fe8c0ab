-- `are_line_letters` meets its contract: whether the pieces so far are letters (`all_pieces`). Assumes nothing.
use mathlib.Core.Path.{◌≡◌}
use mathlib.Core.Bool.{◌&&◌}
use lib.ListN.{drop}
use Rattle.base_letters.specs.Letters.{is_letter}
use Rattle.text_fasta.proofs.LeadingLaws.{all_pieces}
use Rattle.text_fasta.proofs.reading.are_line_letters.Given as goal

abbrev pub invariant-loop-piece : goal.invariant-loop-piece
invariant-loop-piece l = (l.all && all_pieces is_letter (drop l.piece-index l.pieces)) ≡ all_pieces is_letter l.pieces
