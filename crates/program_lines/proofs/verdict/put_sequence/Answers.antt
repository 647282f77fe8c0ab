-- `verdict::put_sequence` meets its contract: the verdict, the letters and the placements, one after the other (`put_then`). Assumes nothing.
use Rattle.base_text.proofs.PuttingLaws.{put_then}
use Rattle.program_lines.proofs.verdict.put_sequence.Goals as goal

pub returns : goal.returns
returns c = put_then c.put_text-letters_at.ensures (put_then c.put_field-n_at.ensures c.put_last.ensures)
