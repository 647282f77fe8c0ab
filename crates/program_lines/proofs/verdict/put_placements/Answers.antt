-- `verdict::put_placements` meets its contract: the verdict, and the placements after it (`put_then`). Assumes nothing.
use Rattle.base_text.proofs.PuttingLaws.{put_then}
use Rattle.program_lines.proofs.verdict.put_placements.Goals as goal

pub returns : goal.returns
returns c = put_then c.put_text-n_at.ensures c.put_last.ensures
