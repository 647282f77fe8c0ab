-- `put_power` meets its contract: the text, and the exponent after it (`put_then`). Assumes nothing.
use Rattle.base_text.proofs.PuttingLaws.{put_then}
use Rattle.program_lines.proofs.count.put_power.Goals as goal

pub returns : goal.returns
returns c = put_then c.put_text-k_at.ensures c.put_end.ensures
