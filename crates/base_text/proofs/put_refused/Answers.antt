-- `put_refused` meets its contract: the name, and the two numbers after it (`put_then`). Assumes nothing.
use Rattle.base_text.proofs.PuttingLaws.{put_then}
use Rattle.base_text.proofs.put_refused.Goals as goal

pub returns : goal.returns
returns c = put_then c.put_text-number_at.ensures c.put_two.ensures.put
