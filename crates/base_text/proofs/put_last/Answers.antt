-- `put_last` meets its contract. Assumes nothing.
use Rattle.base_text.proofs.PuttingLaws.{put_then}
use Rattle.base_text.proofs.put_last.Goals as goal

pub returns : goal.returns
returns c = put_then c.put_text-next.ensures c.put_end.ensures
