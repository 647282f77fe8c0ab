-- `put_field` meets its contract: a space, and the text after it (`put_then`). Assumes nothing.
use Rattle.base_text.proofs.PuttingLaws.{put_then}
use Rattle.base_text.proofs.put_field.Goals as goal

pub returns : goal.returns
returns c = put_then c.put_text-next.ensures c.put_text.ensures
