-- `put_digit` meets its contract. Assumes nothing.
use Rattle.base_text.proofs.PuttingLaws.{put_byte}
use Rattle.base_text.proofs.put_digit.Goals as goal

pub returns : goal.returns
returns c = put_byte _ _ _ c.requires.1
