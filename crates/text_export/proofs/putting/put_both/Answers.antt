-- `put_both` meets its contract: part after part (`put_then`). Assumes nothing.
use mathlib.Core.Path.{ap}
use Rattle.base_text.specs.Text.{decimal}
use Rattle.base_text.proofs.PuttingLaws.{put_then, put_as}
use Rattle.text_export.proofs.putting.put_both.Goals as goal

pub returns : goal.returns
returns c =
    let one = put_as c.put_digits-mark_at.ensures (ap decimal c.from.ensures) in
    let other = put_as c.put_digits.ensures (ap decimal c.from-2.ensures) in
    put_then one (put_then c.put_text-q_at.ensures other)
