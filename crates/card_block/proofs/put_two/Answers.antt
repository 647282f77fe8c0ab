-- `card_block::put_two` meets its contract: std's bytes are put, as a part that was lent comes back. Assumes nothing.
use mathlib.Core.Path.{◌≡◌, ◌∙◌}
use Prim.Native.Nat.{◌+◌, ◌-◌}
use native.Mathlib.Omega.{arith}
use Rattle.base_lists.proofs.PutLaws.{put_part}
use Rattle.card_block.specs.Bytes.{two_bytes}
use Rattle.card_block.proofs.ByteLaws.{two_le, length_two}
use Rattle.card_block.proofs.put_two.Goals as goal

pub returns : goal.returns
returns c =
    let bytes = c.copy_from_slice.ensures.after ∙ c.to_le_bytes.ensures ∙ two_le c.args.x c.ranges.x.fits in
    let size : c.args.at + 2 - c.args.at ≡ 2 = omega arith in
    rw (bytes, size) (put_part c.args.part.now (two_bytes c.args.x) c.args.at 2 (length_two _))
