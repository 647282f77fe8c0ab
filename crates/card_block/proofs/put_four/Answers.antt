-- `card_block::put_four` meets its contract: std's bytes are put, as a part that was lent comes back. Assumes nothing.
use mathlib.Core.Path.{◌≡◌, ◌∙◌}
use Prim.Native.Nat.{◌+◌, ◌-◌}
use native.Mathlib.Omega.{arith}
use Rattle.base_lists.proofs.PutLaws.{put_part}
use Rattle.card_block.specs.Bytes.{four_bytes}
use Rattle.card_block.proofs.ByteLaws.{four_le, length_four}
use Rattle.card_block.proofs.put_four.Goals as goal

pub returns : goal.returns
returns c =
    let bytes = c.copy_from_slice.ensures.after ∙ c.to_le_bytes.ensures ∙ four_le c.args.x c.ranges.x.fits in
    let size : c.args.at + 4 - c.args.at ≡ 4 = omega arith in
    rw (bytes, size) (put_part c.args.part.now (four_bytes c.args.x) c.args.at 4 (length_four _))
