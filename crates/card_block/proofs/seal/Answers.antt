-- `card_block::seal` meets its contract: the own bytes, zeros, the index and the check are what `sealed` is (`seal_made`). Assumes nothing.
use mathlib.Core.Path.{◌≡◌}
use Prim.Native.Nat.{◌-◌}
use native.Mathlib.Omega.{arith}
use lib.ListN.{length, take, drop, replicate, length-take, length-drop, length-replicate}
use borrow.Rule.Slice.PartMut.{put_mid}
use Rattle.base_lists.specs.Parts.{put_at}
use Rattle.base_lists.proofs.PutLaws.{put_part}
use Rattle.card_block.specs.Block.{index_at}
use Rattle.card_block.proofs.SealingLaws.{seal_made}
use Rattle.card_block.proofs.seal.Goals as goal

pub slice_bounds-bytes_of-end-2 : goal.slice_bounds-bytes_of-end-2
slice_bounds-bytes_of-end-2 c = simp length-take (omega arith)

pub bytes_of-c-requires : goal.bytes_of-c-requires
bytes_of-c-requires c = simp length-take (omega arith)

pub returns : goal.returns
returns c =
    let n = c.args.n in
    let part = c.args.part.now in
    let free : length (take (index_at - n) (drop n part)) ≡ index_at - n = simp (length-take, length-drop) (omega arith) in
    let zeros = rw free at (c.fill.ensures.after (λ y h. h)) in
    let cleared : put_mid n (index_at - n) part c.fill.new.self ≡ put_at (replicate (index_at - n) 0) n part =
    rw zeros (put_part part (replicate (index_at - n) 0) n (index_at - n) (length-replicate _ _)) in
    seal_made _ _ _ c.requires.0 c.requires.1 cleared c.put_two.ensures _ c.bytes_of-c.ensures
