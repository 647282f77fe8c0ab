-- `card_layout::put_head` meets its contract: four bytes, m and the seal are block 0 (`head_made`). Assumes nothing.
use Rattle.card_layout.proofs.CardLaws.{head_made}
use Rattle.card_layout.proofs.put_head.Goals as goal

pub returns : goal.returns
returns c =
    head_made c.args.part.now c.args.f c.requires.0 (rw c.copy_from_slice.ensures.after at c.put_two.ensures) c.seal.ensures
