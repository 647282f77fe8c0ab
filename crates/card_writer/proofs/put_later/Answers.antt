-- `card_writer::put_later` meets its contract: the slots, and the seal after them (`later_made`). Assumes nothing.
use Rattle.card_writer.proofs.PuttingLaws.{later_made}
use Rattle.card_writer.proofs.put_later.Goals as goal

pub returns : goal.returns
returns c =
    later_made _ _ _ _ c.entries_before.ensures c.entries_in_block-n.ensures c.put_slots.ensures c.seal.ensures
