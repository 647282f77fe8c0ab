-- `card_entries::put_slot` meets its contract: the word, place one and place two are the slot's bytes (`slot_put`). Assumes nothing.
use Rattle.card_entries.proofs.SlotLaws.{slot_put}
use Rattle.card_entries.proofs.put_slot.Goals as goal

pub returns : goal.returns
returns c = slot_put _ _ _ c.requires c.put_four.ensures c.put_two.ensures c.put_two-2.ensures
