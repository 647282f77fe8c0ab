-- How an entry is stored (01, "The card, block by block"): "word (4 bytes), place one (2), place two (2)".
--   slot_at b j      == the slot j of the block b, from 0
--   slot_bytes s     == the bytes of the slot s
--   slot_from words ones twos e    == entry e of three lists, as it is stored
--   entries_in words ones twos     == the entries of the lists, in the order of their indices
-- Assumes nothing.
use Rattle.std.specs.Prelude.{ℕ, ◌+◌, ◌*◌, List, ◌++◌, length, get_or}
use Rattle.base_lists.specs.Row.{row}
use Rattle.card_block.specs.Bytes.{two_at, four_at, two_bytes, four_bytes}
use Rattle.card_entries.specs.declared.Slot.{Slot}

-- "entries of 8 bytes from byte 0"
abbrev pub entry_bytes : ℕ
entry_bytes = 8

unfoldable pub slot_at : List ℕ → ℕ → Slot
slot_at b j =
    record {
      word = four_at b (entry_bytes * j);
      one = two_at b (entry_bytes * j + 4);
      two = two_at b (entry_bytes * j + 6);
    }

unfoldable pub slot_bytes : Slot → List ℕ
slot_bytes s = four_bytes s.word ++ (two_bytes s.one ++ two_bytes s.two)

unfoldable pub slot_from : List ℕ → List ℕ → List ℕ → ℕ → Slot
slot_from words ones twos e = record { word = get_or words e 0; one = get_or ones e 0; two = get_or twos e 0 }

abbrev pub entries_in : List ℕ → List ℕ → List ℕ → List Slot
entries_in words ones twos = row (slot_from words ones twos) 0 (length words)
