-- Where things stand on a card (01, "The card, block by block").
--   form_of b, format_of b     == the form, and the kind, l and m, that block 0 says
--   told_by card              == the kind, l and m that a card says
--   entry_blocks m            == how many blocks the entries take
--   size_of m                 == the bytes of a card of m entries
--   entries_in_block m k       == how many entries stand in block k, which is not block 0
--   slot_of card e            == the slot of entry e
--   slots_on card             == the card's entries, as they are stored
--   entry_at card e           == entry e
--   entries_on card           == the card's entries, with their allowed places
--   head_spare b              == the bytes of block 0 that must be zero are
--   slots_spare b n           == the bytes of a later block that must be zero are, where it has n entries
-- Assumes nothing.
use Rattle.std.specs.Prelude.{ℕ, ◌+◌, ◌*◌, ◌-◌, ◌/◌, ◌%◌, min, Bool, true, ◌&&◌, List, [], ◌∷◌, map, get_or, take, drop, eqb}
use Rattle.base_lists.specs.Row.{row}
use Rattle.card_block.specs.Bytes.{two_at}
use Rattle.card_block.specs.Block.{block_bytes, block_at, index_at}
use Rattle.card_entries.specs.declared.Format.{Format}
use Rattle.card_entries.specs.declared.Slot.{Slot}
use Rattle.card_entries.specs.declared.Entry.{Entry}
use Rattle.card_entries.specs.Slot.{entry_bytes, slot_at}
use Rattle.card_entries.specs.Entry.{entry_of}

-- "form = 1"
abbrev pub the_form : ℕ
the_form = 1

-- "Block 0: byte 0 form"
unfoldable pub form_of : List ℕ → ℕ
form_of b = get_or b 0 0

-- "byte 1 kind", "byte 2 l", "bytes 4–5 m"
unfoldable pub format_of : List ℕ → Format
format_of b = record { kind = get_or b 1 0; l = get_or b 2 0; m = two_at b 4 }

-- "Admitting a card answers kind, l and m", as its block 0 says them
abbrev pub told_by : List ℕ → Format
told_by card = format_of (block_at card 0)

-- "up to 63 entries"
abbrev pub per_block : ℕ
per_block = 63

-- "ceil(m/63)"
abbrev pub entry_blocks : ℕ → ℕ
entry_blocks m = (m + (per_block - 1)) / per_block

-- "512 × (1 + ceil(m/63))"
abbrev pub size_of : ℕ → ℕ
size_of m = block_bytes * (1 + entry_blocks m)

-- block 1 has the first 63 entries, block 2 the next 63, and so on
abbrev pub entries_before : ℕ → ℕ
entries_before k = per_block * (k - 1)

abbrev pub entries_in_block : ℕ → ℕ → ℕ
entries_in_block m k = min per_block (m - entries_before k)

unfoldable pub slot_of : List ℕ → ℕ → Slot
slot_of card e = slot_at (block_at card (1 + e / per_block)) (e % per_block)

-- all of them, in the order of their indices
abbrev pub slots_on : List ℕ → List Slot
slots_on card = row (slot_of card) 0 (told_by card).m

-- entry e of a card, from 0
unfoldable pub entry_at : List ℕ → ℕ → Entry
entry_at card e = entry_of (told_by card).kind (slot_of card e)

abbrev pub entries_on : List ℕ → List Entry
entries_on card = map (entry_of (told_by card).kind) (slots_on card)

abbrev pub is_zeros : List ℕ → Bool
is_zeros [] = true
is_zeros (x ∷ xs) = eqb x 0 && is_zeros xs

-- "byte 3 zero" and "bytes 6–507 zero"
unfoldable pub head_spare : List ℕ → Bool
head_spare b = eqb (get_or b 3 0) 0 && is_zeros (drop 6 (take index_at b))

-- "Unused entry slots and bytes 504–507 are zero."
unfoldable pub slots_spare : List ℕ → ℕ → Bool
slots_spare b n = is_zeros (drop (entry_bytes * n) (take index_at b))
