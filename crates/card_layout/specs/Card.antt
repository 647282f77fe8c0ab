-- The bytes of a card, by its format and its slots (01, "The card, block by block").
--   head_bytes f            == what block 0 says
--   slots_bytes slots e n   == the slots from entry e on, n of them
--   own_bytes f slots k     == what block k says, before the zeros and the seal that every block has
--   blocks_of f slots n     == the first n blocks
--   card_of f slots         == the card
-- Assumes nothing.
use Rattle.std.specs.Prelude.{ℕ, zero, suc, ◌+◌, List, ◌∷◌}
use Rattle.base_lists.specs.Row.{in_turn}
use Rattle.card_block.specs.Bytes.{two_bytes}
use Rattle.card_block.specs.Sealing.{sealed}
use Rattle.card_entries.specs.declared.Format.{Format}
use Rattle.card_entries.specs.declared.Slot.{Slot}
use Rattle.card_entries.specs.Slot.{slot_bytes}
use Rattle.card_layout.specs.Layout.{the_form, entry_blocks, entries_before, entries_in_block}

-- "Block 0: byte 0 form = 1; byte 1 kind …; byte 2 l; byte 3 zero; bytes 4–5 m"
unfoldable pub head_bytes : Format → List ℕ
head_bytes f = the_form ∷ f.kind ∷ f.l ∷ 0 ∷ two_bytes f.m

unfoldable pub slots_bytes : (ℕ → Slot) → ℕ → ℕ → List ℕ
slots_bytes slots e n = in_turn (λ i. slot_bytes (slots i)) e n

-- "Other blocks: up to 63 entries of 8 bytes from byte 0"
unfoldable pub own_bytes : Format → (ℕ → Slot) → ℕ → List ℕ
own_bytes f slots zero = head_bytes f
own_bytes f slots (suc k) = slots_bytes slots (entries_before (suc k)) (entries_in_block f.m (suc k))

unfoldable pub blocks_of : Format → (ℕ → Slot) → ℕ → List ℕ
blocks_of f slots n = in_turn (λ k. sealed (own_bytes f slots k) k) 0 n

-- "A card is 1 + ceil(m/63) blocks of 512 bytes."
unfoldable pub card_of : Format → (ℕ → Slot) → List ℕ
card_of f slots = blocks_of f slots (1 + entry_blocks f.m)
