-- The reading order (01, "What can come back"): "Order on reading: 1; block 0: 2, 3, 4, 5, 6, 7, 8; then 9; then each later block in turn:
-- 2, 3, its entries in turn (10 before 11), 8." It stands here alone; `limit` is the most entries that a card may have.
-- Assumes nothing.
use Rattle.std.specs.Prelude.{ℕ, ◌+◌, List, [], ◌∷◌, ◌++◌, length, leb, eqb}
use Rattle.base_answers.specs.Numbers.{Short, Form, Kind, WordLength, Count, Spare, Size}
use Rattle.base_answers.specs.Answer.{Test, test}
use Rattle.base_lists.specs.Row.{in_turn}
use Rattle.card_block.specs.Block.{block_bytes, block_at, block_tests}
use Rattle.card_entries.specs.declared.Format.{Format}
use Rattle.card_entries.specs.Slot.{slot_at}
use Rattle.card_entries.specs.Fault.{least_length, most_length, entry_tests}
use Rattle.card_layout.specs.Layout.{form_of, format_of, told_by, entry_blocks, size_of, entries_before, entries_in_block, head_spare, slots_spare, the_form}
use Rattle.card_entries.specs.Bounds.{least_entries, is_within, is_kind}

-- block 0: 4, 5, 6, 7, 8
unfoldable pub field_tests : ℕ → List ℕ → List Test
field_tests limit b =
    test (eqb (form_of b) the_form) Form 0
    ∷ test (is_kind (format_of b).kind) Kind 0
    ∷ test (is_within least_length most_length (format_of b).l) WordLength 0
    ∷ test (is_within least_entries limit (format_of b).m) Count 0
    ∷ test (head_spare b) Spare 0
    ∷ []

-- 1; block 0: 2, 3, 4, 5, 6, 7, 8
unfoldable pub head_tests : ℕ → List ℕ → List Test
head_tests limit card =
    test (leb block_bytes (length card)) Short 0 ∷ (block_tests (block_at card 0) 0 ++ field_tests limit (block_at card 0))

-- the entries of the block b in turn, n of them, of which the first is entry e of the card
unfoldable pub slots_tests : Format → List ℕ → ℕ → ℕ → List Test
slots_tests f b e n = in_turn (λ j. entry_tests f (e + j) (slot_at b j)) 0 n

-- block k, which is not block 0: 2, 3, its entries in turn, 8
unfoldable pub later_tests : Format → List ℕ → ℕ → List Test
later_tests f card k =
    block_tests (block_at card k) k
    ++ (slots_tests f (block_at card k) (entries_before k) (entries_in_block f.m k)
    ++ (test (slots_spare (block_at card k) (entries_in_block f.m k)) Spare k ∷ []))

unfoldable pub reading_order : ℕ → List ℕ → List Test
reading_order limit card =
    head_tests limit card
    ++ (test (eqb (length card) (size_of (told_by card).m)) Size 0
    ∷ in_turn (later_tests (told_by card) card) 1 (entry_blocks (told_by card).m))
