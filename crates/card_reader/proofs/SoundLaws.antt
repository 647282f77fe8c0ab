-- The reading order, taken apart: it holds exactly where the card is laid out as it must be, and its format and entries hold. Assumes nothing.
use mathlib.Core.Path.{◌≡◌, ◌∙◌}
use mathlib.Core.Bool.{true}
use mathlib.Core.List.{List, ◌++◌}
use Prim.Native.Nat.{ℕ, zero, suc, ◌+◌, ◌-◌, ◌/◌, ◌%◌, ◌≤◌, ◌<◌}
use native.Mathlib.Omega.{arith}
use lib.ListN.{length}
use borrow.Author.Tests.{le-leb, eq-eqb}
use Rattle.base_answers.specs.Answer.{given, sound, first}
use Rattle.base_answers.proofs.Laws.{first_pass, first_last, first_passed, first_holds, first_both, turns_hold, turns_held}
use Rattle.card_block.specs.Block.{block_bytes, block_at, block_tests}
use Rattle.card_entries.specs.Fault.{entry_tests}
use Rattle.card_entries.specs.Hold.{Hold}
use Rattle.card_entries.proofs.HoldLaws.{row_holds, slots_each}
use Rattle.card_layout.specs.Layout.{told_by, per_block, entry_blocks, entries_before, entries_in_block, slot_of, slots_on, slots_spare}
use Rattle.card_layout.proofs.LaidLaws.{Laid}
use Rattle.card_layout.proofs.AgainLaws.{slot_in_block}
use Rattle.card_reader.specs.Reading.{field_tests, head_tests, slots_tests, later_tests, reading_order}
use Rattle.card_reader.proofs.ReadingLaws.{fields_sound, fields_had, size_had}

pub record Reads (limit : ℕ) (card : List ℕ) : Type 0 where
  pub laid : Laid card
  pub hold : Hold limit (told_by card) (slots_on card)

module _ (limit : ℕ) (card : List ℕ) where
  -- ---- what reads holds

  module _ (has : Reads limit card) where
    head_reads : first (head_tests limit card) sound ≡ given sound
    unfolding head_tests
    head_reads =
        let laid = has.laid in
        let there : block_bytes ≤ length card = omega (arith, laid.size) in
        first_pass _ _ _ _ _ (le-leb _ _ there)
        ∙ first_holds _ _ _ (laid.blocks 0 (omega arith))
        ∙ fields_sound limit (block_at card 0) laid.form has.hold.a_kind has.hold.letters has.hold.count laid.head_spare_lem

    -- the entries of block k
    slots_read : (k : ℕ) → 1 ≤ k → k ≤ entry_blocks (told_by card).m
        → first (slots_tests (told_by card) (block_at card k) (entries_before k) (entries_in_block (told_by card).m k)) sound ≡ given sound
    unfolding slots_tests
    slots_read k h g =
        turns_hold _ (entries_in_block (told_by card).m k) 0 (λ j i.
        let here : 0 + j ≡ j = omega arith in
        rw (here, ← slot_in_block card k j h (omega arith)) (slots_each (slot_of card) has.hold (entries_before k + j) (omega arith)))

    later_reads : (k : ℕ) → 1 ≤ k → k ≤ entry_blocks (told_by card).m → first (later_tests (told_by card) card k) sound ≡ given sound
    unfolding later_tests
    later_reads k h g =
        let laid = has.laid in
        first_holds _ _ _ (laid.blocks k g)
        ∙ first_holds _ _ _ (slots_read k h g)
        ∙ first_last _ _ _ _ (laid.later_spare k h g)

    pub reads_holds : first (reading_order limit card) sound ≡ given sound
    unfolding reading_order
    reads_holds =
        first_holds _ _ _ head_reads
        ∙ first_pass _ _ _ _ _ (eq-eqb _ _ has.laid.size)
        ∙ turns_hold (later_tests (told_by card) card) (entry_blocks (told_by card).m) 1 (λ i h. later_reads (1 + i) (omega arith) (omega arith))

  -- ---- what holds reads

  module _ (order : first (reading_order limit card) sound ≡ given sound) where
    abbrev m : ℕ
    m = (told_by card).m

    -- block 0, and the later blocks
    head_order : first (block_tests (block_at card 0) 0 ++ field_tests limit (block_at card 0)) sound ≡ given sound
    unfolding reading_order head_tests
    head_order = (first_passed _ _ _ _ _ _ (first_both _ _ (head_tests limit card) _ order).0).1

    later_order : (k : ℕ) → 1 ≤ k → k ≤ entry_blocks m → first (later_tests (told_by card) card k) sound ≡ given sound
    unfolding reading_order
    later_order k h g =
        let here : 1 + (k - 1) ≡ k = omega arith in
        let laters = (first_passed _ _ _ _ _ _ (first_both _ _ (head_tests limit card) _ order).1).1 in
        rw here at (turns_held (later_tests (told_by card) card) (entry_blocks m) 1 (k - 1) laters (omega arith))

    -- of a later block: 2 and 3; its entries; 8
    module _ (k : ℕ) (h : 1 ≤ k) (g : k ≤ entry_blocks m) where
      block_order : first (block_tests (block_at card k) k) sound ≡ given sound
      unfolding later_tests
      block_order = (first_both _ _ (block_tests (block_at card k) k) _ (later_order k h g)).0

      slots_order : (first (slots_tests (told_by card) (block_at card k) (entries_before k) (entries_in_block m k)) sound ≡ given sound)
          × (slots_spare (block_at card k) (entries_in_block m k) ≡ true)
      unfolding later_tests
      slots_order =
          let rest = (first_both _ _ (block_tests (block_at card k) k) _ (later_order k h g)).1 in
          let slots = slots_tests (told_by card) (block_at card k) (entries_before k) (entries_in_block m k) in
          let parts = first_both _ _ slots _ rest in
          (parts.0, (first_passed _ _ _ _ _ _ parts.1).0)

    entry_order : (e : ℕ) → e < m → first (entry_tests (told_by card) e (slot_of card e)) sound ≡ given sound
    unfolding slots_tests
    entry_order e h =
        let k : ℕ = 1 + e / per_block in
        let j : ℕ = e % per_block in
        let at : entries_before k + j ≡ e = omega arith in
        let here : 0 + j ≡ j = omega arith in
        let slots = (slots_order k (omega arith) (omega arith)).0 in
        let held = turns_held _ (entries_in_block m k) 0 j slots (omega arith) in
        rw at at (rw (← slot_in_block card k j (omega arith) (omega arith)) at (rw here at held))

    blocks_order : (k : ℕ) → k ≤ entry_blocks m → first (block_tests (block_at card k) k) sound ≡ given sound
    blocks_order zero g = (first_both _ _ (block_tests (block_at card 0) 0) _ head_order).0
    blocks_order (suc k) g = block_order (suc k) (omega arith) g

    pub holds_reads : Reads limit card
    holds_reads =
        let fields = fields_had limit (block_at card 0) (first_both _ _ (block_tests (block_at card 0) 0) _ head_order).1 in
        record {
          laid = record {
            size = size_had limit card order;
            blocks = blocks_order;
            form = fields.form;
            head_spare_lem = fields.spare;
            later_spare = λ k h g. (slots_order k h g).1;
          };
          hold = row_holds (told_by card) (slot_of card) fields.a_kind fields.letters fields.count entry_order;
        }
