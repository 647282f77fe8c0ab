-- The laws of writing slots and blocks one after the other that this crate's proofs cite. No contract cites this file. Assumes nothing.
use mathlib.Core.Path.{◌≡◌, refl, sym, ap, ◌∙◌}
use mathlib.Core.List.{List, ◌++◌}
use Prim.Native.Nat.{ℕ, ◌+◌, ◌*◌, ◌-◌, ◌≤◌, ◌<◌}
use native.Mathlib.Omega.{arith}
use lib.ListN.{length, take, drop}
use lib.Seq.{take_at, drop_at}
use borrow.Rule.Slice.PartMut.{put_mid}
use Rattle.base_lists.specs.Parts.{put_at}
use Rattle.card_block.specs.Block.{block_bytes}
use Rattle.card_block.specs.Sealing.{sealed}
use Rattle.base_lists.proofs.PutLaws.{put_none, put_on, put_part, put_start, put_length, put_whole}
use Rattle.card_entries.specs.declared.Format.{Format}
use Rattle.card_entries.specs.declared.Slot.{Slot}
use Rattle.card_entries.specs.Slot.{entry_bytes, slot_bytes}
use Rattle.card_entries.proofs.SlotLaws.{length_slot}
use Rattle.card_layout.specs.Layout.{entry_blocks, entries_before, entries_in_block}
use Rattle.card_layout.specs.Card.{head_bytes, slots_bytes, blocks_of, card_of}
use Rattle.card_layout.proofs.CardLaws.{length_slots, length_later, slots_none, slots_more, length_blocks, blocks_one, blocks_more, blocks_card}

-- ---- slots

-- j of n slots, from entry e on, stand in the part
pub record Slotted (before : List ℕ) (slots : ℕ → Slot) (e n j : ℕ) (part : List ℕ) : Type 0 where
  pub within : j ≤ n
  pub room : entry_bytes * n ≤ length before
  pub stands : part ≡ put_at (slots_bytes slots e j) 0 before

module _ (before : List ℕ) (slots : ℕ → Slot) (e n : ℕ) where
  pub slotted_none : entry_bytes * n ≤ length before → Slotted before slots e n 0 before
  slotted_none h =
      let none = ap (λ (xs : List ℕ). put_at xs 0 before) (slots_none slots e) in
      record { within = omega arith; room = h; stands = sym (none ∙ put_none before 0) }

  module _ {j : ℕ} {part : List ℕ} (so_far : Slotted before slots e n j part) where
    pub slotted_length : length part ≡ length before
    slotted_length =
        rw so_far.stands
        (put_length before (slots_bytes slots e j) 0 (omega (arith, length_slots slots e j, so_far.within, so_far.room)))

    pub slotted_turn : {after : List ℕ} (s : Slot) → j < n → s ≡ slots (e + j) → after ≡ put_at (slot_bytes s) (entry_bytes * j) part
        → Slotted before slots e n (j + 1) after
    slotted_turn {after} s h es put =
        let bytes = slots_bytes slots e j in
        let more : after ≡ put_at (bytes ++ slot_bytes s) 0 before =
        put
        ∙ put_on before 0 bytes so_far.stands (omega (arith, length_slots slots e j)) (slot_bytes s)
        (omega (arith, length_slot s, so_far.room)) in
        let same : bytes ++ slot_bytes s ≡ slots_bytes slots e (j + 1) =
        ap (λ (t : Slot). bytes ++ slot_bytes t) es ∙ sym (slots_more slots e j) in
        record { within = omega arith; room = so_far.room; stands = more ∙ ap (λ (xs : List ℕ). put_at xs 0 before) same }

    pub slotted_all : n ≤ j → part ≡ put_at (slots_bytes slots e n) 0 before
    slotted_all h = let all : n ≡ j = omega (arith, so_far.within) in rw all so_far.stands

-- ---- a later block

-- slots, and the seal after them
pub later_made : (before : List ℕ) (slots : ℕ → Slot) (m k : ℕ) {e n : ℕ} {part block : List ℕ} → e ≡ entries_before k → n ≡ entries_in_block m k
    → part ≡ put_at (slots_bytes slots e n) 0 before → block ≡ sealed (take (entry_bytes * n) part) k
    → block ≡ sealed (slots_bytes slots (entries_before k) (entries_in_block m k)) k
later_made before slots m k {e} {n} {part} ee en put made =
    let bytes = slots_bytes slots e n in
    let front : take (entry_bytes * n) part ≡ bytes =
    ap (take (entry_bytes * n)) (put ∙ put_start before bytes) ∙ take_at bytes _ (entry_bytes * n) (length_slots slots e n) in
    let same : bytes ≡ slots_bytes slots (entries_before k) (entries_in_block m k) = rw (ee, en) in
    made ∙ ap (λ (own : List ℕ). sealed own k) (front ∙ same)

-- ---- blocks

-- the blocks before block k stand in the output
pub record Blocked (before : List ℕ) (f : Format) (slots : ℕ → Slot) (k : ℕ) (out : List ℕ) : Type 0 where
  pub begun : 1 ≤ k
  pub within : k ≤ entry_blocks f.m + 1
  pub size : length before ≡ block_bytes * (entry_blocks f.m + 1)
  pub stands : out ≡ put_at (blocks_of f slots k) 0 before

module _ (before : List ℕ) (f : Format) (slots : ℕ → Slot) where
  -- block 0 stands, and the loop begins
  pub blocked_one : (head rest : List ℕ) → before ≡ head ++ rest → length before ≡ block_bytes * (entry_blocks f.m + 1) → head ≡ sealed (head_bytes f) 0
      → Blocked before f slots 1 before
  blocked_one head rest split size e =
      let first : head ≡ blocks_of f slots 1 = e ∙ sym (blocks_one f slots) in
      let again : drop (length head) before ≡ rest = ap (drop (length head)) split ∙ drop_at head rest (length head) refl in
      record {
        begun = omega arith;
        within = omega arith;
        size = size;
        stands =
            split
            ∙ ap (λ (xs : List ℕ). head ++ xs) (sym again)
            ∙ ap (λ (xs : List ℕ). xs ++ drop (length xs) before) first
            ∙ sym (put_start before (blocks_of f slots 1));
      }

  module _ {k : ℕ} {out : List ℕ} (so_far : Blocked before f slots k out) where
    pub blocked_length : length out ≡ length before
    blocked_length =
        rw so_far.stands
        (put_length before (blocks_of f slots k) 0 (omega (arith, length_blocks f slots k, so_far.within, so_far.size)))

    -- block k, as the part that was lent for it comes back
    pub blocked_turn : {block : List ℕ} → k ≤ entry_blocks f.m → block ≡ sealed (slots_bytes slots (entries_before k) (entries_in_block f.m k)) k
        → Blocked before f slots (k + 1) (put_mid (block_bytes * k) (block_bytes * k + block_bytes - block_bytes * k) out block)
    blocked_turn {block} h made =
        let n : ℕ = block_bytes * k + block_bytes - block_bytes * k in
        let blocks = blocks_of f slots k in
        let whole : length block ≡ block_bytes =
        ap length made ∙ length_later slots (entries_before k) (entries_in_block f.m k) k (omega arith) in
        let same : blocks ++ block ≡ blocks_of f slots (k + 1) =
        ap (λ (xs : List ℕ). blocks ++ xs) made ∙ sym (blocks_more f slots k so_far.begun) in
        record {
          begun = omega (arith, so_far.begun);
          within = omega arith;
          size = so_far.size;
          stands =
              put_part out block (block_bytes * k) n (omega (arith, whole))
              ∙ put_on before 0 blocks so_far.stands (omega (arith, length_blocks f slots k)) block (omega (arith, so_far.size))
              ∙ ap (λ (xs : List ℕ). put_at xs 0 before) same;
        }

    pub blocked_all : entry_blocks f.m < k → out ≡ card_of f slots
    blocked_all h =
        let all : k ≡ 1 + entry_blocks f.m = omega (arith, so_far.within) in
        so_far.stands
        ∙ put_whole before (blocks_of f slots k) (omega (arith, length_blocks f slots k, so_far.size))
        ∙ blocks_card f slots k all
