-- The blocks of a card that is sound are what sealing makes of what they say: so a card is `card_of` of its format and its slots.
-- Assumes nothing.
use mathlib.Core.Path.{◌≡◌, sym, ap, ◌∙◌}
use mathlib.Core.Bool.{true}
use mathlib.Core.List.{List, ◌∷◌, ◌++◌, append_assoc}
use Prim.Native.Nat.{ℕ, zero, suc, ◌+◌, ◌*◌, ◌-◌, ◌/◌, ◌%◌, ◌≤◌, ◌<◌}
use native.Mathlib.Omega.{arith}
use lib.ListN.{length, get_or, take, drop, replicate, length-take, length-drop}
use lib.Dec.{eqb}
use borrow.Author.Tests.{eqb-true}
use Rattle.base_answers.specs.Answer.{given, sound, first}
use Rattle.base_lists.proofs.RowLaws.{turns_same}
use Rattle.base_lists.proofs.TestLaws.{both}
use Rattle.card_block.specs.Bytes.{AreBytes}
use Rattle.card_block.specs.Block.{block_bytes, block_at, block_tests, index_at}
use Rattle.card_block.specs.Sealing.{sealed}
use Rattle.card_block.proofs.Laws.{block_bytes_lem, block_length, blocks_all}
use Rattle.card_block.proofs.ByteLaws.{two_again, drop_two}
use Rattle.card_block.proofs.SealingLaws.{sealed_again}
use Rattle.card_entries.specs.Slot.{entry_bytes, slot_at, slot_bytes}
use Rattle.card_entries.proofs.SlotLaws.{slot_again}
use Rattle.card_layout.specs.Layout.{the_form, form_of, format_of, told_by, per_block, entry_blocks}
use Rattle.card_layout.specs.Layout.{entries_before, entries_in_block, slot_of, is_zeros, head_spare, slots_spare}
use Rattle.card_layout.specs.Card.{head_bytes, slots_bytes, own_bytes, blocks_of, card_of}
use Rattle.card_layout.proofs.ZerosLaws.{are_zeros}
use Rattle.card_layout.proofs.LaidLaws.{Laid}
use Rattle.card_layout.proofs.CardLaws.{length_head, length_slots, slots_none, slots_first, slots_same, own_head, own_later}

-- zeros up to the index
spare_zeros : (b : List ℕ) (n : ℕ) → length b ≡ block_bytes → is_zeros (drop n (take index_at b)) ≡ true
    → drop n (take index_at b) ≡ replicate (index_at - n) 0
spare_zeros b n whole h =
    let ends : length (drop n (take index_at b)) ≡ index_at - n = omega (arith, length-drop n (take index_at b), length-take index_at b) in
    rw ends at (are_zeros (drop n (take index_at b)) h)

-- ---- a block that holds, all of whose bytes are

module _ (b : List ℕ) (k : ℕ) (whole : length b ≡ block_bytes) (held : first (block_tests b k) sound ≡ given sound) (bytes : AreBytes b) where
  -- what block 0 says are its first bytes
  head_stands : form_of b ≡ the_form → get_or b 3 0 ≡ 0 → head_bytes (format_of b) ++ drop 6 b ≡ b
  unfolding form_of format_of head_bytes
  head_stands form third =
      let byte : ℕ → ℕ = λ i. get_or b i 0 in
      ap (λ (xs : List ℕ). the_form ∷ byte 1 ∷ byte 2 ∷ 0 ∷ xs) (two_again b 4 bytes (omega arith))
      ∙ ap (λ (x : ℕ). the_form ∷ byte 1 ∷ byte 2 ∷ x ∷ drop 4 b) (sym third)
      ∙ ap (λ (x : ℕ). x ∷ byte 1 ∷ byte 2 ∷ byte 3 ∷ drop 4 b) (sym form)
      ∙ sym (drop_two b 0 (omega arith) ∙ ap (λ (xs : List ℕ). byte 0 ∷ byte 1 ∷ xs) (drop_two b 2 (omega arith)))

  pub head_again : form_of b ≡ the_form → head_spare b ≡ true → sealed (head_bytes (format_of b)) k ≡ b
  unfolding head_spare
  head_again form spare =
      let h = both (eqb (get_or b 3 0) 0) (is_zeros (drop 6 (take index_at b))) spare in
      let six = length_head (format_of b) in
      let zeros = spare_zeros b 6 whole h.1 in
      let stands = head_stands form (eqb-true (get_or b 3 0) 0 h.0) in
      sealed_again b k whole held bytes (head_bytes (format_of b)) (omega (arith, six)) (rw six stands) (rw six zeros)

  -- the slots of a later block are its first bytes
  slots_stand : (n j : ℕ) → entry_bytes * (j + n) ≤ length b
      → slots_bytes (slot_at b) j n ++ drop (entry_bytes * (j + n)) b ≡ drop (entry_bytes * j) b
  slots_stand zero j h = let z : j + 0 ≡ j = omega arith in rw (slots_none (slot_at b) j, z)
  slots_stand (suc n) j h =
      let ends : j + suc n ≡ suc j + n = omega arith in
      let next : entry_bytes * suc j ≡ entry_bytes * j + entry_bytes = omega arith in
      let slot = slot_bytes (slot_at b j) in
      let rest = slots_bytes (slot_at b) (suc j) n in
      let later : rest ++ drop (entry_bytes * (j + suc n)) b ≡ drop (entry_bytes * j + entry_bytes) b =
      rw (ends, ← next) (slots_stand n (suc j) (omega arith)) in
      ap (λ (xs : List ℕ). xs ++ drop (entry_bytes * (j + suc n)) b) (slots_first (slot_at b) j n)
      ∙ append_assoc slot rest (drop (entry_bytes * (j + suc n)) b)
      ∙ ap (λ (xs : List ℕ). slot ++ xs) later
      ∙ slot_again b j bytes (omega arith)

  pub later_again : (n : ℕ) → n ≤ per_block → slots_spare b n ≡ true → sealed (slots_bytes (slot_at b) 0 n) k ≡ b
  unfolding slots_spare
  later_again n fits spare =
      let ends = length_slots (slot_at b) 0 n in
      let zeros = spare_zeros b (entry_bytes * n) whole spare in
      let all : 0 + n ≡ n = omega arith in
      let stands : slots_bytes (slot_at b) 0 n ++ drop (entry_bytes * n) b ≡ b = rw all at (slots_stand n 0 (omega arith)) in
      sealed_again b k whole held bytes (slots_bytes (slot_at b) 0 n) (omega (arith, ends)) (rw ends stands) (rw ends zeros)

-- ---- the whole card

-- an entry of a later block
pub slot_in_block : (card : List ℕ) (k j : ℕ) → 1 ≤ k → j < per_block → slot_of card (entries_before k + j) ≡ slot_at (block_at card k) j
unfolding slot_of
slot_in_block card k j h g =
    let block : 1 + (entries_before k + j) / per_block ≡ k = omega arith in
    let slot : (entries_before k + j) % per_block ≡ j = omega arith in
    rw (block, slot)

module _ (card : List ℕ) (bytes : AreBytes card) (has : Laid card) where
  abbrev m : ℕ
  m = (told_by card).m

  whole_block : (k : ℕ) → k ≤ entry_blocks m → length (block_at card k) ≡ block_bytes
  whole_block k h = block_length card k (omega (arith, has.size))

  block_again : (k : ℕ) → k ≤ entry_blocks m → sealed (own_bytes (told_by card) (slot_of card) k) k ≡ block_at card k
  block_again zero h =
      rw (own_head (told_by card) (slot_of card))
      (head_again (block_at card 0) 0 (whole_block 0 h) (has.blocks 0 h) (block_bytes_lem card bytes 0) has.form has.head_spare_lem)
  block_again (suc k) h =
      let n : ℕ = entries_in_block m (suc k) in
      let spare = has.later_spare (suc k) (omega arith) h in
      let same = slots_same (slot_of card) (slot_at (block_at card (suc k))) (entries_before (suc k)) 0 n
      (λ j g. slot_in_block card (suc k) j (omega arith) (omega arith) ∙ ap (slot_at (block_at card (suc k))) (omega arith)) in
      ap (λ (own : List ℕ). sealed own (suc k)) (own_later (told_by card) (slot_of card) (suc k) (omega arith) ∙ same)
      ∙ later_again (block_at card (suc k)) (suc k) (whole_block (suc k) h) (has.blocks (suc k) h) (block_bytes_lem card bytes (suc k))
      n (omega arith) spare

  -- its format and its slots are all that it says
  pub card_again : card_of (told_by card) (slot_of card) ≡ card
  unfolding card_of blocks_of
  card_again =
      let n : ℕ = 1 + entry_blocks m in
      turns_same (λ k. sealed (own_bytes (told_by card) (slot_of card) k) k) (block_at card) 0 0 n
      (λ k h. let here : 0 + k ≡ k = omega arith in rw here (block_again k (omega arith)))
      ∙ blocks_all card n has.size
