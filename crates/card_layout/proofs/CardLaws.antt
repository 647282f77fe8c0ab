-- The laws of a card's bytes: what stands in each block of `card_of f slots`, and that the blocks of a card are its bytes. Assumes nothing.
use mathlib.Core.Path.{◌≡◌, refl, sym, ap, ◌∙◌}
use mathlib.Core.Bool.{true}
use mathlib.Core.List.{List, [], ◌∷◌, ◌++◌, append_assoc}
use Prim.Native.Nat.{ℕ, zero, suc, ◌+◌, ◌*◌, ◌-◌, ◌/◌, ◌%◌, ◌≤◌, ◌<◌}
use native.Mathlib.Numerals.{add-one}
use native.Mathlib.Omega.{arith}
use lib.ListN.{length, get_or, take, drop}
use lib.Seq.{take_at, drop_at}
use Rattle.base_lists.specs.Row.{in_turn}
use Rattle.base_lists.proofs.RowLaws.{length_turns, turns_none, turns_first, turns_more, turns_at, turns_same}
use Rattle.card_block.specs.Bytes.{two_bytes}
use Rattle.base_lists.specs.Parts.{put_at}
use Rattle.card_block.specs.Block.{block_bytes, block_at, index_at}
use Rattle.card_block.specs.Sealing.{sealed}
use Rattle.card_block.proofs.Laws.{block_in_place}
use Rattle.card_block.proofs.ByteLaws.{length_two, two_read}
use borrow.Rule.Slice.PartMut.{put_mid}
use Rattle.base_lists.proofs.PutLaws.{put_part, put_on, put_start}
use Rattle.card_block.proofs.SealingLaws.{length_sealed, sealed_own, sealed_spare}
use Rattle.card_entries.specs.declared.Format.{Format}
use Rattle.card_entries.specs.declared.Slot.{Slot}
use Rattle.card_entries.specs.Slot.{entry_bytes, slot_at, slot_bytes}
use Rattle.card_entries.proofs.SlotLaws.{length_slot, slot_read}
use Rattle.card_layout.specs.Layout.{the_form, form_of, format_of, per_block, entry_blocks, size_of}
use Rattle.card_layout.specs.Layout.{entries_before, entries_in_block, slot_of, is_zeros, head_spare, slots_spare}
use Rattle.card_layout.specs.Card.{head_bytes, slots_bytes, own_bytes, blocks_of, card_of}
use Rattle.card_layout.proofs.Laws.{head_spare_when}
use Rattle.card_layout.proofs.ZerosLaws.{zeros_are}

-- ---- lengths

pub length_head : (f : Format) → length (head_bytes f) ≡ 6
unfolding head_bytes
length_head f = omega (arith, length_two f.m)

pub length_slots : (slots : ℕ → Slot) (e n : ℕ) → length (slots_bytes slots e n) ≡ entry_bytes * n
unfolding slots_bytes
length_slots slots e n = length_turns (λ i. slot_bytes (slots i)) entry_bytes (λ i. length_slot (slots i)) e n

pub slots_none : (slots : ℕ → Slot) (e : ℕ) → slots_bytes slots e 0 ≡ []
unfolding slots_bytes
slots_none slots e = turns_none (λ i. slot_bytes (slots i)) e

pub slots_first : (slots : ℕ → Slot) (e n : ℕ) → slots_bytes slots e (suc n) ≡ slot_bytes (slots e) ++ slots_bytes slots (suc e) n
unfolding slots_bytes
slots_first slots e n = turns_first (λ i. slot_bytes (slots i)) e n

-- one more slot
pub slots_more : (slots : ℕ → Slot) (e n : ℕ) → slots_bytes slots e (n + 1) ≡ slots_bytes slots e n ++ slot_bytes (slots (e + n))
unfolding slots_bytes
slots_more slots e n = rw (add-one n) (turns_more (λ i. slot_bytes (slots i)) e n)

-- slots that are the same one by one
pub slots_same : (slots slots' : ℕ → Slot) (e d n : ℕ) → ((j : ℕ) → j < n → slots (e + j) ≡ slots' (d + j))
    → slots_bytes slots e n ≡ slots_bytes slots' d n
unfolding slots_bytes
slots_same slots slots' e d n each =
    turns_same (λ i. slot_bytes (slots i)) (λ i. slot_bytes (slots' i)) e d n (λ j h. ap slot_bytes (each j h))

module _ (f : Format) (slots : ℕ → Slot) where
  pub own_fits : (k : ℕ) → length (own_bytes f slots k) ≤ index_at
  unfolding own_bytes
  own_fits zero = omega (arith, length_head f)
  own_fits (suc k) = omega (arith, length_slots slots (entries_before (suc k)) (entries_in_block f.m (suc k)))

  length_block : (k : ℕ) → length (sealed (own_bytes f slots k) k) ≡ block_bytes
  length_block k = length_sealed (own_bytes f slots k) k (own_fits k)

  pub length_blocks : (n : ℕ) → length (blocks_of f slots n) ≡ block_bytes * n
  unfolding blocks_of
  length_blocks n = length_turns (λ k. sealed (own_bytes f slots k) k) block_bytes length_block 0 n

  pub length_card : length (card_of f slots) ≡ size_of f.m
  unfolding card_of
  length_card = length_blocks (1 + entry_blocks f.m)

  -- ---- block k

  pub card_block : (k : ℕ) → k ≤ entry_blocks f.m → block_at (card_of f slots) k ≡ sealed (own_bytes f slots k) k
  unfolding card_of blocks_of
  card_block k h =
      let blocks : ℕ → List ℕ = λ i. sealed (own_bytes f slots i) i in
      let n : ℕ = 1 + entry_blocks f.m in
      let here : 0 + k ≡ k = omega arith in
      let split : in_turn blocks 0 n ≡ in_turn blocks 0 k ++ (blocks k ++ in_turn blocks (k + 1) (n - (k + 1))) =
      rw here at (turns_at blocks 0 n k (omega arith)) in
      ap (λ (xs : List ℕ). block_at xs k) split
      ∙ block_in_place (in_turn blocks 0 k) (blocks k) (in_turn blocks (k + 1) (n - (k + 1))) k
      (length_turns blocks block_bytes length_block 0 k) (length_block k)

-- ---- what block 0 says

module _ (f : Format) where
  -- its bytes, and what stands after them
  head_split : sealed (head_bytes f) 0 ≡ head_bytes f ++ drop 6 (sealed (head_bytes f) 0)
  head_split =
      let rest = sealed_own (head_bytes f) 0 (omega (arith, length_head f)) in
      rest ∙ ap (λ (xs : List ℕ). head_bytes f ++ xs) (sym (drop_at (head_bytes f) _ 6 (length_head f)) ∙ ap (drop 6) (sym rest))

  pub length_head_block : {b : List ℕ} → b ≡ sealed (head_bytes f) 0 → length b ≡ block_bytes
  length_head_block e = ap length e ∙ length_sealed (head_bytes f) 0 (omega (arith, length_head f))

  pub head_form : form_of (sealed (head_bytes f) 0) ≡ the_form
  unfolding form_of head_bytes
  head_form = rw head_split

  pub head_format : format_of (sealed (head_bytes f) 0) ≡ f
  unfolding format_of head_bytes
  head_format =
      let q = drop 6 (sealed (head_bytes f) 0) in
      let m = two_read (the_form ∷ f.kind ∷ f.l ∷ 0 ∷ []) q 4 f.m refl in
      rw head_split (λ i. record { kind = f.kind; l = f.l; m = m i })

  head_third : get_or (sealed (head_bytes f) 0) 3 0 ≡ 0
  unfolding head_bytes
  head_third = rw head_split

  pub head_spared : head_spare (sealed (head_bytes f) 0) ≡ true
  head_spared =
      let zeros = sealed_spare (head_bytes f) 0 (omega (arith, length_head f)) in
      sym (head_spare_when (sealed (head_bytes f) 0) head_third) ∙ ap is_zeros (rw (length_head f) at zeros) ∙ zeros_are (index_at - 6)

-- as the code writes it: four bytes, m, and the seal
module _ (l : List ℕ) (f : Format) (whole : length l ≡ block_bytes) {l₁ : List ℕ} where
  module _ (put : l₁ ≡ put_at (two_bytes f.m) 4 (put_mid 0 4 l (the_form ∷ f.kind ∷ f.l ∷ 0 ∷ []))) where
    head_put : l₁ ≡ put_at (head_bytes f) 0 l
    unfolding head_bytes
    head_put =
        let four = the_form ∷ f.kind ∷ f.l ∷ 0 ∷ [] in
        put ∙ put_on l 0 four {to = 4} (put_part l four 0 4 refl) (omega arith) (two_bytes f.m) (omega (arith, length_two f.m))

    pub head_made : {l₂ : List ℕ} → l₂ ≡ sealed (take 6 l₁) 0 → l₂ ≡ sealed (head_bytes f) 0
    head_made e =
        let front : take 6 l₁ ≡ head_bytes f =
        ap (take 6) (head_put ∙ put_start l (head_bytes f)) ∙ take_at (head_bytes f) _ 6 (length_head f) in
        e ∙ ap (λ (own : List ℕ). sealed own 0) front

-- ---- what a later block says

module _ (slots : ℕ → Slot) (e n k : ℕ) (fits : n ≤ per_block) where
  later_fits : length (slots_bytes slots e n) ≤ index_at
  later_fits = omega (arith, length_slots slots e n)

  pub length_later : length (sealed (slots_bytes slots e n) k) ≡ block_bytes
  length_later = length_sealed (slots_bytes slots e n) k later_fits

  pub later_slot : (j : ℕ) → j < n → slot_at (sealed (slots_bytes slots e n) k) j ≡ slots (e + j)
  unfolding slots_bytes
  later_slot j h =
      let bytes : ℕ → List ℕ = λ i. slot_bytes (slots i) in
      let here = in_turn bytes e j in
      let after = in_turn bytes (e + j + 1) (n - (j + 1)) in
      let split : in_turn bytes e n ≡ here ++ (bytes (e + j) ++ after) = turns_at bytes e n j h in
      let at_slot : (q : List ℕ) → in_turn bytes e n ++ q ≡ here ++ (bytes (e + j) ++ (after ++ q)) =
      λ q. ap (λ (xs : List ℕ). xs ++ q) split
      ∙ append_assoc here (bytes (e + j) ++ after) q
      ∙ ap (λ (xs : List ℕ). here ++ xs) (append_assoc (bytes (e + j)) after q) in
      let stands = length_slots slots e j in
      ap (λ (xs : List ℕ). slot_at xs j) (sealed_own (slots_bytes slots e n) k later_fits ∙ at_slot _)
      ∙ slot_read here _ j (slots (e + j)) stands

  pub later_spare : slots_spare (sealed (slots_bytes slots e n) k) n ≡ true
  unfolding slots_spare
  later_spare =
      let zeros = sealed_spare (slots_bytes slots e n) k later_fits in
      let ends = length_slots slots e n in
      ap is_zeros (rw ends at zeros) ∙ zeros_are (index_at - entry_bytes * n)

-- ---- the slot of an entry

module _ (f : Format) (slots : ℕ → Slot) where
  -- what a later block has
  pub own_later : (k : ℕ) → 1 ≤ k → own_bytes f slots k ≡ slots_bytes slots (entries_before k) (entries_in_block f.m k)
  unfolding own_bytes
  own_later zero h = absurd (omega arith)
  own_later (suc k) h = refl

  pub own_head : own_bytes f slots 0 ≡ head_bytes f
  unfolding own_bytes
  own_head = refl

  pub card_slot : (e : ℕ) → e < f.m → slot_of (card_of f slots) e ≡ slots e
  unfolding slot_of
  card_slot e h =
      let k : ℕ = 1 + e / per_block in
      let here : entries_before k + e % per_block ≡ e = omega arith in
      ap (λ (b : List ℕ). slot_at b (e % per_block)) (card_block f slots k (omega arith))
      ∙ ap (λ (own : List ℕ). slot_at (sealed own k) (e % per_block)) (own_later k (omega arith))
      ∙ later_slot slots (entries_before k) (entries_in_block f.m k) k (omega arith) (e % per_block) (omega arith)
      ∙ ap slots here

-- two cards whose slots are the same are the same
pub card_same : (f : Format) (slots slots' : ℕ → Slot) → ((e : ℕ) → e < f.m → slots e ≡ slots' e) → card_of f slots ≡ card_of f slots'
unfolding card_of blocks_of
card_same f slots slots' each =
    turns_same (λ k. sealed (own_bytes f slots k) k) (λ k. sealed (own_bytes f slots' k) k) 0 0 (1 + entry_blocks f.m)
    (λ k h. ap (λ (own : List ℕ). sealed own (0 + k)) (own_same (0 + k)))
  where
    own_same : (k : ℕ) → own_bytes f slots k ≡ own_bytes f slots' k
    own_same zero = own_head f slots ∙ sym (own_head f slots')
    own_same (suc k) =
        own_later f slots (suc k) (omega arith)
        ∙ slots_same slots slots' (entries_before (suc k)) (entries_before (suc k)) (entries_in_block f.m (suc k))
        (λ j h. each (entries_before (suc k) + j) (omega arith))
        ∙ sym (own_later f slots' (suc k) (omega arith))

-- ---- block after block

module _ (f : Format) (slots : ℕ → Slot) where
  pub blocks_one : blocks_of f slots 1 ≡ sealed (head_bytes f) 0
  unfolding blocks_of
  blocks_one =
      turns_more (λ k. sealed (own_bytes f slots k) k) 0 0
      ∙ ap (λ (xs : List ℕ). xs ++ sealed (own_bytes f slots 0) 0) (turns_none (λ k. sealed (own_bytes f slots k) k) 0)
      ∙ ap (λ (own : List ℕ). sealed own 0) (own_head f slots)

  pub blocks_more : (k : ℕ) → 1 ≤ k
      → blocks_of f slots (k + 1) ≡ blocks_of f slots k ++ sealed (slots_bytes slots (entries_before k) (entries_in_block f.m k)) k
  unfolding blocks_of
  blocks_more k h =
      let blocks : ℕ → List ℕ = λ i. sealed (own_bytes f slots i) i in
      let here : 0 + k ≡ k = omega arith in
      let more : in_turn blocks 0 (k + 1) ≡ in_turn blocks 0 k ++ blocks k = rw (add-one k) (rw here at (turns_more blocks 0 k)) in
      more ∙ ap (λ (own : List ℕ). in_turn blocks 0 k ++ sealed own k) (own_later f slots k h)

  pub blocks_card : (n : ℕ) → n ≡ 1 + entry_blocks f.m → blocks_of f slots n ≡ card_of f slots
  unfolding card_of
  blocks_card n h = ap (blocks_of f slots) h
