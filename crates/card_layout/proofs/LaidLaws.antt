-- A card that is laid out as it must be, and that `card_of` is. Assumes nothing.
use mathlib.Core.Path.{◌≡◌, sym, ap, ◌∙◌}
use mathlib.Core.Bool.{true}
use mathlib.Core.List.{List}
use Prim.Native.Nat.{ℕ, ◌≤◌}
use native.Mathlib.Omega.{arith}
use lib.ListN.{length}
use Rattle.base_answers.specs.Answer.{given, sound, first}
use Rattle.card_block.specs.Block.{block_at, block_tests}
use Rattle.card_block.specs.Sealing.{sealed}
use Rattle.card_block.proofs.SealingLaws.{sealed_holds}
use Rattle.card_entries.specs.declared.Format.{Format}
use Rattle.card_entries.specs.declared.Slot.{Slot}
use Rattle.card_layout.specs.Layout.{the_form, form_of, format_of, told_by, entry_blocks, size_of, entries_before, entries_in_block, head_spare, slots_spare}
use Rattle.card_layout.specs.Card.{head_bytes, slots_bytes, own_bytes, card_of}
use Rattle.card_layout.proofs.CardLaws.{length_card, card_block, own_fits, own_head, own_later, head_form, head_format, head_spared, later_spare}

-- a card that is laid out as it must be: its size, its blocks, its form, and what must be zero
pub record Laid (card : List ℕ) : Type 0 where
  pub size : length card ≡ size_of (told_by card).m
  pub blocks : (k : ℕ) → k ≤ entry_blocks (told_by card).m → first (block_tests (block_at card k) k) sound ≡ given sound
  pub form : form_of (block_at card 0) ≡ the_form
  pub head_spare_lem : head_spare (block_at card 0) ≡ true
  pub later_spare : (k : ℕ) → 1 ≤ k → k ≤ entry_blocks (told_by card).m
      → slots_spare (block_at card k) (entries_in_block (told_by card).m k) ≡ true

module _ (f : Format) (slots : ℕ → Slot) where
  card_head : block_at (card_of f slots) 0 ≡ sealed (head_bytes f) 0
  card_head = card_block f slots 0 (omega arith) ∙ ap (λ (own : List ℕ). sealed own 0) (own_head f slots)

  -- it says its format
  pub card_told : told_by (card_of f slots) ≡ f
  card_told = ap format_of card_head ∙ head_format f

  -- and is laid out as it must be
  pub card_laid : Laid (card_of f slots)
  card_laid = record {
    size = length_card f slots ∙ ap (λ (g : Format). size_of g.m) (sym card_told);
    blocks = λ k h.
        let there : k ≤ entry_blocks f.m = rw card_told at h in
        rw (card_block f slots k there) (sealed_holds (own_bytes f slots k) k (own_fits f slots k));
    form = ap form_of card_head ∙ head_form f;
    head_spare_lem = ap head_spare card_head ∙ head_spared f;
    later_spare = λ k h g.
        let there : k ≤ entry_blocks f.m = rw card_told at g in
        let own : block_at (card_of f slots) k ≡ sealed (slots_bytes slots (entries_before k) (entries_in_block f.m k)) k =
        card_block f slots k there ∙ ap (λ (xs : List ℕ). sealed xs k) (own_later f slots k h) in
        rw (own, card_told) (later_spare slots (entries_before k) (entries_in_block f.m k) k (omega arith));
  }
