-- The laws of a card's layout that this crate's proofs and the crates above cite. No contract cites this file. Assumes nothing.
use mathlib.Core.Path.{◌≡◌, refl, sym, ap, ◌∙◌}
use mathlib.Core.Logic.{◌⊎◌, inl, inr}
use mathlib.Core.Bool.{Bool, true, false, ◌&&◌}
use mathlib.Core.List.{List}
use Prim.Native.Nat.{ℕ, ◌+◌, ◌-◌, ◌*◌, ◌/◌, ◌≤◌, ◌<◌}
use native.Mathlib.Omega.{arith}
use lib.ListN.{length, get_or, take, drop}
use lib.Dec.{eqb}
use borrow.Author.Tests.{eq-eqb, ne_eqb, eqb-true}
use Rattle.std.proofs.lemmas.List.{drop-take}
use Rattle.base_lists.proofs.TestLaws.{either}
use Rattle.card_block.specs.Block.{block_bytes, index_at}
use Rattle.base_lists.proofs.Fold.{all_turn, all_end}
use Rattle.card_entries.specs.declared.Slot.{Slot}
use Rattle.card_entries.specs.Fault.{pair, span}
use Rattle.card_entries.specs.Entry.{entry_of}
use Rattle.card_entries.specs.Bounds.{is_kind}
use Rattle.card_layout.specs.Layout.{form_of, told_by, is_zeros, head_spare, per_block, size_of, slot_of, entry_at}

-- ---- zeros, looked at from the front: `all` is whether those before i are, and `whole` what is asked

module _ (l : List ℕ) (i : ℕ) (all whole : Bool) (so_far : (all && is_zeros (drop i l)) ≡ whole) where
  pub zeros_turn : i < length l → ((all && eqb (get_or l i 0) 0) && is_zeros (drop (i + 1) l)) ≡ whole
  zeros_turn h = all_turn (λ (x : ℕ). eqb x 0) is_zeros refl (λ (x : ℕ) (xs : List ℕ). refl) l i all whole so_far h (eqb (get_or l i 0) 0) refl

  pub zeros_end : length l ≤ i → all ≡ whole
  zeros_end h = all_end (λ (x : ℕ). eqb x 0) is_zeros refl (λ (x : ℕ) (xs : List ℕ). refl) l i all whole so_far h

-- the bytes from n up to the index
pub part_between : (b : List ℕ) (n : ℕ) → n ≤ index_at → take (index_at - n) (drop n b) ≡ drop n (take index_at b)
part_between b n h =
    let whole : n + (index_at - n) ≡ index_at = omega arith in sym (drop-take n (index_at - n) b) ∙ ap (λ (i : ℕ). drop n (take i b)) whole

-- ---- the form

-- it is the first byte of block 0
pub form_is : (b : List ℕ) → form_of b ≡ get_or b 0 0
unfolding form_of
form_is b = refl

-- ---- spare bytes of block 0

module _ (b : List ℕ) where
  pub head_not_spare : (get_or b 3 0 ≡ 0 → ⊥) → false ≡ head_spare b
  unfolding head_spare
  head_not_spare n = rw (ne_eqb (get_or b 3 0) 0 n)

  pub head_spare_when : get_or b 3 0 ≡ 0 → is_zeros (drop 6 (take index_at b)) ≡ head_spare b
  unfolding head_spare
  head_spare_when z = rw (eq-eqb (get_or b 3 0) 0 z)

-- ---- where an entry stands

-- an entry of the card has its block on it
pub entry_there : (m e size : ℕ) → e < m → size ≡ size_of m → block_bytes * (1 + e / per_block) + block_bytes ≤ size
entry_there m e size h s = omega arith

-- what an entry is, by its slot
pub entry_is : (card : List ℕ) (e : ℕ) {kind : ℕ} {s : Slot} → kind ≡ (told_by card).kind → s ≡ slot_of card e
    → entry_of kind s ≡ entry_at card e
unfolding entry_at
entry_is card e k h = cc

-- ---- numbers within bounds

-- a kind fits a byte
pub kind_below : (kind : ℕ) → is_kind kind ≡ true → kind < 256
kind_below kind e = go (either (eqb kind pair) (eqb kind span) e)
  where
    go : (eqb kind pair ≡ true) ⊎ (eqb kind span ≡ true) → kind < 256
    go (inl h) = omega (arith, eqb-true kind pair h)
    go (inr h) = omega (arith, eqb-true kind span h)
