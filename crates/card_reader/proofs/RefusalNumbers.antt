-- By which numbers the reader refuses: above 0, and below 12. Assumes nothing.
use mathlib.Core.Path.{◌≡◌}
use mathlib.Core.List.{List}
use Prim.Native.Nat.{ℕ, ◌<◌}
use native.Mathlib.Omega.{arith}
use Rattle.base_answers.specs.Numbers.{Short, Check, Index, Form, Kind, WordLength, Count, Spare, Size, Word, Places, Room, Absent}
use Rattle.base_answers.specs.Answer.{refused, first}
use Rattle.base_answers.proofs.Only.{Only, Numbered, none, also, only_append, only_turns, only_refused}
use Rattle.card_block.specs.Block.{block_at}
use Rattle.card_block.proofs.Laws.{block_only}
use Rattle.card_entries.specs.declared.Format.{Format}
use Rattle.card_entries.specs.Slot.{slot_at}
use Rattle.card_entries.proofs.Laws.{entry_only}
use Rattle.card_layout.specs.Layout.{told_by, entry_blocks}
use Rattle.card_reader.specs.Reading.{field_tests, head_tests, slots_tests, later_tests, reading_order}
use Rattle.card_reader.specs.Fetching.{admission, entry_fetch, stepping}

-- ---- the reader's numbers: 1 to 11

module _ {P : ℕ → Type 0} (row : (n : ℕ) → 0 < n → n < Room → P n) where
  later_only : (f : Format) (card : List ℕ) (k : ℕ) → Only P (later_tests f card k)
  unfolding later_tests slots_tests
  later_only f card k =
      only_append (block_only (block_at card k) k (row Check (omega arith) (omega arith)) (row Index (omega arith) (omega arith)))
      (only_append
      (only_turns (λ j. entry_only f _ (slot_at (block_at card k) j) (row Word (omega arith) (omega arith)) (row Places (omega arith) (omega arith))) 0 _)
      (also (row Spare (omega arith) (omega arith)) none))

  module _ (limit : ℕ) (card : List ℕ) where
    head_only : Only P (head_tests limit card)
    unfolding head_tests field_tests
    head_only =
        also (row Short (omega arith) (omega arith))
        (only_append (block_only (block_at card 0) 0 (row Check (omega arith) (omega arith)) (row Index (omega arith) (omega arith)))
        (also (row Form (omega arith) (omega arith))
        (also (row Kind (omega arith) (omega arith))
        (also (row WordLength (omega arith) (omega arith))
        (also (row Count (omega arith) (omega arith))
        (also (row Spare (omega arith) (omega arith)) none))))))

    pub order_only : Only P (reading_order limit card)
    unfolding reading_order
    order_only =
        only_append head_only
        (also (row Size (omega arith) (omega arith)) (only_turns (later_only (told_by card) card) 1 (entry_blocks (told_by card).m)))

module _ (limit : ℕ) (card : List ℕ) where
  pub reader_below : {A : Type 0} (a : A) {n p : ℕ} → first (reading_order limit card) a ≡ refused n p → n < Room
  reader_below a e = only_refused (order_only (λ n above below. below) limit card) a e

  pub order_numbered : Numbered (reading_order limit card)
  order_numbered = order_only (λ n above below. above) limit card

  pub admission_number : {n p : ℕ} → admission limit card ≡ refused n p → 0 < n
  unfolding admission
  admission_number e = only_refused order_numbered _ e

  pub entry_number : (i : ℕ) {n p : ℕ} → entry_fetch limit card i ≡ refused n p → 0 < n
  unfolding entry_fetch
  entry_number i e = only_refused (only_append order_numbered (also {n = Absent} (omega arith) none)) _ e

  pub step_number : (at : ℕ) {n p : ℕ} → stepping limit card at ≡ refused n p → 0 < n
  unfolding stepping
  step_number at e = only_refused order_numbered _ e
