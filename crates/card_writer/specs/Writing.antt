-- Writing a card (01, "What can come back"): "Writing takes kind, l and three lists (words, place one, place two) and tests 5, 6, 13, 7,
-- entries in turn (10, 11), then 12; it touches only the card's bytes of the output." `limit` is the most entries that a card may have.
--   writing limit kind l words ones twos room     == what the writer answers, where the output has `room` bytes
--   Writes limit kind l words ones twos before r after    == the answer r, and every byte of the output afterwards
-- The tests of the lists are `lists_tests`. Assumes nothing.
use Rattle.std.specs.Prelude.{◌≡◌, ℕ, List, [], ◌∷◌, ◌++◌, length, leb}
use Rattle.base_answers.specs.Numbers.{Room}
use Rattle.base_answers.specs.Answer.{Answer, test, first, output_after}
use Rattle.card_entries.specs.Slot.{slot_from}
use Rattle.card_layout.specs.Layout.{size_of}
use Rattle.card_layout.specs.Card.{card_of}
use Rattle.card_lists.specs.Lists.{lists_tests}
use Rattle.card_entries.specs.Hold.{format_for}

-- then 12: "for the writer below the card's size"; "the writer answers the card's length in bytes"
unfoldable pub writing : ℕ → ℕ → ℕ → List ℕ → List ℕ → List ℕ → ℕ → Answer ℕ
writing limit kind l words ones twos room =
    first
    (lists_tests limit kind l words ones twos ++ (test (leb (size_of (length words)) room) Room 0 ∷ []))
    (size_of (length words))

-- "the card standing at the start of the output"
pub record Writes (limit kind l : ℕ) (words ones twos before : List ℕ) (r : Answer ℕ) (after : List ℕ) : Type 0 where
  pub answer : r ≡ writing limit kind l words ones twos (length before)
  pub bytes : after
      ≡ output_after
      (card_of (format_for kind l words) (slot_from words ones twos))
      before
      (writing limit kind l words ones twos (length before))
