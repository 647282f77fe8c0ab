-- Admitting a card into lent lists of words, places one and places two: the reader's refusals, then 12 where a list has fewer slots than
-- the card has entries; "the first m slots of lent lists …, the rest untouched", and nothing on a refusal. Assumes nothing.
use Rattle.std.specs.Prelude.{◌≡◌, ℕ, Bool, ◌&&◌, List, [], ◌∷◌, ◌++◌, length, drop, leb}
use Rattle.base_answers.specs.Numbers.{Room}
use Rattle.base_answers.specs.Answer.{Answer, given, refused, Test, test, first}
use Rattle.base_lists.specs.Row.{row}
use Rattle.card_block.specs.Bytes.{AreBytes}
use Rattle.card_entries.specs.declared.Format.{Format}
use Rattle.card_layout.specs.Layout.{told_by, slot_of}
use Rattle.card_reader.specs.Reading.{reading_order}

-- lists of these three lengths have room for m entries
abbrev pub has_room : ℕ → ℕ → ℕ → ℕ → Bool
has_room m words ones twos = leb m words && leb m ones && leb m twos

unfoldable pub list_tests : ℕ → List ℕ → List ℕ → List ℕ → List ℕ → List Test
list_tests limit card words ones twos =
    reading_order limit card ++ (test (has_room (told_by card).m (length words) (length ones) (length twos)) Room 0 ∷ [])

unfoldable pub listing : ℕ → List ℕ → List ℕ → List ℕ → List ℕ → Answer Format
listing limit card words ones twos = first (list_tests limit card words ones twos) (told_by card)

-- a list that was `before`, with the numbers of the first m entries at its start
unfoldable pub filled : (ℕ → ℕ) → ℕ → List ℕ → List ℕ
filled number_of m before = row number_of 0 m ++ drop m before

-- the list after the answer
abbrev pub listed : (ℕ → ℕ) → List ℕ → Answer Format → List ℕ
listed number_of before (given f) = filled number_of f.m before
listed number_of before (refused n p) = before

-- the answer, and every slot of each list afterwards; and that each number of the card is a byte, as each number of a lent card is
pub record Listed (limit : ℕ) (card words ones twos : List ℕ) (r : Answer Format) (words' ones' twos' : List ℕ) : Type 0 where
  pub of_bytes : AreBytes card
  pub answer : r ≡ listing limit card words ones twos
  pub in_words : words' ≡ listed (λ e. (slot_of card e).word) words (listing limit card words ones twos)
  pub in_ones : ones' ≡ listed (λ e. (slot_of card e).one) ones (listing limit card words ones twos)
  pub in_twos : twos' ≡ listed (λ e. (slot_of card e).two) twos (listing limit card words ones twos)
