-- Importing a probe list (02, §2): "Import turns a list into a card"; "Card rules are applied after the text rules." `limit` is the most
-- entries that a card may have.
--   kind_in text, letters_in text                     == the kind and the letters of a word that a text asks for
--   words_in text, ones_in text, twos_in text          == its entries, as three lists
--   card_in text                                     == the card of the text
--   importing limit text room                       == what importing answers, where the output has `room` bytes
--   Imports limit text before r after               == the answer r, and every byte of the output afterwards
--   RefusesBy n                                     == n is a number that importing refuses by
-- Assumes nothing.
use Rattle.std.specs.Prelude.{◌≡◌, ℕ, List, [], ◌∷◌, ◌++◌, length, leb}
use Rattle.base_answers.specs.Numbers.{WordLength, Count, Places, Room, Text, Mixed, Uneven, Zero}
use Rattle.base_answers.specs.Answer.{Answer, test, first, output_after}
use Rattle.card_entries.specs.Slot.{slot_from}
use Rattle.card_layout.specs.Layout.{size_of}
use Rattle.card_layout.specs.Card.{card_of}
use Rattle.card_lists.specs.Lists.{lists_tests}
use Rattle.card_entries.specs.Hold.{format_for}
use Rattle.text_probes.specs.Lines.{lines_in}
use Rattle.text_probes.specs.Testing.{outline_of, text_tests, kind_of}
use Rattle.text_probes.specs.Listing.{words_of, ones_of, twos_of}

abbrev pub kind_in : List ℕ → ℕ
kind_in text = kind_of (outline_of (lines_in text)).mark

abbrev pub letters_in : List ℕ → ℕ
letters_in text = (outline_of (lines_in text)).l

abbrev pub words_in : List ℕ → List ℕ
words_in text = words_of (lines_in text)

abbrev pub ones_in : List ℕ → List ℕ
ones_in text = ones_of (lines_in text)

abbrev pub twos_in : List ℕ → List ℕ
twos_in text = twos_of (kind_in text) (lines_in text)

unfoldable pub card_in : List ℕ → List ℕ
card_in text = card_of (format_for (kind_in text) (letters_in text) (words_in text)) (slot_from (words_in text) (ones_in text) (twos_in text))

-- the text rules, then the card rules, then 12
unfoldable pub importing : ℕ → List ℕ → ℕ → Answer ℕ
importing limit text room =
    first
    (text_tests text
    ++ (lists_tests limit (kind_in text) (letters_in text) (words_in text) (ones_in text) (twos_in text)
    ++ (test (leb (size_of (length (words_in text))) room) Room 0 ∷ [])))
    (size_of (length (words_in text)))

pub record Imports (limit : ℕ) (text before : List ℕ) (r : Answer ℕ) (after : List ℕ) : Type 0 where
  pub answer : r ≡ importing limit text (length before)
  pub bytes : after ≡ output_after (card_in text) before (importing limit text (length before))

-- "23 Text, 24 Mixed, 25 Uneven, 26 Zero"; then of the card 6, 7 and 11, then 12: 5, 10 and 13 do not occur
pub data RefusesBy : ℕ → Type 0 where
  no_text : RefusesBy Text
  mixed : RefusesBy Mixed
  uneven : RefusesBy Uneven
  place_0 : RefusesBy Zero
  letters : RefusesBy WordLength
  count : RefusesBy Count
  places : RefusesBy Places
  no_room : RefusesBy Room
