-- Exporting a card to a probe list (02, §2): "without leading zeros and with a hyphen in every span (`7-7` if one wide)". `limit` is the
-- most entries that a card may have.
--   listed_for kind s                == what is listed of the entry s on a list of this kind: each place p as p + 1
--   line_for kind l s                == the line of the entry s
--   text_of xs                       == the text of the lines xs
--   lines_for f slots                == the lines of a card of this format and these entries
--   list_of card                     == the probe list of a card
--   exporting limit card room       == what exporting answers, where the output has `room` bytes: the reader's refusals, then 12
--   Exports limit card before r after    == the answer r, and every byte of the output afterwards; and that the card is of bytes, which the
--                                           round trip needs
--   list_room limit                  == room for the list of every card
-- Assumes nothing.
use Rattle.std.specs.Prelude.{◌≡◌, ℕ, ◌+◌, ◌*◌, cond, List, [], ◌∷◌, ◌++◌, length, leb, eqb}
use Rattle.base_answers.specs.Numbers.{Room}
use Rattle.base_answers.specs.Answer.{Answer, test, first, output_after}
use Rattle.base_lists.specs.Row.{row}
use Rattle.card_block.specs.Bytes.{AreBytes}
use Rattle.card_entries.specs.declared.Format.{Format}
use Rattle.card_entries.specs.declared.Slot.{Slot}
use Rattle.card_entries.specs.Fault.{span, no_place}
use Rattle.build_sequence.specs.Build.{letters_of}
use Rattle.card_layout.specs.Layout.{told_by, slot_of}
use Rattle.card_reader.specs.Reading.{reading_order}
use Rattle.text_probes.specs.declared.line.Marked.{Marked}
use Rattle.text_probes.specs.declared.line.Marked.TheVariants.{Bare, Two, Run}
use Rattle.text_probes.specs.Line.{Line, line_text, most_line}

unfoldable pub listed_for : ℕ → Slot → Marked
listed_for kind s =
    cond (eqb kind span) (Run (s.one + 1) (s.two + 1)) (cond (eqb s.two no_place) (Bare (s.one + 1)) (Two (s.one + 1) (s.two + 1)))

abbrev pub line_for : ℕ → ℕ → Slot → Line
line_for kind l s = record { word = letters_of l s.word; listed = listed_for kind s }

abbrev pub text_of : List Line → List ℕ
text_of [] = []
text_of (x ∷ xs) = line_text x ++ text_of xs

abbrev pub lines_for : Format → (ℕ → Slot) → List Line
lines_for f slots = row (λ e. line_for f.kind f.l (slots e)) 0 f.m

abbrev pub list_of : List ℕ → List ℕ
list_of card = text_of (lines_for (told_by card) (slot_of card))

unfoldable pub exporting : ℕ → List ℕ → ℕ → Answer ℕ
exporting limit card room =
    first (reading_order limit card ++ (test (leb (length (list_of card)) room) Room 0 ∷ [])) (length (list_of card))

-- room for the list of every card: for as many of the longest lines as it may have entries
abbrev pub list_room : ℕ → ℕ
list_room limit = most_line * limit

pub record Exports (limit : ℕ) (card before : List ℕ) (r : Answer ℕ) (after : List ℕ) : Type 0 where
  pub of_bytes : AreBytes card
  pub answer : r ≡ exporting limit card (length before)
  pub bytes : after ≡ output_after (list_of card) before (exporting limit card (length before))
