-- What comes back of a card that was written (demand 2): "Entries that the writer accepts read back as themselves". `limit` is the most
-- entries that a card may have.
--   GivesBack limit kind l words ones twos card    == the card gives back this kind, l and m, and each of these entries, by fetch and by the
--                                                     head
-- Assumes nothing.
use Rattle.std.specs.Prelude.{◌≡◌, ℕ, ◌<◌, List, length}
use Rattle.base_answers.specs.Answer.{given}
use Rattle.base_lists.specs.Row.{row}
use Rattle.card_entries.specs.Slot.{slot_from}
use Rattle.card_entries.specs.Entry.{entry_of}
use Rattle.card_reader.specs.Fetching.{admission, entry_fetch, Lists}
use Rattle.card_entries.specs.Hold.{format_for}

pub record GivesBack (limit kind l : ℕ) (words ones twos card : List ℕ) : Type 0 where
  pub admitted : admission limit card ≡ given (format_for kind l words)
  pub fetched : (e : ℕ) → e < length words → entry_fetch limit card e ≡ given (entry_of kind (slot_from words ones twos e))
  pub stepped : Lists limit card 0 (row (λ e. entry_of kind (slot_from words ones twos e)) 0 (length words))
