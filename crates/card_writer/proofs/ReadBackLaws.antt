-- What the reader makes of a card that the writer made: the laws behind the first round trip. Assumes nothing.
use mathlib.Core.Path.{◌≡◌, sym, ap, ◌∙◌}
use mathlib.Core.List.{List}
use Prim.Native.Nat.{ℕ, ◌+◌, ◌<◌}
use native.Mathlib.Omega.{arith}
use lib.ListN.{length, get_or}
use Rattle.base_answers.specs.Answer.{given, sound, first}
use Rattle.base_lists.specs.Row.{row}
use Rattle.base_lists.proofs.RowLaws.{row_same, row_of}
use Rattle.card_entries.specs.declared.Format.{Format}
use Rattle.card_entries.specs.declared.Slot.{Slot}
use Rattle.card_entries.specs.Entry.{entry_of}
use Rattle.card_entries.specs.Slot.{slot_from}
use Rattle.card_layout.specs.Layout.{told_by, slot_of, entry_at}
use Rattle.card_layout.specs.Card.{card_of}
use Rattle.card_layout.proofs.Laws.{entry_is}
use Rattle.card_layout.proofs.CardLaws.{card_slot}
use Rattle.card_layout.proofs.LaidLaws.{card_told, card_laid}
use Rattle.card_reader.specs.Reading.{reading_order}
use Rattle.card_reader.proofs.SoundLaws.{Reads, reads_holds}
use Rattle.card_entries.specs.Hold.{format_for, ListsHold}
use Rattle.card_entries.proofs.HoldLaws.{row_holds, lists_each}

module _ (kind l : ℕ) (words ones twos : List ℕ) where
  abbrev format : Format
  format = format_for kind l words

  abbrev slots : ℕ → Slot
  slots = slot_from words ones twos

  abbrev card : List ℕ
  card = card_of format slots

  told : told_by card ≡ format
  told = card_told format slots

  module _ {limit : ℕ} (has : ListsHold limit (format_for kind l words) words ones twos) where
    -- it is read
    accepted_reads : Reads limit card
    accepted_reads = record {
      laid = card_laid format slots;
      hold = row_holds (told_by card) (slot_of card) (rw told has.hold.a_kind) (rw told has.hold.letters) (rw told has.hold.count)
          (λ e h.
          let there : e < length words = rw told at h in
          rw (told, card_slot format slots e there) (lists_each has e there));
    }

    pub accepted_order : first (reading_order limit card) sound ≡ given sound
    accepted_order = reads_holds limit card accepted_reads

  -- entry e is the one that was given
  pub written_entry_is : (e : ℕ) → e < length words → entry_at card e ≡ entry_of kind (slots e)
  written_entry_is e h = sym (entry_is card e (ap (λ (f : Format). f.kind) (sym told)) (sym (card_slot format slots e h)))

  -- and so are the numbers of each list
  module _ (number_of : Slot → ℕ) (numbers : List ℕ) (same : length numbers ≡ length words)
      (each : (e : ℕ) → number_of (slots e) ≡ get_or numbers e 0) where
    pub written_numbers : row (λ e. number_of (slot_of card e)) 0 (length words) ≡ numbers
    written_numbers =
        row_same (λ e. number_of (slot_of card e)) (λ e. get_or numbers e 0) 0 (length words) (λ e h.
        let here : 0 + e ≡ e = omega arith in
        rw here (ap number_of (card_slot format slots e h) ∙ each e))
        ∙ rw (sym same) (row_of 0 numbers)
