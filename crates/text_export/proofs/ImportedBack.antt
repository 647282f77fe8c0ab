-- An imported list, exported again, and imported once more. Assumes nothing.
use mathlib.Core.Path.{◌≡◌, sym, ap, ◌∙◌}
use mathlib.Core.Logic.{◌⊎◌}
use mathlib.Core.List.{List, ◌++◌}
use Prim.Native.Nat.{ℕ, ◌≤◌, ◌<◌}
use lib.ListN.{length, take, drop}
use Rattle.base_answers.specs.Answer.{Answer, given}
use Rattle.card_entries.specs.declared.Format.{Format}
use Rattle.card_entries.specs.Fault.{pair}
use Rattle.card_entries.specs.Slot.{slot_from}
use Rattle.card_layout.specs.Layout.{told_by, slot_of}
use Rattle.card_layout.specs.Card.{card_of}
use Rattle.card_layout.proofs.CardLaws.{card_slot, card_same}
use Rattle.card_reader.specs.Fetching.{admission}
use Rattle.card_entries.specs.Hold.{format_for}
use Rattle.card_reader.proofs.AdmittedLaws.{its_words, its_ones, its_twos, format_same, slot_same}
use Rattle.card_writer.proofs.RoundTrip.{read_back}
use Rattle.text_probes.specs.Line.{most_number}
use Rattle.text_probes.specs.Lines.{lines_of, line_in}
use Rattle.text_probes.specs.Testing.{line_mark}
use Rattle.text_import.specs.Importing.{kind_in, letters_in, words_in, ones_in, twos_in, card_in, importing, Imports}
use Rattle.text_import.proofs.SoundCard.{card_in_lem, told_in}
use Rattle.text_import.proofs.ImportingLaws.{card_long}
use Rattle.text_import.proofs.Imported.{imported_sound, imported_writes, imported_card}
use Rattle.text_export.specs.Exporting.{list_of, Exports}
use Rattle.text_export.specs.Back.{back_of}
use Rattle.text_export.proofs.RoundTrip.{listed_card, listed_imports, exported_list}
use Rattle.text_export.proofs.SpelledOut.{list_again, own_list}
use Rattle.text_export.proofs.ExportRoom.{export_given}

-- a card's own lists make the card of a text again
made_again : (limit : ℕ) (text : List ℕ) (admitted : admission limit (card_in text) ≡ given (told_by (card_in text)))
    → card_of (format_for (told_by (card_in text)).kind (told_by (card_in text)).l (its_words limit (card_in text) admitted))
    (slot_from (its_words limit (card_in text) admitted) (its_ones limit (card_in text) admitted) (its_twos limit (card_in text) admitted))
    ≡ card_in text
made_again limit text admitted =
    let card = card_in text in
    let format = format_for (kind_in text) (letters_in text) (words_in text) in
    let slots = slot_from (words_in text) (ones_in text) (twos_in text) in
    let its = slot_from (its_words limit (card_in text) admitted) (its_ones limit (card_in text) admitted) (its_twos limit (card_in text) admitted) in
    ap (λ (g : Format). card_of g its) (format_same limit card admitted)
    ∙ card_same (told_by card) its (slot_of card) (slot_same limit card admitted)
    ∙ ap (λ (g : Format). card_of g (slot_of card)) (told_in text)
    ∙ card_same format (slot_of card) slots (λ e h. ap (λ (c : List ℕ). slot_of c e) (card_in_lem text) ∙ card_slot format slots e h)
    ∙ sym (card_in_lem text)

module _ {limit : ℕ} (few : limit ≤ most_number) {text before after : List ℕ} {r : Answer ℕ} {n : ℕ}
    (did : Imports limit text before r after) (said : r ≡ given n) where
  admitted : admission limit (card_in text) ≡ given (told_by (card_in text))
  admitted = rw (imported_card did said) at (read_back (imported_writes did said) said).admitted ∙ ap given (sym (told_in text))

  long : length (card_in text) ≡ n
  long = sym (card_long limit text (length before) (sym did.answer ∙ said))

  listed : list_of (card_in text) ≡ back_of text
  listed = list_again text (imported_sound did said)

  module _ {out end : List ℕ} {q : Answer ℕ} (back : Exports limit (take n after) out q end) where
    exports : Exports limit (card_in text) out q end
    exports = rw (imported_card did said) at back

    -- the card of an imported list is exported to the list, with each bare p of a span list as p-p
    pub imported_exports : length (back_of text) ≤ length out
        → (q ≡ given (length (back_of text))) × (end ≡ back_of text ++ drop (length (back_of text)) out)
    imported_exports room = rw listed at (export_given limit few (card_in text) admitted exports (rw listed room))

    module _ {k : ℕ} (told : q ≡ given k) where
      back_list : take k end ≡ list_of (card_in text)
      back_list = exported_list limit few (card_in text) exports told

      -- a bare number on a span list is the one exception
      pub own_bytes_lem : (kind_in text ≡ pair) ⊎ ((e : ℕ) → e < length (lines_of text) → line_mark (line_in text e) ≡ 0 → ⊥) → take k end ≡ text
      own_bytes_lem h = back_list ∙ own_list text (imported_sound did said) h

      -- and it is imported to the same card
      pub imports_again : {room last : List ℕ} {w : Answer ℕ} → Imports limit (take k end) room w last → n ≤ length room
          → (w ≡ given n) × (last ≡ take n after ++ drop n room)
      imports_again {room} {last} again h =
          let own = rw back_list at again in
          let answer : importing limit (list_of (card_in text)) (length room) ≡ given n =
          listed_imports limit few (card_in text) admitted (length room) (rw long h) ∙ ap given long in
          let same : card_in (list_of (card_in text)) ≡ take n after =
          listed_card limit few (card_in text) admitted ∙ made_again limit text admitted ∙ sym (imported_card did said) in
          let card = card_in (list_of (card_in text)) in
          let size : length card ≡ n = ap length (same ∙ imported_card did said) ∙ long in
          let bytes : last ≡ card ++ drop (length card) room = rw answer at own.bytes in
          (own.answer ∙ answer, bytes ∙ (λ i. same i ++ drop (size i) room))
