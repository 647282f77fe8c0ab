-- "Export from a card back to a list, without leading zeros and with a hyphen in every span (`7-7` if one wide), must import to the same card."
-- Assumes nothing.
use mathlib.Core.Path.{◌≡◌, refl, sym, ap, ◌∙◌}
use mathlib.Core.List.{List, ◌++◌}
use Prim.Native.Nat.{ℕ, ◌+◌, ◌≤◌, ◌<◌}
use native.Mathlib.Omega.{arith}
use lib.ListN.{length, take, drop}
use Rattle.base_answers.specs.Answer.{Answer, given}
use Rattle.base_answers.proofs.Laws.{first_both}
use Rattle.card_entries.specs.Slot.{slot_from}
use Rattle.card_entries.specs.Fault.{span}
use Rattle.card_layout.specs.Layout.{told_by, slot_of, size_of}
use Rattle.card_layout.specs.Card.{card_of}
use Rattle.card_reader.specs.Fetching.{admission}
use Rattle.card_entries.specs.Hold.{format_for}
use Rattle.card_reader.proofs.AdmittedLaws.{its_words, its_ones, its_twos, length_its, admitted_size, its_hold}
use Rattle.card_writer.proofs.WritingLaws.{card_given}
use Rattle.text_probes.specs.declared.line.Marked.TheVariants.{Run}
use Rattle.text_probes.specs.Line.{Line, most_number}
use Rattle.text_probes.specs.Lines.{line_in}
use Rattle.text_import.specs.Importing.{card_in, importing, Imports}
use Rattle.text_import.proofs.SoundCard.{card_in_lem}
use Rattle.text_import.proofs.ImportingLaws.{importing_writes}
use Rattle.text_export.specs.Exporting.{list_of, exporting, Exports}
use lib.Seq.{take_at}
use Rattle.card_block.specs.Bytes.{AreBytes}
use Rattle.card_reader.specs.Reading.{reading_order}
use Rattle.card_reader.proofs.FetchingLaws.{admission_given}
use Rattle.card_writer.proofs.AgainLaws.{again_card}
use Rattle.text_export.proofs.ListBack.{listed_sound, line_listed, listed_stands}
use Rattle.text_export.proofs.PutLaws.{for_span}
use Rattle.text_export.proofs.ExportLaws.{list_long}

module _ (limit : ℕ) (few : limit ≤ most_number) (card : List ℕ) (admitted : admission limit card ≡ given (told_by card)) where
  abbrev kind : ℕ
  kind = (told_by card).kind

  abbrev l : ℕ
  l = (told_by card).l

  -- the card of the list is that of the card's own lists
  pub listed_card : card_in (list_of card)
      ≡ card_of (format_for kind l (its_words limit card admitted))
      (slot_from (its_words limit card admitted) (its_ones limit card admitted) (its_twos limit card admitted))
  listed_card =
      let stands = listed_stands limit few card admitted in
      card_in_lem (list_of card)
      ∙ rw stands.same_twos (rw (stands.same_kind, stands.same_letters) (rw (stands.same_words, stands.same_ones) refl))

  -- and it is imported, where there is room
  pub listed_imports : (room : ℕ) → length card ≤ room → importing limit (list_of card) room ≡ given (length card)
  listed_imports room h =
      let stands = listed_stands limit few card admitted in
      let size : size_of (length (its_words limit card admitted)) ≡ length card =
      ap size_of (length_its limit card admitted) ∙ sym (admitted_size limit card admitted) in
      importing_writes limit (list_of card) room (listed_sound limit few card admitted)
      ∙ rw stands.same_twos (rw (stands.same_kind, stands.same_letters) (rw (stands.same_words, stands.same_ones)
      (card_given room (its_hold limit card admitted) (omega arith) ∙ ap given size)))

  -- "must import to the same card"
  pub same_card : AreBytes card → card_in (list_of card) ≡ card
  same_card bytes = listed_card ∙ again_card limit card admitted bytes

-- ---- by the contracts: what `export` wrote, imported

module _ (limit : ℕ) (few : limit ≤ most_number) (card : List ℕ) {before after : List ℕ} {r : Answer ℕ} {n : ℕ}
    (did : Exports limit card before r after) (said : r ≡ given n) where
  exported_admitted : admission limit card ≡ given (told_by card)
  unfolding exporting
  exported_admitted = admission_given limit card (first_both _ _ (reading_order limit card) _ (sym did.answer ∙ said)).0

  -- the list is the first n bytes of the output
  pub exported_list : take n after ≡ list_of card
  exported_list =
      let answer = sym did.answer ∙ said in
      let size = sym (list_long limit card (length before) answer) in
      let rest = drop (length (list_of card)) before in
      let bytes : after ≡ list_of card ++ rest = rw answer at did.bytes in
      ap (take n) bytes ∙ take_at (list_of card) rest n size

  -- "with a hyphen in every span (`7-7` if one wide)": line e of a span card's list is a run, from its first place to its last, counted from 1
  pub hyphen_in_each : (told_by card).kind ≡ span → (e : ℕ) → e < (told_by card).m
      → (line_in (take n after) e).listed ≡ Run ((slot_of card e).one + 1) ((slot_of card e).two + 1)
  hyphen_in_each kind e h =
      ap (λ (xs : List ℕ). (line_in xs e).listed) exported_list
      ∙ ap (λ (x : Line). x.listed) (line_listed limit few card exported_admitted e h)
      ∙ sym (for_span (told_by card).kind (slot_of card e) kind)

  -- "must import to the same card"
  pub exported_imports : {room end : List ℕ} {q : Answer ℕ} → Imports limit (take n after) room q end → length card ≤ length room
      → (q ≡ given (length card)) × (end ≡ card ++ drop (length card) room)
  exported_imports {room} {end} imports h =
      let own = rw exported_list at imports in
      let answer : importing limit (list_of card) (length room) ≡ given (length card) =
      listed_imports limit few card exported_admitted (length room) h in
      let same : card_in (list_of card) ≡ card = same_card limit few card exported_admitted did.of_bytes in
      let text : end ≡ card_in (list_of card) ++ drop (length (card_in (list_of card))) room = rw answer at own.bytes in
      (own.answer ∙ answer, text ∙ ap (λ (xs : List ℕ). xs ++ drop (length xs) room) same)
