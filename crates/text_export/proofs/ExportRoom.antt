-- Room for the list of every card: an output of `list_room` bytes is never too short. Assumes nothing.
use mathlib.Core.Path.{◌≡◌, refl, sym, ◌∙◌}
use mathlib.Core.List.{List, ◌++◌}
use Prim.Native.Nat.{ℕ, ◌≤◌}
use native.Mathlib.Omega.{arith}
use lib.ListN.{length, drop}
use Rattle.base_answers.specs.Numbers.{Room}
use Rattle.base_answers.specs.Answer.{Answer, given, refused, Sound, sound, first, output_after}
use Rattle.base_answers.proofs.Laws.{given_not_refused}
use Rattle.card_layout.specs.Layout.{told_by}
use Rattle.card_reader.specs.Reading.{reading_order}
use Rattle.card_reader.specs.Fetching.{admission}
use Rattle.card_reader.proofs.FetchingLaws.{admission_given, admission_refused}
use Rattle.card_reader.proofs.RefusalNumbers.{reader_below}
use Rattle.text_probes.specs.Line.{most_number}
use Rattle.text_import.specs.Importing.{card_in, importing, Imports}
use Rattle.text_import.proofs.Imported.{imported_short}
use Rattle.text_export.specs.Exporting.{list_of, exporting, list_room, Exports}
use Rattle.text_export.proofs.RoundTrip.{listed_imports}
use Rattle.text_export.proofs.ExportLaws.{list_given, card_refused}

module _ (limit : ℕ) (few : limit ≤ most_number) (card : List ℕ) (admitted : admission limit card ≡ given (told_by card)) where
  -- the list is imported, and no longer list is
  pub list_short : length (list_of card) ≤ list_room limit
  list_short =
      let says = listed_imports limit few card admitted (length card) (omega arith) in
      let after : List ℕ = output_after (card_in (list_of card)) card (importing limit (list_of card) (length card)) in
      let did : Imports limit (list_of card) card (given (length card)) after = record { answer = sym says; bytes = refl } in
      imported_short did refl

  -- an admitted card is exported, where there is room for its list, and so where there is room for every list
  pub export_given : {before after : List ℕ} {r : Answer ℕ} → Exports limit card before r after → length (list_of card) ≤ length before
      → (r ≡ given (length (list_of card))) × (after ≡ list_of card ++ drop (length (list_of card)) before)
  export_given {before} did room =
      let says = list_given limit card admitted (length before) room in
      (did.answer ∙ says, rw says at did.bytes)

  pub export_room : {before after : List ℕ} {r : Answer ℕ} → Exports limit card before r after → list_room limit ≤ length before
      → r ≡ given (length (list_of card))
  export_room did room = (export_given did (omega (arith, list_short))).0

-- so that with it 12 never comes
pub exporting_never : (limit : ℕ) → limit ≤ most_number → (card : List ℕ) {p : ℕ} → exporting limit card (list_room limit) ≡ refused Room p → ⊥
exporting_never limit few card {p} e = go (first (reading_order limit card) sound) refl
  where
    go : (a : Answer Sound) → first (reading_order limit card) sound ≡ a → ⊥
    go (given sound) holds =
        let admitted = admission_given limit card holds in
        given_not_refused (sym (list_given limit card admitted (list_room limit) (list_short limit few card admitted)) ∙ e)
    go (refused k q) stops =
        let same : k ≡ Room = cc (card_refused limit card (list_room limit) (admission_refused limit card stops)) in
        omega (arith, reader_below limit card sound stops)
