-- The first bytes of a card, one more than the longest card has, are enough for `card2list` and `card2fasta`: what each writes for them is
-- what it writes for all of it, since the reader refuses both alike (`FrontLaws` of `card_reader`). And no list that is too long for `list2card` has
-- a card. Assumes nothing.
use mathlib.Core.Path.{◌≡◌, refl, sym, ap, ◌∙◌}
use mathlib.Core.Logic.{⊎_elim}
use mathlib.Core.List.{List}
use Prim.Native.Nat.{ℕ, ◌≤◌, ◌<◌}
use native.Mathlib.Omega.{arith}
use lib.ListN.{length, take}
use lib.Seq.{take_all, length-take-le}
use borrow.Author.Tests.{lt-leb}
use Rattle.base_answers.specs.Answer.{given, output_after}
use Rattle.card_reader.proofs.FetchingLaws.{admission_refused}
use Rattle.card_reader.proofs.FrontLaws.{Alike, enough, needed}
use Rattle.card_entries.specs.Bounds.{most_entries}
use Rattle.text_probes.proofs.NumberLaws.{lt_or_le}
use Rattle.text_import.specs.Importing.{card_in, importing, Imports}
use Rattle.text_import.proofs.Imported.{imported_short}
use Rattle.text_export.specs.Exporting.{list_room}
use Rattle.text_export.proofs.ExportLaws.{card_refused}
use Rattle.program_streams.specs.Input.{program_bytes, most_list, list_bytes}
use Rattle.program_lines.proofs.LongInput.{said_too}
use Rattle.program_converting.specs.declared.Lengths.{Lengths}
use Rattle.program_converting.specs.Converting.{to_card, to_list}
use Rattle.program_converting.specs.Fasta.{ToFasta}

-- ---- a card

alike_written : (limit : ℕ) (card other : List ℕ) → Alike limit card other → to_list limit card ≡ to_list limit other
unfolding to_list
alike_written limit card other alike =
    let here = card_refused limit card (list_room limit) (admission_refused limit card alike.here) in
    let there = card_refused limit other (list_room limit) (admission_refused limit other alike.there) in
    rw (here, there) refl

pub front_enough : (limit : ℕ) (card : List ℕ) → to_list limit (take (program_bytes limit) card) ≡ to_list limit card
front_enough limit card =
    needed limit {Is = λ bytes. to_list limit bytes ≡ to_list limit card} (λ one other alike e. sym (alike_written limit one other alike) ∙ e)
    card refl

module _ {name out err out' err' : List ℕ} {r : Lengths} where
  fasta_too : {limit : ℕ} {card other : List ℕ} → Alike limit card other → ToFasta limit card name out err r out' err'
      → ToFasta limit other name out err r out' err'
  fasta_too alike did = record { said = did.said; says = said_too alike did.says; written = did.written }

  pub fasta_front_enough : (limit : ℕ) (card : List ℕ) → ToFasta limit (take (program_bytes limit) card) name out err r out' err'
      → ToFasta limit card name out err r out' err'
  fasta_front_enough limit card = enough limit (λ one other alike. fasta_too alike) card

  pub fasta_front_needed : (limit : ℕ) (card : List ℕ) → ToFasta limit card name out err r out' err'
      → ToFasta limit (take (program_bytes limit) card) name out err r out' err'
  fasta_front_needed limit card = needed limit (λ one other alike. fasta_too alike) card

-- ---- a list

-- The same of a list for `list2card`: of a longer one no more is written than that it is too long.
pub list_enough : (limit : ℕ) (list : List ℕ) → to_card limit (take list_bytes list) ≡ to_card limit list
unfolding to_card
list_enough limit list = ⊎_elim longer whole (lt_or_le most_list (length list))
  where
    longer : most_list < length list → to_card limit (take list_bytes list) ≡ to_card limit list
    longer h =
        let front : most_list < length (take list_bytes list) = omega (arith, length-take-le list_bytes list (omega arith)) in
        rw (lt-leb (length list) most_list h, lt-leb (length (take list_bytes list)) most_list front) refl

    whole : length list ≤ most_list → to_card limit (take list_bytes list) ≡ to_card limit list
    whole h = ap (to_card limit) (take_all list_bytes list (omega arith))

-- a list that is longer than `list2card` takes is refused anyway, whatever room there is: no card is kept back
pub longer_refused : (list room : List ℕ) {n : ℕ} → most_list < length list → importing most_entries list (length room) ≡ given n → ⊥
longer_refused list room {n} h says =
    let did : Imports most_entries list room (given n) (output_after (card_in list) room (importing most_entries list (length room))) =
    record { answer = sym says; bytes = refl } in
    omega (arith, imported_short did refl)
