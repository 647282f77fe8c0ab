-- What exporting answers, and what an admitted card has, that this crate's proofs and the crates above cite. Assumes nothing.
use mathlib.Core.Path.{◌≡◌, refl, sym, ap, ◌∙◌}
use mathlib.Core.Bool.{true}
use mathlib.Core.List.{List, ◌++◌}
use Prim.Native.Nat.{ℕ, ◌+◌, ◌*◌, ◌/◌, ◌≤◌, ◌<◌}
use native.Mathlib.Omega.{arith}
use lib.ListN.{length, drop}
use borrow.Author.Tests.{le-leb, lt-leb}
use Rattle.base_answers.specs.Numbers.{Room}
use Rattle.base_answers.specs.Answer.{given, refused}
use Rattle.base_lists.specs.Row.{row}
use Rattle.base_answers.proofs.Laws.{first_holds, first_refused, first_fail, first_last, first_value}
use Rattle.card_block.specs.Bytes.{AreBytes}
use Rattle.card_block.specs.Block.{block_bytes}
use Rattle.card_entries.specs.declared.Format.{Format}
use Rattle.card_entries.specs.Fault.{least_length, most_length}
use Rattle.card_entries.specs.Bounds.{least_entries, most_entries}
use Rattle.card_layout.specs.Layout.{per_block, told_by, slot_of}
use Rattle.card_entries.proofs.Laws.{within_both}
use Rattle.card_reader.specs.Reading.{reading_order}
use Rattle.card_reader.specs.Fetching.{admission}
use Rattle.card_reader.proofs.FetchingLaws.{order_refused, admission_admits}
use Rattle.card_reader.proofs.AdmittedLaws.{its_reads, its_told, admitted_size}
use Rattle.text_probes.specs.Line.{line_text, most_line, is_small}
use Rattle.text_probes.proofs.LengthLaws.{line_few}
use Rattle.build_sequence.proofs.LetterLaws.{length_letters}
use Rattle.text_export.specs.Exporting.{listed_for, text_of, list_of, exporting, Exports}
use Rattle.text_export.proofs.AdmittedLines.{back, line_fine}
use Rattle.text_export.proofs.LoopLaws.{line_at}

module _ (card : List ℕ) {f : Format} (admitted : admission most_entries card ≡ given f) where
  told : f ≡ told_by card
  told = its_told most_entries card admitted

  pub list_is : list_of card ≡ text_of (row (line_at f card) 0 f.m)
  list_is = rw (sym told) refl

  pub its_bounds : (0 < f.l) × (f.l ≤ most_length) × (f.m ≤ most_entries)
  its_bounds =
      let reads = its_reads most_entries card admitted in
      let letters = within_both least_length most_length (told_by card).l reads.hold.letters in
      let count = within_both least_entries most_entries (told_by card).m reads.hold.count in
      rw told (omega (arith, letters.0), letters.1, count.1)

  pub slot_there : (e : ℕ) → e < f.m → block_bytes * (1 + e / per_block) + block_bytes ≤ length card
  slot_there e h = omega (arith, admitted_size most_entries card admitted)

  pub its_small : (e : ℕ) → e < f.m → is_small (listed_for f.kind (slot_of card e)) ≡ true
  its_small e h = rw told (back most_entries (omega arith) card (rw told at admitted) e (rw told at h)).small

  pub its_short : (e : ℕ) → e < f.m → length (line_text (line_at f card e)) ≤ most_line
  its_short e h =
      rw told
      (line_few (line_at (told_by card) card e) (line_fine most_entries (omega arith) card (rw told at admitted) e (rw told at h))
      (omega (arith, length_letters (told_by card).l (slot_of card e).word, rw told at its_bounds.1)))

-- ---- what it answers

module _ (limit : ℕ) (card : List ℕ) {f : Format} (admitted : admission limit card ≡ given f) (room : ℕ) where
  pub list_given : length (list_of card) ≤ room → exporting limit card room ≡ given (length (list_of card))
  unfolding exporting
  list_given h =
      first_holds _ _ (reading_order limit card) (admission_admits limit card admitted).order
      ∙ first_last _ _ _ _ (le-leb (length (list_of card)) room h)

  pub list_no_room : room < length (list_of card) → exporting limit card room ≡ refused Room 0
  unfolding exporting
  list_no_room h =
      first_holds _ _ (reading_order limit card) (admission_admits limit card admitted).order
      ∙ first_fail _ _ _ _ _ (lt-leb (length (list_of card)) room h)

module _ (card : List ℕ) (of_bytes : AreBytes card) {f : Format} (admitted : admission most_entries card ≡ given f) {before : List ℕ} {n : ℕ}
    (e : n ≡ length (list_of card)) where
  pub export_no_room : length before < n → Exports most_entries card before (refused Room 0) before
  export_no_room h =
      let says = list_no_room most_entries card admitted (length before) (omega arith) in
      record { of_bytes = of_bytes; answer = sym says; bytes = rw says }

  pub export_text : {part : List ℕ} → n ≤ length before → part ≡ list_of card → Exports most_entries card before (given n) (part ++ drop n before)
  export_text h is =
      let says : exporting most_entries card (length before) ≡ given n =
      list_given most_entries card admitted (length before) (omega arith) ∙ ap given (sym e) in
      record { of_bytes = of_bytes; answer = sym says; bytes = rw says (λ i. is i ++ drop (e i) before) }

-- the reader's refusals
pub card_refused : (limit : ℕ) (card : List ℕ) (room : ℕ) {n p : ℕ} → admission limit card ≡ refused n p → exporting limit card room ≡ refused n p
unfolding exporting
card_refused limit card room e = first_refused _ _ (reading_order limit card) (order_refused limit card e)

-- what is given is the list's length
pub list_long : (limit : ℕ) (card : List ℕ) (room : ℕ) {n : ℕ} → exporting limit card room ≡ given n → n ≡ length (list_of card)
unfolding exporting
list_long limit card room e = sym (first_value _ _ _ e)

pub export_refused : {card before : List ℕ} {n p : ℕ} → AreBytes card → admission most_entries card ≡ refused n p
    → Exports most_entries card before (refused n p) before
export_refused {card} {before} of_bytes e =
    let says = card_refused most_entries card (length before) e in
    record { of_bytes = of_bytes; answer = sym says; bytes = rw says }
