-- An admitted card's own entries hold, and so do they in lists: they are what the writer, and whoever builds from lists, asks. Assumes nothing.
use mathlib.Core.Path.{◌≡◌, sym, ap, ◌∙◌}
use mathlib.Core.List.{List}
use Prim.Native.Nat.{ℕ, ◌+◌, ◌<◌}
use native.Mathlib.Omega.{arith}
use lib.ListN.{length}
use Rattle.base_answers.specs.Answer.{given, sound, first}
use Rattle.base_lists.specs.Row.{row}
use Rattle.base_lists.proofs.RowLaws.{length_row, row_at}
use Rattle.card_entries.specs.declared.Format.{Format}
use Rattle.card_entries.specs.Fault.{entry_tests}
use Rattle.card_entries.specs.Slot.{slot_from}
use Rattle.card_entries.proofs.SlotLaws.{slot_from_lem}
use Rattle.card_layout.specs.Layout.{told_by, size_of, slot_of}
use Rattle.card_reader.specs.Fetching.{admission}
use Rattle.card_reader.proofs.FetchingLaws.{admission_admits}
use Rattle.card_reader.proofs.SoundLaws.{Reads, holds_reads}
use Rattle.card_entries.specs.Hold.{format_for, ListsHold}
use Rattle.card_entries.proofs.HoldLaws.{row_holds, slots_each}

module _ (limit : ℕ) (card : List ℕ) {f : Format} (admitted : admission limit card ≡ given f) where
  pub its_reads : Reads limit card
  its_reads = holds_reads limit card (admission_admits limit card admitted).order

  pub its_told : f ≡ told_by card
  its_told = (admission_admits limit card admitted).told

  pub admitted_size : length card ≡ size_of f.m
  admitted_size = rw its_told its_reads.laid.size

  -- its entries, in lists
  abbrev pub its_words : List ℕ
  its_words = row (λ e. (slot_of card e).word) 0 f.m

  abbrev pub its_ones : List ℕ
  its_ones = row (λ e. (slot_of card e).one) 0 f.m

  abbrev pub its_twos : List ℕ
  its_twos = row (λ e. (slot_of card e).two) 0 f.m

  pub length_its : length its_words ≡ f.m
  length_its = length_row (λ e. (slot_of card e).word) 0 f.m

  pub format_same : format_for f.kind f.l its_words ≡ f
  format_same = λ i. record { kind = f.kind; l = f.l; m = length_its i }

  pub slot_same : (e : ℕ) → e < f.m → slot_from its_words its_ones its_twos e ≡ slot_of card e
  slot_same e h =
      let here : 0 + e ≡ e = omega arith in
      let word = row_at (λ i. (slot_of card i).word) 0 0 f.m e h ∙ ap (λ (i : ℕ). (slot_of card i).word) here in
      let one = row_at (λ i. (slot_of card i).one) 0 0 f.m e h ∙ ap (λ (i : ℕ). (slot_of card i).one) here in
      let two = row_at (λ i. (slot_of card i).two) 0 0 f.m e h ∙ ap (λ (i : ℕ). (slot_of card i).two) here in
      slot_from_lem its_words its_ones its_twos e ∙ (λ i. record { word = word i; one = one i; two = two i })

  -- hold
  pub its_hold : ListsHold limit (format_for f.kind f.l its_words) its_words its_ones its_twos
  its_hold = record {
    as_ones = length_row (λ e. (slot_of card e).one) 0 f.m ∙ sym length_its;
    as_twos = length_row (λ e. (slot_of card e).two) 0 f.m ∙ sym length_its;
    hold = row_holds (format_for f.kind f.l its_words) (slot_from its_words its_ones its_twos)
        (rw its_told its_reads.hold.a_kind) (rw its_told its_reads.hold.letters) (rw (length_its, its_told) its_reads.hold.count)
        (λ e h.
        let there : e < f.m = rw length_its at h in
        let own : first (entry_tests (told_by card) e (slot_of card e)) sound ≡ given sound = slots_each (slot_of card) its_reads.hold e (rw its_told at there) in
        rw (format_same, slot_same e there) (rw (sym its_told) at own));
  }
