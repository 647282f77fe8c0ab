-- Laws of entries that hold: what each bound says in numbers, and what each entry of three lists has. Assumes nothing.
use mathlib.Core.Path.{◌≡◌, sym, ◌∙◌}
use mathlib.Core.Logic.{⊎_elim}
use mathlib.Core.Bool.{true}
use mathlib.Core.List.{List}
use Prim.Native.Nat.{ℕ, ◌+◌, ◌^◌, ◌≤◌, ◌<◌}
use native.Mathlib.Omega.{arith}
use lib.Dec.{eqb}
use lib.ListN.{length, get_or}
use borrow.Author.Tests.{eqb-true}
use Rattle.base_lists.specs.Row.{row}
use Rattle.base_lists.specs.Members.{In}
use Rattle.base_lists.proofs.TestLaws.{either}
use Rattle.base_lists.proofs.RowLaws.{length_row}
use Rattle.base_lists.proofs.AtLaws.{at_row, row_has, in_at}
use Rattle.base_answers.specs.Answer.{given, sound, first}
use Rattle.card_entries.specs.declared.Format.{Format}
use Rattle.card_entries.specs.declared.Slot.{Slot}
use Rattle.card_entries.specs.Slot.{slot_from}
use Rattle.card_entries.specs.Fault.{pair, span, least_length, most_length, pair_holds, span_holds, places_hold, entry_tests}
use Rattle.card_entries.specs.Bounds.{least_entries, most_entries, is_within, is_kind}
use Rattle.card_entries.specs.Hold.{Hold, format_for, ListsHold}
use Rattle.card_entries.proofs.Laws.{within_both, sound_has, span_says, span_holds_lem, pair_holds_lem}
use Rattle.card_entries.proofs.SlotLaws.{slot_from_lem}

-- ---- a format and its entries

module _ {limit : ℕ} {f : Format} {es : List Slot} (h : Hold limit f es) where
  pub hold_letters : (least_length ≤ f.l) × (f.l ≤ most_length)
  hold_letters = within_both least_length most_length f.l h.letters

  pub hold_count : (least_entries ≤ f.m) × (f.m ≤ limit)
  hold_count = within_both least_entries limit f.m h.count

  pub hold_kind : (f.kind ≡ span → ⊥) → f.kind ≡ pair
  hold_kind n =
      ⊎_elim (λ e. eqb-true f.kind pair e) (λ e. absurd (n (eqb-true f.kind span e)))
      (either (eqb f.kind pair) (eqb f.kind span) h.a_kind)

  -- an entry, by its word and its places
  pub hold_in : {e : Slot} → In e es → (e.word < 4 ^ f.l) × (places_hold f.kind f.m e.one e.two ≡ true)
  hold_in {e} i = let at = in_at i in sound_has f at.0 e (h.each at.0 e at.1)

  -- their format, where the kind is known
  pub hold_of_kind : {kind : ℕ} → f.kind ≡ kind → Hold limit (format_for kind f.l es) es
  hold_of_kind e =
      let format : f ≡ format_for _ f.l es = λ i. record { kind = e i; l = f.l; m = sym h.all i } in rw format at h

-- entries by themselves
module _ {limit kind l : ℕ} {es : List Slot} (h : Hold limit (format_for kind l es) es) where
  pub hold_some : 0 < length es
  hold_some = omega (arith, (hold_count h).0)

  pub hold_fits : (e : Slot) → In e es → e.word < 4 ^ l
  hold_fits e i = (hold_in h i).0

  -- no span ends before it begins
  pub hold_rises : kind ≡ span → (e : Slot) → In e es → e.one ≤ e.two
  hold_rises k e i = (span_says (span_holds_lem kind (length es) e.one e.two k ∙ (hold_in h i).1)).in_order

-- entries by their numbers
pub row_holds : {limit : ℕ} (f : Format) (slots : ℕ → Slot) → is_kind f.kind ≡ true → is_within least_length most_length f.l ≡ true
    → is_within least_entries limit f.m ≡ true
    → ((e : ℕ) → e < f.m → first (entry_tests f e (slots e)) sound ≡ given sound)
    → Hold limit f (row slots 0 f.m)
row_holds f slots a_kind letters count each = record {
  a_kind = a_kind;
  letters = letters;
  count = count;
  all = length_row slots 0 f.m;
  each = λ e s a.
      let at = at_row slots 0 f.m a in
      let here : 0 + e ≡ e = omega arith in
      rw (at.1, here) (each e at.0);
}

pub slots_each : {limit : ℕ} {f : Format} (slots : ℕ → Slot) → Hold limit f (row slots 0 f.m) → (e : ℕ) → e < f.m
    → first (entry_tests f e (slots e)) sound ≡ given sound
slots_each {f} slots h e i =
    let here : 0 + e ≡ e = omega arith in rw here at (h.each e (slots (0 + e)) (row_has slots 0 f.m e i))

-- ---- three lists

module _ {limit : ℕ} {f : Format} {words ones twos : List ℕ} (h : ListsHold limit f words ones twos) where
  pub lists_count : length words ≡ f.m
  lists_count = sym (length_row (slot_from words ones twos) 0 (length words)) ∙ h.hold.all

  pub lists_of_kind : {kind : ℕ} → f.kind ≡ kind → ListsHold limit (format_for kind f.l words) words ones twos
  lists_of_kind e =
      let format : f ≡ format_for _ f.l words = λ i. record { kind = e i; l = f.l; m = sym lists_count i } in
      record { as_ones = h.as_ones; as_twos = h.as_twos; hold = rw format at h.hold }

module _ {limit kind l : ℕ} {words ones twos : List ℕ} (h : ListsHold limit (format_for kind l words) words ones twos) where
  -- entry e has no fault
  pub lists_each : (e : ℕ) → e < length words → first (entry_tests (format_for kind l words) e (slot_from words ones twos e)) sound ≡ given sound
  lists_each e i = slots_each (slot_from words ones twos) h.hold e i

  entry_has : (e : ℕ) → e < length words
      → (get_or words e 0 < 4 ^ l) × (places_hold kind (length words) (get_or ones e 0) (get_or twos e 0) ≡ true)
  entry_has e i = rw (slot_from_lem words ones twos e) at (sound_has (format_for kind l words) e (slot_from words ones twos e) (lists_each e i))

  pub lists_fit : (e : ℕ) → e < length words → get_or words e 0 < 4 ^ l
  lists_fit e i = (entry_has e i).0

  pub lists_spans : kind ≡ span → (e : ℕ) → e < length words → span_holds (length words) (get_or ones e 0) (get_or twos e 0) ≡ true
  lists_spans k e i = span_holds_lem kind (length words) (get_or ones e 0) (get_or twos e 0) k ∙ (entry_has e i).1

  pub lists_pairs : kind ≡ pair → (e : ℕ) → e < length words → pair_holds (length words) (get_or ones e 0) (get_or twos e 0) ≡ true
  lists_pairs k e i =
      pair_holds_lem kind (length words) (get_or ones e 0) (get_or twos e 0) (λ same. omega (arith, k, same)) ∙ (entry_has e i).1

-- ---- the lists that a method takes

module _ {kind l : ℕ} {words ones twos : List ℕ} (h : ListsHold most_entries (format_for kind l words) words ones twos) where
  pub some_letter : 0 < l
  some_letter = omega (arith, (hold_letters h.hold).0)

  pub few_letters : l ≤ most_length
  few_letters = (hold_letters h.hold).1

  pub some_entry : 0 < length words
  some_entry = omega (arith, (hold_count h.hold).0)

  pub few_entries : length words ≤ most_entries
  few_entries = (hold_count h.hold).1
