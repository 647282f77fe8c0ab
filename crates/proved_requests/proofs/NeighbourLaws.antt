-- Laws of entries whose two places are neighbours, and of the same entries on a span card: the same places, so the same builds, and the
-- tests of the span card hold where those of the pair card do. Assumes nothing.
use mathlib.Core.Path.{◌≡◌, refl, sym, ap, ◌∙◌}
use mathlib.Core.Logic.{⊎_elim}
use mathlib.Core.Bool.{Bool, true, false, cond}
use mathlib.Core.List.{List, map, map-map}
use Prim.Native.Nat.{ℕ, ◌+◌, ◌-◌, ◌≤◌, ◌<◌}
use native.Mathlib.Omega.{arith}
use lib.ListN.{length, get_or, length-map}
use lib.Dec.{eqb}
use borrow.Author.Tests.{lt-ltb, le-leb, lt-leb, eq-eqb, ne_eqb}
use Rattle.base_answers.specs.Answer.{given, first, sound}
use Rattle.base_lists.specs.Row.{row}
use Rattle.base_lists.proofs.RowLaws.{length_row, row_at, map_row}
use Rattle.card_entries.specs.declared.Places.{Places}
use Rattle.card_entries.specs.declared.Places.TheVariants.{One, Two, Span}
use Rattle.card_entries.specs.declared.Format.{Format}
use Rattle.card_entries.specs.declared.Slot.{Slot}
use Rattle.card_entries.specs.Slot.{slot_from, entries_in}
use Rattle.card_entries.specs.Fault.{pair, span, no_place, widest, pair_holds, span_holds, entry_tests}
use Rattle.card_entries.specs.Entry.{entry_of, allows}
use Rattle.card_entries.proofs.Allowed.{pair_entry, span_entry, pair_below}
use Rattle.card_entries.proofs.Laws.{span_width, span_holds_lem, pair_holds_lem, entry_sound, sound_has}
use Rattle.card_entries.proofs.SlotLaws.{slot_from_lem}
use Rattle.card_entries.specs.Bounds.{most_entries}
use Rattle.card_layout.specs.Layout.{told_by, slot_of, slots_on}
use Rattle.card_layout.proofs.CardLaws.{card_slot}
use Rattle.card_layout.proofs.LaidLaws.{card_told, card_laid}
use Rattle.card_reader.proofs.SoundLaws.{Reads}
use Rattle.card_entries.specs.Hold.{format_for, ListsHold}
use Rattle.card_entries.proofs.HoldLaws.{row_holds, slots_each, lists_each}
use Rattle.base_lists.specs.Members.{Paired}
use Rattle.build_sequence.specs.Verdict.{Widens}
use Rattle.base_lists.proofs.FillingLaws.{lt_or_le, same_or_not}
use Rattle.base_lists.proofs.ListLaws.{row_in, paired_map}
use Rattle.proved_demands.proofs.MeaningLaws.{made_slots}
use Rattle.proved_requests.specs.Neighbours.{Near, AllNear, span_of, Converted, Spanned, span_format, span_card, span_twos}

-- ---- the same places

module _ (p i : ℕ) where
  one_is_span : allows (One p) i ≡ allows (Span p p) i
  one_is_span =
      ⊎_elim (λ h. rw (ne_eqb i p (λ e. omega arith), lt-leb p i h))
      (λ h.
      ⊎_elim (λ k. rw (ne_eqb i p (λ e. omega arith), le-leb p i h, lt-leb i p k))
      (λ k. rw (eq-eqb i p (omega arith), le-leb p i h, le-leb i p k)) (lt_or_le p i))
      (lt_or_le i p)

  two_are_span : allows (Two p (p + 1)) i ≡ allows (Span p (p + 1)) i
  two_are_span =
      ⊎_elim (λ h. rw (ne_eqb i p (λ e. omega arith), ne_eqb i (p + 1) (λ e. omega arith), lt-leb p i h))
      (λ h.
      ⊎_elim (λ k. rw (ne_eqb i p (λ e. omega arith), ne_eqb i (p + 1) (λ e. omega arith), le-leb p i h, lt-leb i (p + 1) k))
      (λ k.
      ⊎_elim (λ e. rw (eq-eqb i p e, le-leb p i h, le-leb i (p + 1) k))
      (λ n. rw (ne_eqb i p n, eq-eqb i (p + 1) (omega (arith, n)), le-leb p i h, le-leb i (p + 1) k)) (same_or_not i p))
      (lt_or_le (p + 1) i))
      (lt_or_le i p)

module _ (s : Slot) (near : Near s) where
  -- by cases: one place p, whose span ends at p, and p and p + 1, whose span ends at p + 1
  near_by : (P : Places → ℕ → Type 0) → P (One s.one) s.one → P (Two s.one (s.one + 1)) (s.one + 1)
      → P (cond (eqb s.two no_place) (One s.one) (Two s.one s.two)) (span_of s).two
  near_by P one two = ⊎_elim (λ e. rw e one) (λ e. rw e (go (eqb (s.one + 1) no_place))) near
    where
      go : (b : Bool) → P (cond b (One s.one) (Two s.one (s.one + 1))) (cond b s.one (s.one + 1))
      go true = one
      go false = two

  near_places : (i : ℕ)
      → allows (cond (eqb s.two no_place) (One s.one) (Two s.one s.two)) i ≡ allows (Span s.one (span_of s).two) i
  near_places i = near_by (λ ps last. allows ps i ≡ allows (Span s.one last) i) (one_is_span s.one i) (two_are_span s.one i)

  near_width : (s.one ≤ (span_of s).two) × ((span_of s).two ≤ s.one + 1)
  near_width = near_by (λ ps last. (s.one ≤ last) × (last ≤ s.one + 1)) (omega arith) (omega arith)

  near_wider : Widens (entry_of pair s) (entry_of span (span_of s))
  near_wider = rw (pair_entry s, span_entry (span_of s)) (record { word = refl; places = λ i h. sym (near_places i) ∙ h })

  wider_near : Widens (entry_of span (span_of s)) (entry_of pair s)
  wider_near = rw (pair_entry s, span_entry (span_of s)) (record { word = refl; places = λ i h. near_places i ∙ h })

-- ---- the same builds

module _ {es es' : List Slot} (c : Converted es es') where
  as_spans : map (entry_of span) es' ≡ map (λ s. entry_of span (span_of s)) es
  as_spans = ap (map (entry_of span)) c.same ∙ map-map (entry_of span) span_of es

  pub spans_wider : Paired Widens (map (entry_of pair) es) (map (entry_of span) es')
  spans_wider = rw as_spans (paired_map (entry_of pair) (λ s. entry_of span (span_of s)) es (λ s h. near_wider s (c.near s h)))

  pub pairs_wider : Paired Widens (map (entry_of span) es') (map (entry_of pair) es)
  pairs_wider = rw as_spans (paired_map (λ s. entry_of span (span_of s)) (entry_of pair) es (λ s h. wider_near s (c.near s h)))

-- ---- the tests of an entry

-- the last place of the span is one of the pair's
near_holds : (m : ℕ) (s : Slot) → Near s → pair_holds m s.one s.two ≡ true → span_holds m s.one (span_of s).two ≡ true
near_holds m s near h =
    let last = (span_of s).two in
    let width = near_width s near in
    let at_last : allows (Span s.one last) last ≡ true = rw (le-leb s.one last width.0) (le-leb last last (omega arith)) in
    let below = pair_below m s.one s.two last h (near_places s near last ∙ at_last) in
    sym (span_width m s.one last width.0 (lt-ltb last m below)) ∙ lt-ltb (last - s.one) widest (omega (arith, width.1))

near_sound : (f : Format) (e : ℕ) (s : Slot) → f.kind ≡ pair → Near s → first (entry_tests f e s) sound ≡ given sound
    → first (entry_tests (span_format f) e (span_of s)) sound ≡ given sound
near_sound f e s kind near h =
    let has = sound_has f e s h in
    let holds = pair_holds_lem f.kind f.m s.one s.two (λ k. omega (arith, kind, k)) ∙ has.1 in
    entry_sound (span_format f) e (span_of s) has.0
    (sym (span_holds_lem span f.m s.one (span_of s).two refl) ∙ near_holds f.m s near holds)

-- ---- the lists

near_at : (slots : ℕ → Slot) (n : ℕ) → AllNear (row slots 0 n) → (e : ℕ) → e < n → Near (slots e)
near_at slots n near e h = near (slots e) (row_in slots 0 n e (omega arith) (omega arith))

-- entry e of the span card's lists
span_slot : (words ones twos : List ℕ) (e : ℕ) → e < length words
    → slot_from words ones (span_twos words ones twos) e ≡ span_of (slot_from words ones twos e)
span_slot words ones twos e h =
    let slots = slot_from words ones twos in
    let here : 0 + e ≡ e = omega arith in
    let two : get_or (span_twos words ones twos) e 0 ≡ (span_of (slots e)).two =
    ap (λ (xs : List ℕ). get_or xs e 0) (map_row (λ s. (span_of s).two) slots 0 (length words))
    ∙ rw here at (row_at (λ i. (span_of (slots i)).two) 0 0 (length words) e h) in
    rw (slot_from_lem words ones (span_twos words ones twos) e, slot_from_lem words ones twos e)
    (λ i. record { word = get_or words e 0; one = get_or ones e 0; two = (rw (slot_from_lem words ones twos e) at two) i })

pub near_hold : {limit l : ℕ} {words ones twos : List ℕ} → AllNear (entries_in words ones twos)
    → ListsHold limit (format_for pair l words) words ones twos
    → ListsHold limit (format_for span l words) words ones (span_twos words ones twos)
near_hold {l} {words} {ones} {twos} near has =
    let slots = slot_from words ones twos in
    record {
      as_ones = has.as_ones;
      as_twos = length-map (entries_in words ones twos) (λ s. (span_of s).two) ∙ length_row slots 0 (length words);
      hold = row_holds (format_for span l words) (slot_from words ones (span_twos words ones twos)) refl has.hold.letters has.hold.count
          (λ e h.
          rw (span_slot words ones twos e h)
          (near_sound (format_for pair l words) e (slots e) refl (near_at slots (length words) near e h) (lists_each has e h)));
    }

-- ---- the span card

module _ (card : List ℕ) where
  abbrev spans : ℕ → Slot
  spans e = span_of (slot_of card e)

  pub span_card_told : told_by (span_card card) ≡ span_format (told_by card)
  span_card_told = card_told (span_format (told_by card)) spans

  pub span_card_spanned : (told_by card).kind ≡ pair → AllNear (slots_on card) → Spanned card (span_card card)
  span_card_spanned kind near = record {
    kind = kind;
    kind' = ap (λ (f : Format). f.kind) span_card_told;
    letters = ap (λ (f : Format). f.l) (sym span_card_told);
    entries = record {
      near = near;
      same = made_slots (span_format (told_by card)) spans ∙ sym (map_row span_of (slot_of card) 0 (told_by card).m);
    };
  }

  -- it is read as the pair card is
  pub span_card_reads : Reads most_entries card → (told_by card).kind ≡ pair → AllNear (slots_on card) → Reads most_entries (span_card card)
  span_card_reads reads kind near = record {
    laid = card_laid (span_format (told_by card)) spans;
    hold = row_holds (told_by (span_card card)) (slot_of (span_card card)) (rw span_card_told refl) (rw span_card_told reads.hold.letters)
        (rw span_card_told reads.hold.count) (λ e h.
        let there : e < (told_by card).m = rw span_card_told at h in
        rw (span_card_told, card_slot (span_format (told_by card)) spans e there)
        (near_sound (told_by card) e (slot_of card e) kind (near_at (slot_of card) (told_by card).m near e there)
        (slots_each (slot_of card) reads.hold e there)));
  }
