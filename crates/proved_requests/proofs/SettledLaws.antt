-- Laws of settling narrow span cards: the tests of a card, one by one and together, and what is said of one. Assumes nothing.
use mathlib.Core.Path.{◌≡◌, refl, sym, ap, ◌∙◌, subst}
use mathlib.Core.Logic.{◌⊎◌, inl, inr}
use mathlib.Core.List.{List, map}
use Prim.Native.Nat.{ℕ, ◌≤◌, ◌<◌}
use native.Mathlib.Omega.{arith}
use lib.ListN.{length}
use Rattle.base_answers.specs.Numbers.{Kind, Room, Wider}
use Rattle.base_answers.specs.Answer.{Answer, given, refused, Test, first, sound}
use Rattle.base_answers.proofs.Laws.{given_not_refused}
use Rattle.card_entries.specs.declared.Slot.{Slot}
use Rattle.card_entries.specs.Slot.{slot_from}
use Rattle.card_entries.specs.Fault.{pair, span}
use Rattle.card_entries.specs.Entry.{entry_of}
use Rattle.card_entries.specs.Bounds.{most_entries}
use Rattle.card_layout.specs.Layout.{told_by, slot_of, slots_on}
use Rattle.card_layout.specs.Card.{card_of}
use Rattle.card_layout.proofs.LaidLaws.{card_told}
use Rattle.card_reader.specs.Reading.{reading_order}
use Rattle.card_lists.specs.Lists.{lists_tests}
use Rattle.card_entries.specs.Hold.{format_for}
use Rattle.card_lists.proofs.Laws.{lists_held}
use Rattle.card_writer.proofs.ReadBackLaws.{accepted_order}
use Rattle.build_sequence.specs.Build.{Build}
use Rattle.build_sequence.specs.Tables.{Table, stored_in}
use Rattle.build_sequence.specs.Verdict.{Verdict, Tells, Outcome, settled}
use Rattle.span_theory.specs.Settling.{span_entries}
use Rattle.span_layers.specs.Narrow.{Narrow}
use Rattle.span_layers.specs.Settling.{settles}
use Rattle.build_card.specs.declared.BuildAnswer.{BuildAnswer}
use Rattle.build_card.specs.Building.{letters_in, build_tests, answer_of, letters_after}
use Rattle.build_card.proofs.CardLaws.{reader_refuses, order_held, room_held, no_room, has_room}
use Rattle.build_narrow.specs.Settling.{lists_build_tests, settle_tests, tells, refuses, OfCard, OfLists}
use Rattle.build_narrow.specs.Settling as narrow
use Rattle.build_narrow.proofs.TestLaws.{narrow_widths, wide_refused, refused_wide, span_tests, span_go_on, span_wrong}
use Rattle.build_narrow.proofs.TestLaws.{span_hold, span_refused_wide, tests_refuse, tests_go_on, tests_hold, refusals, build_as_card}
use Rattle.build_narrow.proofs.SettlingLaws.{other_tests, settled_one}
use Rattle.proved_demands.specs.Demanded.{Fits}
use Rattle.proved_demands.specs.Tables.{kind_of, OnCard}
use Rattle.proved_demands.proofs.MeaningLaws.{made_slots}
use Rattle.proved_requests.specs.Settled.{SettlesCard, OnNarrowCard, FirstWide}
use Rattle.proved_requests.proofs.NumberLaws.{building_below}

-- ---- the entries of a span card

module _ (card : List ℕ) (v : Verdict) (kind : (told_by card).kind ≡ span) where
  pub as_spans : Tells (Build (told_by card).l (span_entries (slots_on card))) v → Tells (Fits card) v
  as_spans t = subst (λ (k : ℕ). Tells (Build (told_by card).l (map (entry_of k) (slots_on card))) v) (sym kind) t

  of_spans : Tells (Fits card) v → Tells (Build (told_by card).l (span_entries (slots_on card))) v
  of_spans t = subst (λ (k : ℕ). Tells (Build (told_by card).l (map (entry_of k) (slots_on card))) v) kind t

-- ---- the tests of a card

module _ (card : List ℕ) (room : ℕ) where
  abbrev card_tests : List Test
  card_tests = settle_tests (told_by card).kind (slots_on card) (build_tests most_entries card room)

  -- they hold exactly for narrow span cards with room
  pub narrow_hold : OnNarrowCard card room → first card_tests sound ≡ given sound
  narrow_hold on =
      tests_go_on (told_by card).kind (slots_on card) (build_tests most_entries card room)
      (has_room most_entries card room on.admitted on.room_for)
      ∙ sym (span_go_on (told_by card).kind (slots_on card) on.kind)
      ∙ narrow_widths (slot_of card) (told_by card).m on.narrow

  hold_narrow : first card_tests sound ≡ given sound → OnNarrowCard card room
  hold_narrow e =
      let b = tests_hold (told_by card).kind (slots_on card) (build_tests most_entries card room) e in
      let s = span_hold (told_by card).kind (slots_on card) b.1 in
      record { admitted = order_held most_entries card room b.0; room_for = room_held most_entries card room b.0; kind = s.0; narrow = s.1 }

  -- ---- the refusals

  pub reader_refused : {n p : ℕ} → first (reading_order most_entries card) sound ≡ refused n p → first card_tests sound ≡ refused n p
  reader_refused e =
      tests_refuse (told_by card).kind (slots_on card) (build_tests most_entries card room) (reader_refuses most_entries card room e)

  module _ (admitted : first (reading_order most_entries card) sound ≡ given sound) where
    pub no_room_refused : room < letters_in (told_by card) → first card_tests sound ≡ refused Room 0
    no_room_refused h =
        tests_refuse (told_by card).kind (slots_on card) (build_tests most_entries card room) (no_room most_entries card room admitted h)

    module _ (room_for : letters_in (told_by card) ≤ room) where
      kind_next : first card_tests sound ≡ first (span_tests (told_by card).kind (slots_on card)) sound
      kind_next =
          tests_go_on (told_by card).kind (slots_on card) (build_tests most_entries card room)
          (has_room most_entries card room admitted room_for)

      pub pair_refused : (told_by card).kind ≡ pair → first card_tests sound ≡ refused Kind 0
      pair_refused kind = kind_next ∙ sym (span_wrong (told_by card).kind (slots_on card) (λ e. omega (arith, kind, e)))

      pub first_wide_refused : (e : ℕ) → (told_by card).kind ≡ span → FirstWide card e → first card_tests sound ≡ refused Wider e
      first_wide_refused e kind w =
          kind_next
          ∙ sym (span_go_on (told_by card).kind (slots_on card) kind)
          ∙ wide_refused (slot_of card) (told_by card).m w.there w.wide w.earlier

  -- 30 is the refusal of a width
  pub refused_first_wide : (e : ℕ) → first card_tests sound ≡ refused Wider e
      → ((first (reading_order most_entries card) sound ≡ given sound) × (letters_in (told_by card) ≤ room))
      × (((told_by card).kind ≡ span) × FirstWide card e)
  refused_first_wide e h = by_cases (refusals (told_by card).kind (slots_on card) (build_tests most_entries card room) h)
    where
      by_cases : (first (build_tests most_entries card room) sound ≡ refused Wider e)
          ⊎ ((first (build_tests most_entries card room) sound ≡ given sound) × ((Wider ≡ Kind) ⊎ (Wider ≡ Wider)))
          → ((first (reading_order most_entries card) sound ≡ given sound) × (letters_in (told_by card) ≤ room))
          × (((told_by card).kind ≡ span) × FirstWide card e)
      by_cases (inl building) = absurd (omega (arith, building_below most_entries card room building))
      by_cases (inr (hold, by)) =
          let s = span_refused_wide (told_by card).kind (slots_on card)
          (sym (tests_go_on (told_by card).kind (slots_on card) (build_tests most_entries card room) hold) ∙ h) in
          let w = refused_wide (slot_of card) (told_by card).m s.1 in (
            (order_held most_entries card room hold, room_held most_entries card room hold),
            (s.0, record { there = w.0; wide = w.1; earlier = w.2 }),
          )

  -- ---- what is said

  pub said_narrow : {o : Outcome} → OfCard most_entries card room (given o) → OnNarrowCard card room
  said_narrow (tells e m) = hold_narrow e

  pub said_tells : {v : Verdict} {k : ℕ} → OfCard most_entries card room (given (settled v k)) → (k ≡ 0) × Tells (Fits card) v
  said_tells (tells e (settles {v} t)) = (refl, as_spans card v (hold_narrow e).kind t)

  pub tells_said : (v : Verdict) → OnNarrowCard card room → Tells (Fits card) v → OfCard most_entries card room (given (settled v 0))
  tells_said v on t = tells (narrow_hold on) (settles {v = v} (of_spans card v on.kind t))

  pub narrow_given : {a : Answer Outcome} → OnNarrowCard card room → OfCard most_entries card room a
      → (v : Verdict) × (a ≡ given (settled v 0))
  narrow_given on (tells e (settles {v} t)) = (v, refl)
  narrow_given on (refuses e) = absurd (given_not_refused (sym (narrow_hold on) ∙ e))

pub said_refusal : {ts : List Test} {kind l : ℕ} {es : List Slot} {n p : ℕ} → narrow.Settled ts kind l es (refused n p)
    → first (settle_tests kind es ts) sound ≡ refused n p
said_refusal (refuses e) = e

-- the answer and the output, by what is said
module _ (card : List ℕ) {before after : List ℕ} {r : Answer BuildAnswer} (p : SettlesCard card before r after) where
  pub settled_by : {a : Answer Outcome} → OfCard most_entries card (length before) a → (r ≡ answer_of a) × (after ≡ letters_after a before)
  settled_by says =
      let same = settled_one p.says says in
      (p.answer ∙ ap answer_of same, p.output ∙ ap (λ (a : Answer Outcome). letters_after a before) same)

  pub refused_by : {n q : ℕ} → first (card_tests card (length before)) sound ≡ refused n q
      → (r ≡ refused n q) × (after ≡ before)
  refused_by e = settled_by (refuses e)

-- ---- the card of lists, and of a table

module _ (kind l : ℕ) (words ones twos : List ℕ) (before : List ℕ)
    (hold : first (lists_tests most_entries kind l words ones twos) sound ≡ given sound) where
  abbrev made : List ℕ
  made = card_of (format_for kind l words) (slot_from words ones twos)

  same_tests : first (lists_build_tests most_entries kind l words ones twos (length before)) sound
      ≡ first (build_tests most_entries made (length before)) sound
  same_tests =
      build_as_card most_entries kind l words ones twos (length before) made hold
      (accepted_order kind l words ones twos (lists_held hold))
      (card_told (format_for kind l words) (slot_from words ones twos))

  made_says : {a : Answer Outcome} → OfLists most_entries kind l words ones twos (length before) a → OfCard most_entries made (length before) a
  made_says s =
      let f = format_for kind l words in
      let slots = slot_from words ones twos in
      rw (made_slots f slots, card_told f slots) (other_tests same_tests s)

  pub made_settles : {after : List ℕ} {r : Answer BuildAnswer}
      → narrow.SettlesInto answer_of (OfLists most_entries kind l words ones twos (length before)) before r after
      → SettlesCard made before r after
  made_settles p = record { said = p.said; says = made_says p.says; answer = p.answer; output = p.output }

pub on_table : (card : List ℕ) (room : ℕ) → first (build_tests most_entries card room) sound ≡ given sound → (t : Table) → kind_of t ≡ span
    → Narrow (stored_in t)
    → OnCard t card
    → OnNarrowCard card room
on_table card room hold t kind narrow on = record {
  admitted = order_held most_entries card room hold;
  room_for = room_held most_entries card room hold;
  kind = on.kind ∙ kind;
  narrow = rw on.entries narrow;
}
