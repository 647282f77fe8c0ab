-- What the theorems of the requests ask of a card some cards have. Request 11: a card of each of S1 to S5 is narrow, one of `crowded_table` has
-- what `crowded_is_none` asks, one of `seven_table` 7 spans over a place and a build, and one of `wide_table` what `settle_wider` asks; a pair card
-- is one of P1 (`table_card` of the demands). Request 12: a card of `near_table` has what `near_card_same` asks of a pair card, and there is one
-- of two copies of P1. Assumes nothing.
use mathlib.Core.Path.{◌≡◌, refl, sym, ap, ◌∙◌}
use mathlib.Core.Logic.{inl, inr, ⊎_elim}
use mathlib.Core.List.{List, [], ◌∷◌}
use Prim.Native.Nat.{ℕ, ◌+◌, ◌≤◌, ◌<◌}
use native.Mathlib.Omega.{arith}
use lib.ListN.{length, get_or}
use Rattle.base_answers.specs.Answer.{given, first, sound}
use Rattle.base_lists.proofs.RowLaws.{length_row, row_at}
use Rattle.card_entries.specs.declared.Slot.{Slot}
use Rattle.card_entries.specs.Fault.{span}
use Rattle.card_entries.specs.Bounds.{most_entries}
use Rattle.card_layout.specs.Layout.{told_by, slot_of, slots_on}
use Rattle.card_reader.specs.Fetching.{admission}
use Rattle.card_reader.proofs.FetchingLaws.{admission_given}
use Rattle.base_lists.specs.Members.{In, later}
use Rattle.base_lists.specs.Members as lists
use Rattle.build_sequence.specs.Tables.{Table, stored_in, pair_tables, span_tables, Told}
use Rattle.base_lists.proofs.ListLaws.{not_in_nil, in_cons, in_append_right}
use Rattle.build_sequence.proofs.Tables.{map_agree, tables_told}
use Rattle.span_theory.specs.Settling.{span_entries}
use Rattle.span_theory.specs.Tables.{EachSettles}
use Rattle.span_theory.proofs.Tables.{tables_settle}
use Rattle.span_layers.specs.Narrow.{Narrow, crowd, most_over}
use Rattle.span_layers.proofs.Crowded.{crowded_none}
use Rattle.build_card.specs.Building.{letters_in, build_tests}
use Rattle.build_card.proofs.CardLaws.{order_held}
use Rattle.build_narrow.proofs.TestLaws.{widths_narrow}
use Rattle.build_sequence.specs.Verdict.{Tells}
use Rattle.proved_demands.specs.Demanded.{Fits}
use Rattle.proved_demands.specs.Tables.{kind_of, OnCard}
use Rattle.proved_requests.specs.Neighbours.{Near, AllNear}
use Rattle.proved_requests.specs.Settled.{OnNarrowCard, FirstWide}
use Rattle.proved_requests.specs.Tables.{p1_twice, near_table, crowded_table, wide_table, seven_table}
use Rattle.proved_demands.proofs.Inhabited.{cards_of, table_card}
use Rattle.proved_requests.proofs.Examples.{all_spans, further, further_decided, further_hold, further_stored, spanned, spanned_hold}
use Rattle.proved_requests.proofs.Examples.{spanned_stored, spanned_as_spans, spanned_walks, rest_decided, crowded_widths, crowded_over, seven_widths, seven_over}
use Rattle.proved_requests.proofs.SettledLaws.{as_spans, on_table}
use Rattle.proved_requests.proofs.Settled.{span_tables_settled}

-- the verdicts that they state are true
pub further_told : Told (near_table ∷ p1_twice ∷ [])
further_told = tables_told further further_decided

-- ---- two copies of P1

pub p1_twice_card : (card : List ℕ) × OnCard p1_twice card
    × ((room : ℕ) → letters_in (told_by card) ≤ room → first (build_tests most_entries card room) sound ≡ given sound)
p1_twice_card = cards_of further further_hold further_stored p1_twice (later lists.first)

-- ---- a pair card with one place and with neighbours

near_first : {x : Slot} {xs : List Slot} → Near x → AllNear xs → AllNear (x ∷ xs)
near_first here more s h = ⊎_elim (λ e. rw e here) (more s) (in_cons h)

near_table_near : AllNear (stored_in near_table)
near_table_near = near_first (inl refl) (near_first (inr refl) (near_first (inr refl) (λ s h. absurd (not_in_nil h))))

pub near_card : (card : List ℕ) × OnCard near_table card × (admission most_entries card ≡ given (told_by card)) × AllNear (slots_on card)
near_card =
    let made = cards_of further further_hold further_stored near_table lists.first in
    let room = letters_in (told_by made.0) in
    let order = order_held most_entries made.0 room (made.2 room (omega arith)) in
    (made.0, made.1, admission_given most_entries made.0 order, rw made.1.entries near_table_near)

-- ---- narrow span cards

-- a card of each of S1 to S5 is one, with room for its sequence
pub narrow_table_card : (t : Table) → In t span_tables
    → (card : List ℕ) × OnCard t card × ((room : ℕ) → letters_in (told_by card) ≤ room → OnNarrowCard card room)
narrow_table_card t h =
    let made = table_card t (in_append_right pair_tables h) in (
      made.0,
      made.1,
      λ room g.
          on_table made.0 room (made.2 room g) t (map_agree kind_of (λ u. span) h all_spans) (span_tables_settled t h).0 made.1,
    )

-- ---- with 8 spans over a place

crowded_narrow : Narrow (stored_in crowded_table)
crowded_narrow = widths_narrow 0 (stored_in crowded_table) crowded_widths

pub crowded_card : (card : List ℕ) × ((room : ℕ) → letters_in (told_by card) ≤ room → OnNarrowCard card room) × (most_over < crowd 0 (slots_on card))
crowded_card =
    let made = cards_of spanned spanned_hold spanned_stored crowded_table lists.first in (
      made.0,
      λ room g. on_table made.0 room (made.2 room g) crowded_table refl crowded_narrow made.1,
      rw made.1.entries (omega (arith, crowded_over)),
    )

-- ---- with an entry that is not narrow

-- the entry e of a card of a table
on_table_slot : {t : Table} {card : List ℕ} → OnCard t card → (d : Slot) (e : ℕ) → e < length (stored_in t)
    → (e < (told_by card).m) × (slot_of card e ≡ get_or (stored_in t) e d)
on_table_slot {t} {card} on d e h =
    let size = ap length on.entries in
    let there : e < (told_by card).m = omega (arith, size, length_row (slot_of card) 0 (told_by card).m) in
    let here : 0 + e ≡ e = omega arith in
    (there, sym (rw here at (row_at (slot_of card) d 0 (told_by card).m e there)) ∙ ap (λ (es : List Slot). get_or es e d) on.entries)

pub wide_card : (card : List ℕ) × ((room : ℕ) → letters_in (told_by card) ≤ room → first (build_tests most_entries card room) sound ≡ given sound)
    × (((told_by card).kind ≡ span) × FirstWide card 1)
wide_card =
    let made = cards_of spanned spanned_hold spanned_stored wide_table (later lists.first) in
    let d : Slot = record { word = 0; one = 0; two = 0 } in
    let one = on_table_slot made.1 d 1 (omega arith) in
    let zeroth = on_table_slot made.1 d 0 (omega arith) in (
      made.0,
      made.2,
      (
        made.1.kind,
        record {
          there = one.0;
          wide = rw one.1 refl;
          earlier = λ i h. let only : i ≡ 0 = omega arith in rw (only, zeroth.1) refl;
        },
      ),
    )

-- ---- what the three tables state is true

spanned_told : Told spanned
spanned_told t lists.first =
    let here : In crowded_table spanned = lists.first in
    let same = map_agree (λ u. span_entries (stored_in u)) (λ u. u.entries) here spanned_as_spans in
    rw same at (crowded_none 2 0 (stored_in crowded_table) crowded_narrow (omega (arith, crowded_over)))
spanned_told t (later h) = tables_told (wide_table ∷ seven_table ∷ []) rest_decided t h

pub spanned_settle : EachSettles (crowded_table ∷ wide_table ∷ seven_table ∷ [])
spanned_settle = tables_settle spanned spanned_as_spans spanned_walks spanned_told

-- ---- with 7 spans over a place, and a build: 8 is the least number that leaves none

pub seven_card : (card : List ℕ) × ((room : ℕ) → letters_in (told_by card) ≤ room → OnNarrowCard card room)
    × ((crowd 3 (slots_on card) ≡ most_over) × Tells (Fits card) seven_table.verdict)
seven_card =
    let here : In seven_table spanned = later (later lists.first) in
    let made = cards_of spanned spanned_hold spanned_stored seven_table here in
    let told = rw (← (spanned_settle seven_table here).0) at (spanned_told seven_table here) in (
      made.0,
      λ room g. on_table made.0 room (made.2 room g) seven_table refl (widths_narrow 0 (stored_in seven_table) seven_widths) made.1,
      (rw made.1.entries seven_over, as_spans made.0 seven_table.verdict made.1.kind (rw (made.1.letters, made.1.entries) told)),
    )
