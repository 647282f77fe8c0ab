-- What `table_answered` asks of a card, and `no_later`, `sole_narrows` and `none_narrows` of two cards, some cards have: each of the twelve
-- tables of 01 is on a card that passes build's tests, and each card widens itself. Assumes nothing.
use mathlib.Core.Path.{◌≡◌, refl, ap, ◌∙◌}
use mathlib.Core.List.{List, map}
use Prim.Native.Nat.{ℕ, ◌≤◌}
use Rattle.base_answers.specs.Answer.{given, sound}
use Rattle.card_entries.specs.declared.Format.{Format}
use Rattle.card_entries.specs.Slot.{slot_from, entries_in}
use Rattle.card_entries.specs.Bounds.{most_entries}
use Rattle.card_layout.specs.Layout.{told_by, entries_on}
use Rattle.card_layout.specs.Card.{card_of}
use Rattle.card_layout.proofs.LaidLaws.{card_told}
use Rattle.card_entries.specs.Hold.{format_for}
use Rattle.card_lists.proofs.Laws.{lists_held}
use Rattle.card_writer.proofs.ReadBackLaws.{accepted_order}
use Rattle.base_lists.specs.Members.{In}
use Rattle.build_sequence.specs.Tables.{Table, stored_in, tables}
use Rattle.base_lists.proofs.ListLaws.{paired_refl}
use Rattle.build_sequence.proofs.Tables.{map_agree}
use Rattle.build_card.specs.Building.{letters_in}
use Rattle.build_card.proofs.CardLaws.{has_room}
use Rattle.proved_demands.specs.Demanded.{Passes, Widened}
use Rattle.proved_demands.specs.Tables.{kind_of, OnCard}
use Rattle.proved_demands.proofs.MeaningLaws.{made_slots}
use Rattle.proved_demands.proofs.Examples.{words_of, ones_of, twos_of, tested, all_hold, all_stored}

-- ---- a card of each table

-- tables whose lists hold and have their entries have cards
card_with : (t : Table) → tested t ≡ given sound → entries_in (words_of t) (ones_of t) (twos_of t) ≡ stored_in t
    → (card : List ℕ) × OnCard t card
    × ((room : ℕ) → letters_in (told_by card) ≤ room → Passes card room)
card_with t hold stored =
    let f = format_for (kind_of t) 2 (words_of t) in
    let slots = slot_from (words_of t) (ones_of t) (twos_of t) in
    let card = card_of f slots in
    let on : OnCard t card = record {
      kind = ap (λ (g : Format). g.kind) (card_told f slots);
      letters = ap (λ (g : Format). g.l) (card_told f slots);
      entries = made_slots f slots ∙ stored;
    } in
    let order = accepted_order (kind_of t) 2 (words_of t) (ones_of t) (twos_of t) (lists_held hold) in
    (card, on, λ room. has_room most_entries card room order)

pub cards_of : (ts : List Table) → map tested ts ≡ map (λ t. given sound) ts
    → map (λ t. entries_in (words_of t) (ones_of t) (twos_of t)) ts ≡ map stored_in ts
    → (t : Table) → In t ts
    → (card : List ℕ) × OnCard t card
    × ((room : ℕ) → letters_in (told_by card) ≤ room → Passes card room)
cards_of ts hold stored t h =
    card_with t (map_agree tested (λ u. given sound) h hold) (map_agree (λ u. entries_in (words_of u) (ones_of u) (twos_of u)) stored_in h stored)

pub table_card : (t : Table) → In t tables
    → (card : List ℕ) × OnCard t card
    × ((room : ℕ) → letters_in (told_by card) ≤ room → Passes card room)
table_card = cards_of tables all_hold all_stored

-- ---- two cards

pub widened_self : (card : List ℕ) → Widened card card
widened_self card =
    record {
      kind = refl;
      letters = refl;
      entries = paired_refl (λ e. record { word = refl; places = λ i h. h }) (entries_on card);
    }
