-- What `Settled`, `Counted` and `Inhabited` say of tables, as far as it is computed: that their lists pass the tests, that their entries are
-- those of a card, how wide their spans are and how many are over a place, and what builds they have. Assumes nothing.
--   further    == pair tables beside the twelve of 01: one with one place and with neighbours, and two copies of P1
--   spanned    == span tables beside them: one with 8 spans over a place, one with an entry that is not narrow, one with 7 and a build
use mathlib.Core.Path.{◌≡◌, refl}
use mathlib.Core.List.{List, [], ◌∷◌, map, flat_map}
use lib.ListN.{length}
use Rattle.base_answers.specs.Answer.{given, first, sound}
use Rattle.base_lists.specs.Row.{row, in_turn}
use Rattle.card_entries.specs.Slot.{slot_from, entries_in}
use Rattle.card_entries.specs.Fault.{pair, span, pair_holds, span_holds, places_hold, entry_tests}
use Rattle.card_entries.specs.Entry.{places_of, entry_of}
use Rattle.card_lists.specs.Lists.{lists_tests}
use Rattle.build_sequence.specs.Arrangement.{overlaps}
use Rattle.build_sequence.specs.Many.{how_many}
use Rattle.build_sequence.specs.Tables.{Table, stored_in, span_tables}
use Rattle.build_sequence.proofs.Enumerator.{sequences}
use Rattle.build_sequence.proofs.VerdictOf.{verdict_of}
use Rattle.build_sequence.proofs.ManyOf.{distinct}
use Rattle.build_sequence.proofs.Tables.{decided}
use Rattle.span_theory.specs.Walk.{placements}
use Rattle.span_theory.specs.Settling.{span_entries}
use Rattle.pair_theory.specs.Settling.{pair_entries}
use Rattle.span_layers.specs.Narrow.{crowd, most_over}
use Rattle.build_narrow.specs.Settling.{width_tests}
use Rattle.proved_demands.specs.Tables.{kind_of}
use Rattle.proved_demands.proofs.Examples.{words_of, ones_of, twos_of, tested}
use Rattle.proved_requests.specs.Tables.{p1_twice, counted_tables, near_table, crowded_table, wide_table, seven_table}

abbrev pub further : List Table
further = near_table ∷ p1_twice ∷ []

abbrev pub spanned : List Table
spanned = crowded_table ∷ wide_table ∷ seven_table ∷ []

-- ---- S1 to S5

pub all_narrow : map (λ t. first (width_tests 0 (stored_in t)) sound) span_tables ≡ map (λ t. given sound) span_tables
unfolding width_tests first
all_narrow = refl

pub all_spans : map kind_of span_tables ≡ map (λ t. span) span_tables
all_spans = refl

-- ---- the tables whose builds are counted

pub all_counted : map (λ t. length (distinct (sequences 2 t.table.entries))) counted_tables ≡ map (λ t. how_many t.builds) counted_tables
unfolding distinct sequences overlaps
all_counted = refl

pub all_stored : map (λ t. pair_entries (stored_in t.table)) counted_tables ≡ map (λ t. t.table.entries) counted_tables
unfolding entry_of places_of
all_stored = refl

pub all_pairs : map (λ t. kind_of t.table) counted_tables ≡ map (λ t. pair) counted_tables
all_pairs = refl

-- ---- further pair tables

pub further_decided : map decided further ≡ map (λ t. t.verdict) further
unfolding verdict_of sequences overlaps
further_decided = refl

pub further_hold : map tested further ≡ map (λ t. given sound) further
unfolding lists_tests entry_tests places_hold pair_holds slot_from in_turn first
further_hold = refl

pub further_stored : map (λ t. entries_in (words_of t) (ones_of t) (twos_of t)) further ≡ map stored_in further
unfolding slot_from row
further_stored = refl

-- ---- further span tables

pub spanned_hold : map tested spanned ≡ map (λ t. given sound) spanned
unfolding lists_tests entry_tests places_hold span_holds slot_from in_turn first
spanned_hold = refl

pub spanned_stored : map (λ t. entries_in (words_of t) (ones_of t) (twos_of t)) spanned ≡ map stored_in spanned
unfolding slot_from row
spanned_stored = refl

pub spanned_as_spans : map (λ t. span_entries (stored_in t)) spanned ≡ map (λ t. t.entries) spanned
unfolding entry_of places_of
spanned_as_spans = refl

pub spanned_walks : map (λ t. placements 2 (stored_in t)) spanned ≡ map (λ t. t.placements) spanned
unfolding placements flat_map overlaps
spanned_walks = refl

-- all but the first, of which `crowded_none` tells
pub rest_decided : map decided (wide_table ∷ seven_table ∷ []) ≡ map (λ t. t.verdict) (wide_table ∷ seven_table ∷ [])
unfolding verdict_of sequences overlaps
rest_decided = refl

pub crowded_widths : first (width_tests 0 (stored_in crowded_table)) sound ≡ given sound
unfolding width_tests first
crowded_widths = refl

pub crowded_over : crowd 0 (stored_in crowded_table) ≡ 8
unfolding crowd
crowded_over = refl

pub seven_widths : first (width_tests 0 (stored_in seven_table)) sound ≡ given sound
unfolding width_tests first
seven_widths = refl

pub seven_over : crowd 3 (stored_in seven_table) ≡ most_over
unfolding crowd
seven_over = refl
