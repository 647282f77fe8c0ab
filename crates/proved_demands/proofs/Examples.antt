-- The lists of the twelve tables of 01, and of those of `Within`, pass the tests of lists, and have the tables' entries, and what those of
-- `Within` say is true: by computation. Assumes nothing.
--   words_of t, ones_of t, twos_of t    == the lists of the table t
--   tested t                         == what is said of them
--   compared_pairs, compared_spans     == the tables of `widenings`
use mathlib.Core.Path.{◌≡◌, refl}
use mathlib.Core.List.{List, [], ◌∷◌, ◌++◌, map, flat_map}
use Prim.Native.Nat.{ℕ}
use Rattle.base_answers.specs.Answer.{Answer, Sound, given, first, sound}
use Rattle.base_lists.specs.Row.{row, in_turn}
use Rattle.card_entries.specs.Slot.{slot_from, entries_in}
use Rattle.card_entries.specs.Entry.{places_of, entry_of}
use Rattle.card_entries.specs.Fault.{pair_holds, span_holds, places_hold, entry_tests, pair, span}
use Rattle.card_entries.specs.Bounds.{most_entries}
use Rattle.card_lists.specs.Lists.{lists_tests}
use Rattle.card_entries.specs.declared.Places.TheVariants.{One, Two}
use Rattle.build_sequence.specs.Arrangement.{overlaps}
use Rattle.build_sequence.specs.Tables.{Table, stored_in, p1, p2, p3, p4, s1, s2, s3, tables}
use Rattle.build_sequence.proofs.Enumerator.{sequences}
use Rattle.build_sequence.proofs.VerdictOf.{verdict_of}
use Rattle.build_sequence.proofs.Tables.{decided}
use Rattle.span_theory.specs.Walk.{placements}
use Rattle.proved_demands.specs.Tables.{kind_of, p2_turned, p1_longer, p4_less, s2_turned, s1_wider, s2_less, s3_less}

abbrev pub words_of : Table → List ℕ
words_of t = map (λ s. s.word) (stored_in t)

abbrev pub ones_of : Table → List ℕ
ones_of t = map (λ s. s.one) (stored_in t)

abbrev pub twos_of : Table → List ℕ
twos_of t = map (λ s. s.two) (stored_in t)

abbrev pub tested : Table → Answer Sound
tested t = first (lists_tests most_entries (kind_of t) 2 (words_of t) (ones_of t) (twos_of t)) sound

-- ---- the twelve

pub all_hold : map tested tables ≡ map (λ t. given sound) tables
unfolding lists_tests entry_tests places_hold pair_holds span_holds slot_from in_turn first
all_hold = refl

pub all_stored : map (λ t. entries_in (words_of t) (ones_of t) (twos_of t)) tables ≡ map stored_in tables
unfolding slot_from row
all_stored = refl

-- ---- those of `Within`

abbrev pub compared_pairs : List Table
compared_pairs = p2_turned ∷ p1 ∷ p3 ∷ p1_longer (One 4) ∷ p1_longer (Two 0 4) ∷ p4 ∷ p2 ∷ p4_less ∷ []

abbrev pub compared_spans : List Table
compared_spans = s2_turned ∷ s1 ∷ s1_wider ∷ s2_less ∷ s2 ∷ s3_less ∷ s3 ∷ []

abbrev pub compared : List Table
compared = compared_pairs ++ compared_spans

pub compared_hold : map tested compared ≡ map (λ t. given sound) compared
unfolding lists_tests entry_tests places_hold pair_holds span_holds slot_from in_turn first
compared_hold = refl

pub compared_stored : map (λ t. entries_in (words_of t) (ones_of t) (twos_of t)) compared ≡ map stored_in compared
unfolding slot_from row
compared_stored = refl

pub compared_entries : map (λ t. map (entry_of (kind_of t)) (stored_in t)) compared ≡ map (λ t. t.entries) compared
unfolding entry_of places_of
compared_entries = refl

pub compared_decided : map decided compared ≡ map (λ t. t.verdict) compared
unfolding verdict_of sequences overlaps
compared_decided = refl

pub pairs_compared : (map kind_of compared_pairs ≡ map (λ t. pair) compared_pairs)
    × (map (λ t. t.placements) compared_pairs ≡ map (λ t. 0) compared_pairs)
pairs_compared = (refl, refl)

pub spans_compared : (map kind_of compared_spans ≡ map (λ t. span) compared_spans)
    × (map (λ t. placements 2 (stored_in t)) compared_spans ≡ map (λ t. t.placements) compared_spans)
unfolding placements flat_map overlaps
spans_compared = (refl, refl)
