-- The tests of a card's entries as three lists, words, place one and place two (01, "What can come back"): "Writing takes kind, l and three
-- lists (words, place one, place two) and tests 5, 6, 13, 7, entries in turn (10, 11)". `limit` is the most entries that a card may have.
--   same_length words ones twos                    == the lists have one length
--   lists_tests limit kind l words ones twos       == the tests of the lists, in their order
-- An entry's fault is the reader's own, `entry_tests`; the tests hold exactly where `ListsHold` does. Assumes nothing.
use Rattle.std.specs.Prelude.{ℕ, Bool, ◌&&◌, List, ◌∷◌, length, eqb}
use Rattle.base_answers.specs.Numbers.{Kind, WordLength, Lists, Count}
use Rattle.base_answers.specs.Answer.{Test, test}
use Rattle.base_lists.specs.Row.{in_turn}
use Rattle.card_entries.specs.Slot.{slot_from}
use Rattle.card_entries.specs.Fault.{least_length, most_length, entry_tests}
use Rattle.card_entries.specs.Hold.{format_for}
use Rattle.card_entries.specs.Bounds.{least_entries, is_within, is_kind}

-- not "the writer's three lists differ in length"
abbrev pub same_length : List ℕ → List ℕ → List ℕ → Bool
same_length words ones twos = eqb (length words) (length ones) && eqb (length words) (length twos)

-- 5, 6, 13, 7, entries in turn (10, 11)
unfoldable pub lists_tests : ℕ → ℕ → ℕ → List ℕ → List ℕ → List ℕ → List Test
lists_tests limit kind l words ones twos =
    test (is_kind kind) Kind 0
    ∷ test (is_within least_length most_length l) WordLength 0
    ∷ test (same_length words ones twos) Lists 0
    ∷ test (is_within least_entries limit (length words)) Count 0
    ∷ in_turn (λ e. entry_tests (format_for kind l words) e (slot_from words ones twos e)) 0 (length words)
