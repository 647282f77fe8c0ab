-- What makes an entry wrong (01, "The card, block by block" and rows 10 and 11). The reader and the writer share it.
--   is_place m p             == p is a place of a card of m entries
--   pair_holds m one two     == the two numbers are the places of an entry of a pair card
--   span_holds m one two     == the same of a span card
--   entry_tests f e s        == the tests of the slot s as entry e of a card of the format f
-- Assumes nothing.
use Rattle.std.specs.Prelude.{ℕ, ◌+◌, ◌-◌, ◌^◌, Bool, cond, ◌&&◌, ◌||◌, List, [], ◌∷◌, leb, ltb, eqb}
use Rattle.base_answers.specs.Numbers.{Word, Places}
use Rattle.base_answers.specs.Answer.{Test, test}
use Rattle.card_entries.specs.declared.Format.{Format}
use Rattle.card_entries.specs.declared.Slot.{Slot}

-- "kind, 1 pair or 2 span"
abbrev pub pair : ℕ
pair = 1

abbrev pub span : ℕ
span = 2

-- "A word has l letters, 2 ≤ l ≤ 12"
abbrev pub least_length : ℕ
least_length = 2

abbrev pub most_length : ℕ
most_length = 12

-- "A span from f to g is g−f+1 wide, at most 8"
abbrev pub widest : ℕ
widest = 8

-- "place two is 65,535 when there is no second"
abbrev pub no_place : ℕ
no_place = 65535

-- "A place p satisfies 0 ≤ p ≤ m−1"
abbrev pub is_place : ℕ → ℕ → Bool
is_place m p = ltb p m

-- "On a pair card place one is always present and place two is 65,535 when there is no second; otherwise place one < place two."
unfoldable pub pair_holds : ℕ → ℕ → ℕ → Bool
pair_holds m one two = is_place m one && (eqb two no_place || (ltb one two && is_place m two))

-- "On a span card both are present and place one ≤ place two."
unfoldable pub span_holds : ℕ → ℕ → ℕ → Bool
span_holds m one two = is_place m one && is_place m two && leb one two && leb (two - one + 1) widest

unfoldable pub places_hold : ℕ → ℕ → ℕ → ℕ → Bool
places_hold kind m one two = cond (eqb kind span) (span_holds m one two) (pair_holds m one two)

-- "value 4^l or more", then "place rule or width broken, or place above m−1", each with the entry as its place
unfoldable pub entry_tests : Format → ℕ → Slot → List Test
entry_tests f e s =
    test (ltb s.word (4 ^ f.l)) Word e
    ∷ test (places_hold f.kind f.m s.one s.two) Places e
    ∷ []
