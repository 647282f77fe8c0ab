-- The reading order on the scope's card S1 and at the scope's edges of l and m, from the definitions. Each card is written with its check
-- bytes. Assumes nothing.
use mathlib.Core.Path.{◌≡◌, refl}
use mathlib.Core.List.{List, [], ◌∷◌, ◌++◌, map}
use Prim.Native.Nat.{ℕ}
use lib.ListN.{replicate}
use Rattle.base_answers.specs.Numbers.{Short, Check, Form, Kind, WordLength, Count, Size, Absent}
use Rattle.base_answers.specs.Answer.{Answer, given, refused, first}
use Rattle.base_lists.specs.Row.{in_turn}
use Rattle.card_block.specs.Bytes.{two_at, four_at}
use Rattle.card_block.specs.Check.{sums_of, check_bytes, checks}
use Rattle.card_block.specs.Block.{block_at, index_of, block_tests}
use Rattle.card_entries.specs.declared.Format.{Format}
use Rattle.card_entries.specs.declared.Places.TheVariants.{Span}
use Rattle.card_entries.specs.Slot.{slot_at}
use Rattle.card_entries.specs.Fault.{span, pair_holds, span_holds, places_hold, entry_tests}
use Rattle.card_entries.specs.Entry.{places_of, entry_of}
use Rattle.card_layout.specs.Layout.{form_of, format_of, slot_of, head_spare, slots_spare, entry_at}
use Rattle.card_entries.specs.Bounds.{most_entries}
use Rattle.card_reader.specs.Reading.{field_tests, head_tests, slots_tests, later_tests, reading_order}
use Rattle.card_reader.specs.Fetching.{admission, entry_fetch, more, end, next_at, stepping}

-- block 0 with these fields and check bytes; m below 256 and the high byte of m
unfoldable pub head_of : (form kind l low high a b : ℕ) → List ℕ
head_of form kind l low high a b = form ∷ kind ∷ l ∷ 0 ∷ low ∷ high ∷ replicate 504 0 ++ (a ∷ b ∷ [])

-- an entry's 8 bytes, each number below 256
abbrev pub bytes_of : (word one two : ℕ) → List ℕ
bytes_of word one two = word ∷ 0 ∷ 0 ∷ 0 ∷ one ∷ 0 ∷ two ∷ 0 ∷ []

-- S1: AC[0,2] CA[1,3] AG[0,2] GA[1,3]
unfoldable pub s1 : List ℕ
s1 =
    head_of 1 2 2 4 0 9 233
    ++ (bytes_of 1 0 2 ++ (bytes_of 4 1 3 ++ (bytes_of 2 0 2 ++ (bytes_of 8 1 3 ++ (replicate 476 0 ++ (1 ∷ 0 ∷ 28 ∷ 28 ∷ []))))))

-- admitting, with all that it rests on open to computation
unfoldable admitting : List ℕ → Answer Format
unfolding head_of s1 admission reading_order head_tests field_tests later_tests slots_tests first in_turn
    block_tests block_at checks check_bytes sums_of index_of two_at four_at form_of format_of head_spare slots_spare
    slot_at entry_tests places_hold span_holds pair_holds
admitting card = admission most_entries card

-- cards, and what admitting each answers; a head alone that passes all its own tests gets 9
unfoldable pub admissions : List (List ℕ × Answer Format)
admissions =
    (s1, given (record { kind = span; l = 2; m = 4 }))
    ∷ ([], refused Short 0)
    ∷ (head_of 1 2 2 4 0 9 232, refused Check 0)
    ∷ (head_of 2 1 2 4 0 9 234, refused Form 0)
    ∷ (head_of 1 3 2 4 0 10 232, refused Kind 0)
    ∷ (head_of 1 2 1 4 0 8 235, refused WordLength 0)
    ∷ (head_of 1 2 12 4 0 19 213, refused Size 0)
    ∷ (head_of 1 2 13 4 0 20 211, refused WordLength 0)
    ∷ (head_of 1 1 2 0 0 4 250, refused Count 0)
    ∷ (head_of 1 2 2 1 0 6 245, refused Size 0)
    ∷ (head_of 1 1 2 248 1 253 18, refused Size 0)
    ∷ (head_of 1 1 2 249 1 254 14, refused Count 0)
    ∷ []

-- "l 2 and 12 pass, 1 and 13 give 6; m 1 and 504 pass, 0 and 505 give 7"
pub admissions_right : map (λ r. admission most_entries r.0) admissions ≡ map (λ r. r.1) admissions
unfolding admitting admissions
admissions_right = refl

-- the steps of S1: its entries from 0, its end, and the end from any head beyond
pub s1_steps : map (stepping most_entries s1) (0 ∷ 1 ∷ 2 ∷ 3 ∷ 4 ∷ 1000000 ∷ []) ≡ (
    given (more (record { word = 1; places = Span 0 2 }) 1)
    ∷ given (more (record { word = 4; places = Span 1 3 }) 2)
    ∷ given (more (record { word = 2; places = Span 0 2 }) 3)
    ∷ given (more (record { word = 8; places = Span 1 3 }) 4)
    ∷ given end
    ∷ given end
    ∷ []
    )
unfolding admitting stepping next_at entry_at slot_of entry_of places_of
s1_steps = refl

-- an entry, and one that is not there
pub s1_entries : map (entry_fetch most_entries s1) (2 ∷ 4 ∷ []) ≡ (given (record { word = 2; places = Span 0 2 }) ∷ refused Absent 0 ∷ [])
unfolding admitting entry_fetch entry_at slot_of entry_of places_of
s1_entries = refl
