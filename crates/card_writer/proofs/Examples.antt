-- The writer's definitions on the scope's card S1 and at the scope's edges of the numbers, by computation. Assumes nothing.
use mathlib.Core.Path.{◌≡◌, refl}
use mathlib.Core.List.{List, [], ◌∷◌, ◌++◌, map}
use Prim.Native.Nat.{ℕ}
use lib.ListN.{replicate}
use Rattle.base_answers.specs.Numbers.{Kind, WordLength, Lists, Count, Word, Places, Room}
use Rattle.base_answers.specs.Answer.{Answer, given, refused, first}
use Rattle.base_lists.specs.Row.{in_turn}
use Rattle.card_block.specs.Bytes.{two_bytes, four_bytes}
use Rattle.card_block.specs.Check.{sums_of, check_bytes}
use Rattle.card_block.specs.Sealing.{checked, sealed}
use Rattle.card_entries.specs.Slot.{slot_bytes, slot_from}
use Rattle.card_entries.specs.Fault.{pair, span, no_place, pair_holds, span_holds, places_hold, entry_tests}
use Rattle.card_entries.specs.Bounds.{most_entries}
use Rattle.card_layout.specs.Card.{head_bytes, slots_bytes, own_bytes, blocks_of, card_of}
use Rattle.card_reader.proofs.Examples.{head_of, s1}
use Rattle.card_lists.specs.Lists.{lists_tests}
use Rattle.card_entries.specs.Hold.{format_for}
use Rattle.card_writer.specs.Writing.{writing}

-- S1: AC[0,2] CA[1,3] AG[0,2] GA[1,3]
pub s1_written :
    card_of (format_for {A = ℕ} span 2 (1 ∷ 4 ∷ 2 ∷ 8 ∷ [])) (slot_from (1 ∷ 4 ∷ 2 ∷ 8 ∷ []) (0 ∷ 1 ∷ 0 ∷ 1 ∷ []) (2 ∷ 3 ∷ 2 ∷ 3 ∷ [])) ≡ s1
unfolding card_of blocks_of own_bytes head_bytes slots_bytes slot_bytes slot_from in_turn sealed checked check_bytes sums_of two_bytes four_bytes head_of s1
s1_written = refl

-- what the writer is given, and what it answers
pub record Asked : Type 0 where
  pub kind : ℕ
  pub l : ℕ
  pub words : List ℕ
  pub ones : List ℕ
  pub twos : List ℕ
  pub room : ℕ
  pub answer : Answer ℕ

-- n entries of the word A, each at place 0 alone on a pair card, with so much room
plain : (kind l n room : ℕ) → Answer ℕ → Asked
plain kind l n room answer =
    record { kind = kind; l = l; words = replicate n 0; ones = replicate n 0; twos = replicate n no_place; room = room; answer = answer }

-- two entries of a pair card with l = 2
two : (words ones twos : List ℕ) (room : ℕ) → Answer ℕ → Asked
two words ones twos room answer = record { kind = pair; l = 2; words = words; ones = ones; twos = twos; room = room; answer = answer }

-- one span among nine entries of a span card with l = 2
nine : (first last : ℕ) → Answer ℕ → Asked
nine first last answer =
    record {
      kind = span;
      l = 2;
      words = replicate 9 0;
      ones = first ∷ replicate 8 0;
      twos = last ∷ replicate 8 0;
      room = 1024;
      answer = answer;
    }

unfoldable pub asked : List Asked
unfolding plain two nine
asked =
    -- room exactly enough, one byte short, one too many
    plain pair 2 1 1024 (given 1024)
    ∷ plain pair 2 1 1023 (refused Room 0)
    ∷ plain pair 2 1 1025 (given 1024)
    -- "kind, 1 pair or 2 span", before l
    ∷ plain 0 2 1 1024 (refused Kind 0)
    ∷ plain 3 1 1 1024 (refused Kind 0)
    ∷ plain 257 2 1 1024 (refused Kind 0)
    -- "l 2 and 12 pass, 1 and 13 give 6; m 1 and 504 pass, 0 and 505 give 7"
    ∷ plain pair 1 1 1024 (refused WordLength 0)
    ∷ plain pair 12 1 1024 (given 1024)
    ∷ plain pair 13 0 1024 (refused WordLength 0)
    ∷ plain pair 2 0 1024 (refused Count 0)
    ∷ plain pair 2 63 1024 (given 1024)
    ∷ plain pair 2 64 1536 (given 1536)
    ∷ plain pair 2 504 4608 (given 4608)
    ∷ plain pair 2 505 0 (refused Count 0)
    -- 6 before 13, 13 before 7 and before the entries, 7 before the entries
    ∷ record { kind = pair; l = 13; words = 0 ∷ []; ones = []; twos = 0 ∷ []; room = 1024; answer = refused WordLength 0 }
    ∷ record { kind = pair; l = 2; words = replicate 505 99; ones = replicate 505 0; twos = replicate 505 0; room = 0; answer = refused Count 0 }
    ∷ two (0 ∷ 0 ∷ []) (0 ∷ []) (0 ∷ 0 ∷ []) 1024 (refused Lists 0)
    ∷ two (99 ∷ 0 ∷ []) (0 ∷ 0 ∷ []) (0 ∷ []) 0 (refused Lists 0)
    ∷ two [] [] (0 ∷ []) 1024 (refused Lists 0)
    -- the word before the places, an entry before the next, and all of it before the room
    ∷ two (15 ∷ 15 ∷ []) (0 ∷ 0 ∷ []) (1 ∷ no_place ∷ []) 1024 (given 1024)
    ∷ two (15 ∷ 16 ∷ []) (0 ∷ 5 ∷ []) (1 ∷ 5 ∷ []) 0 (refused Word 1)
    ∷ two (15 ∷ 16 ∷ []) (0 ∷ 0 ∷ []) (0 ∷ 1 ∷ []) 1024 (refused Places 0)
    ∷ two (0 ∷ 0 ∷ []) (0 ∷ 1 ∷ []) (1 ∷ 2 ∷ []) 0 (refused Places 1)
    -- "entry, from 0", over the whole card
    ∷ record {
      kind = pair;
      l = 2;
      words = replicate 65 0 ++ (16 ∷ []);
      ones = replicate 66 0;
      twos = replicate 66 no_place;
      room = 0;
      answer = refused Word 65;
    }
    -- "place m−1 passes, m gives 11; width 8 passes, 9 gives 11"
    ∷ nine 8 8 (given 1024)
    ∷ nine 8 9 (refused Places 0)
    ∷ nine 1 8 (given 1024)
    ∷ nine 0 8 (refused Places 0)
    ∷ nine 0 no_place (refused Places 0)
    ∷ []

pub asked_right :
    map (λ a. writing most_entries a.kind a.l a.words a.ones a.twos a.room) asked ≡ map (λ a. a.answer) asked
unfolding asked writing lists_tests slot_from first in_turn entry_tests places_hold span_holds pair_holds
asked_right = refl
