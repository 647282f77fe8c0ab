-- Tables on cards: the twelve small tables of 01, and tables of cards as demand 3 takes them.
--   kind_of t                == the kind of the table t, by the places of its first entry (`kind_by`, `kind_in`)
--   Holds ts                 == what build says of each table in ts is what the table says, at every budget not below its placements
--   OnCard t card            == the card has the entries of the table t
--   Within t t'              == there are two cards as demand 3 takes them, the narrower of the table t, the other of t', and what the tables say
--                               of them is what build does
--   p2Turned, s2Turned       == P2 and S2 with their entries in another order
--   p1Longer places          == P1 with one word more, which has these places
--   p4Less, s2Less, s3Less   == P4, S2 and S3 with fewer places for one entry
--   s1Wider                  == S1 with more places for one entry
--   widenings                == tables of which the second allows more, with each verdict that demand 3 speaks of
-- Assumes nothing.
use Rattle.std.specs.Prelude.{◌≡◌, List, [], ◌∷◌, ℕ, ◌≤◌}
use Rattle.card_entries.specs.declared.Places.TheVariants.{One, Two, Span}
use Rattle.card_entries.specs.declared.Places.{Places}
use Rattle.card_entries.specs.declared.Entry.{Entry}
use Rattle.card_entries.specs.Fault.{pair, span}
use Rattle.card_layout.specs.Layout.{told_by, slots_on}
use Rattle.base_lists.specs.Members.{In}
use Rattle.build_sequence.specs.Verdict.{several, settled}
use Rattle.build_sequence.specs.Tables.{Table, A, C, G, entry, p1, p2, p3, p4, s1, s2, s3, stored_in}
use Rattle.build_card.specs.Building.{letters_in, Means}
use Rattle.proved_demands.specs.Demanded.{Passes, Widened}

-- "Written word{places} or word[first,last]": a pair card's entries and a span card's
abbrev pub kind_by : Places → ℕ
kind_by (One p) = pair
kind_by (Two p q) = pair
kind_by (Span f g) = span

abbrev pub kind_in : List Entry → ℕ
kind_in [] = pair
kind_in (e ∷ es) = kind_by e.places

abbrev pub kind_of : Table → ℕ
kind_of t = kind_in t.entries

-- "Each P line holds at every budget; each S line at every budget not below its placements."; "On a pair card placements are 0"
abbrev pub Holds : List Table → Type 0
Holds ts = (t : Table) → In t ts → (budget : ℕ) → t.placements ≤ budget
    → Means (kind_of t) 2 (stored_in t) budget (settled t.verdict t.placements)

-- a card that has the entries of a table, l = 2
pub record OnCard (t : Table) (card : List ℕ) : Type 0 where
  pub kind : (told_by card).kind ≡ kind_of t
  pub letters : (told_by card).l ≡ 2
  pub entries : slots_on card ≡ stored_in t

-- ---- cards as demand 3 takes them

-- there are a card of the one table and one of the other, both admitted, of which the second allows more, and the first does not; and what
-- build says of each is what its table says
abbrev pub Within : Table → Table → Type 0
Within t t' =
    Holds (t ∷ t' ∷ []) × ((card : List ℕ) × (card' : List ℕ) × (OnCard t card × OnCard t' card')
    × (Widened card card' × (Widened card' card → ⊥))
    × (((room : ℕ) → letters_in (told_by card) ≤ room → Passes card room) × ((room : ℕ) → letters_in (told_by card') ≤ room → Passes card' room)))

abbrev pub p2_turned : Table
p2_turned =
    record {
      entries = entry G A (Two 1 3) ∷ entry C A (Two 1 3) ∷ entry A G (Two 0 2) ∷ entry A C (One 0) ∷ [];
      verdict = p2.verdict;
      placements = p2.placements;
    }

abbrev pub s2_turned : Table
s2_turned =
    record {
      entries = entry G A (Span 1 3) ∷ entry C A (Span 1 3) ∷ entry A G (Span 1 2) ∷ entry A C (Span 0 0) ∷ [];
      verdict = s2.verdict;
      placements = s2.placements;
    }

-- P1 and AA after it, which on the second may stand at 0 too: "several stays several"
abbrev pub p1_longer : Places → Table
p1_longer places =
    record {
      entries = entry A C (Two 0 2) ∷ entry C A (Two 1 3) ∷ entry A G (Two 0 2) ∷ entry G A (Two 1 3) ∷ entry A A places ∷ [];
      verdict = several (A ∷ C ∷ A ∷ G ∷ A ∷ A ∷ []);
      placements = 0;
    }

-- P4 with CA{1}
abbrev pub p4_less : Table
p4_less =
    record {
      entries = entry A C (One 0) ∷ entry C A (One 1) ∷ entry A G (Two 0 2) ∷ entry G A (One 1) ∷ [];
      verdict = p4.verdict;
      placements = 0;
    }

-- S1 with AC[0,3]
abbrev pub s1_wider : Table
s1_wider =
    record {
      entries = entry A C (Span 0 3) ∷ entry C A (Span 1 3) ∷ entry A G (Span 0 2) ∷ entry G A (Span 1 3) ∷ [];
      verdict = s1.verdict;
      placements = 8;
    }

-- S2 with CA[1,1]
abbrev pub s2_less : Table
s2_less =
    record {
      entries = entry A C (Span 0 0) ∷ entry C A (Span 1 1) ∷ entry A G (Span 1 2) ∷ entry G A (Span 1 3) ∷ [];
      verdict = s2.verdict;
      placements = 4;
    }

-- S3 with GA[1,1], which takes fewer placements
abbrev pub s3_less : Table
s3_less =
    record {
      entries = entry A C (Span 0 0) ∷ entry C A (Span 1 1) ∷ entry A G (Span 2 3) ∷ entry G A (Span 1 1) ∷ [];
      verdict = s3.verdict;
      placements = 1;
    }

-- sole, and several that is earlier or the same; several twice; none, and sole; none twice. Then the same of spans
abbrev pub widenings : List (Table × Table)
widenings =
    (p2_turned, p1)
    ∷ (p3, p1)
    ∷ (p1_longer (One 4), p1_longer (Two 0 4))
    ∷ (p4, p2)
    ∷ (p4_less, p4)
    ∷ (s2_turned, s1)
    ∷ (s1, s1_wider)
    ∷ (s2_less, s2)
    ∷ (s3_less, s3)
    ∷ []
