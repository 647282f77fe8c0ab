-- The small tables of 01 ("Twelve small tables", "Written word{places} or word[first,last], l = 2"), as a list.
--   entry x y places      == the entry with the word xy
--   pair_tables            == P1 to P7
--   span_tables            == S1 to S5
--   tables                == all twelve
--   stored e              == the entry e as it is stored
--   stored_in t            == the entries of the table t as they are stored
--   Told ts               == of each table in ts the verdict is true
-- Assumes nothing.
use Rattle.std.specs.Prelude.{List, [], ◌∷◌, ◌++◌, map, ℕ, ◌+◌, ◌*◌}
use Rattle.card_entries.specs.declared.Places.{Places}
use Rattle.card_entries.specs.declared.Places.TheVariants.{One, Two, Span}
use Rattle.card_entries.specs.declared.Slot.{Slot}
use Rattle.card_entries.specs.declared.Entry.{Entry}
use Rattle.card_entries.specs.Fault.{no_place}
use Rattle.base_lists.specs.Members.{In}
use Rattle.build_sequence.specs.Build.{Build}
use Rattle.build_sequence.specs.Verdict.{Verdict, sole, several, no_build, Tells}

-- a line of the list
pub record Table : Type 0 where
  pub entries : List Entry
  pub verdict : Verdict
  pub placements : ℕ

-- "Letters A, C, G, T have codes 0, 1, 2, 3"
abbrev pub A : ℕ
A = 0

abbrev pub C : ℕ
C = 1

abbrev pub G : ℕ
G = 2

-- "first letter most significant"
abbrev pub entry : ℕ → ℕ → Places → Entry
entry x y places = record { word = 4 * x + y; places = places }

-- "On a pair card placements are 0"
abbrev pub p1 : Table
p1 =
    record {
      entries = entry A C (Two 0 2) ∷ entry C A (Two 1 3) ∷ entry A G (Two 0 2) ∷ entry G A (Two 1 3) ∷ [];
      verdict = several (A ∷ C ∷ A ∷ G ∷ A ∷ []);
      placements = 0;
    }

abbrev pub p2 : Table
p2 =
    record {
      entries = entry A C (One 0) ∷ entry C A (Two 1 3) ∷ entry A G (Two 0 2) ∷ entry G A (Two 1 3) ∷ [];
      verdict = sole (A ∷ C ∷ A ∷ G ∷ A ∷ []);
      placements = 0;
    }

abbrev pub p3 : Table
p3 =
    record {
      entries = entry A C (One 2) ∷ entry C A (Two 1 3) ∷ entry A G (Two 0 2) ∷ entry G A (Two 1 3) ∷ [];
      verdict = sole (A ∷ G ∷ A ∷ C ∷ A ∷ []);
      placements = 0;
    }

abbrev pub p4 : Table
p4 =
    record {
      entries = entry A C (One 0) ∷ entry C A (Two 1 3) ∷ entry A G (Two 0 2) ∷ entry G A (One 1) ∷ [];
      verdict = no_build;
      placements = 0;
    }

abbrev pub p5 : Table
p5 = record { entries = entry A A (Two 0 1) ∷ entry A A (Two 0 1) ∷ []; verdict = sole (A ∷ A ∷ A ∷ []); placements = 0 }

abbrev pub p6 : Table
p6 = record { entries = entry A C (One 0) ∷ []; verdict = sole (A ∷ C ∷ []); placements = 0 }

abbrev pub p7 : Table
p7 = record { entries = entry A C (One 1) ∷ entry C A (One 1) ∷ []; verdict = no_build; placements = 0 }

abbrev pub pair_tables : List Table
pair_tables = p1 ∷ p2 ∷ p3 ∷ p4 ∷ p5 ∷ p6 ∷ p7 ∷ []

abbrev pub s1 : Table
s1 =
    record {
      entries = entry A C (Span 0 2) ∷ entry C A (Span 1 3) ∷ entry A G (Span 0 2) ∷ entry G A (Span 1 3) ∷ [];
      verdict = several (A ∷ C ∷ A ∷ G ∷ A ∷ []);
      placements = 8;
    }

abbrev pub s2 : Table
s2 =
    record {
      entries = entry A C (Span 0 0) ∷ entry C A (Span 1 3) ∷ entry A G (Span 1 2) ∷ entry G A (Span 1 3) ∷ [];
      verdict = sole (A ∷ C ∷ A ∷ G ∷ A ∷ []);
      placements = 4;
    }

abbrev pub s3 : Table
s3 =
    record {
      entries = entry A C (Span 0 0) ∷ entry C A (Span 1 1) ∷ entry A G (Span 2 3) ∷ entry G A (Span 1 2) ∷ [];
      verdict = no_build;
      placements = 2;
    }

abbrev pub s4 : Table
s4 =
    record {
      entries = entry A A (Span 0 2) ∷ entry A A (Span 0 1) ∷ entry A A (Span 0 1) ∷ [];
      verdict = sole (A ∷ A ∷ A ∷ A ∷ []);
      placements = 3;
    }

abbrev pub s5 : Table
s5 = record { entries = entry A C (Span 0 0) ∷ entry C A (Span 0 0) ∷ []; verdict = no_build; placements = 0 }

abbrev pub span_tables : List Table
span_tables = s1 ∷ s2 ∷ s3 ∷ s4 ∷ s5 ∷ []

abbrev pub tables : List Table
tables = pair_tables ++ span_tables

-- the entry as a card stores it
abbrev pub stored_places : ℕ → Places → Slot
stored_places w (One p) = record { word = w; one = p; two = no_place }
stored_places w (Two p q) = record { word = w; one = p; two = q }
stored_places w (Span f g) = record { word = w; one = f; two = g }

abbrev pub stored : Entry → Slot
stored e = stored_places e.word e.places

abbrev pub stored_in : Table → List Slot
stored_in t = map stored t.entries

abbrev pub Told : List Table → Type 0
Told ts = (t : Table) → In t ts → Tells (Build 2 t.entries) t.verdict
