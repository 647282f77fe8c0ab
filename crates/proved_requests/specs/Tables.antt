-- Tables beside those of 01, of which the requests speak or which show that there are such cards, l = 2.
--   p1Twice                  == two copies of P1 side by side
--   CountedTable             == a table, with the number of its builds
--   counted_tables           == P1 to P7 and two copies of P1, with theirs
--   near_table               == a pair card with neighbouring places
--   crowded_table            == a narrow span card with 8 spans over a place
--   seven_table              == a narrow span card with 7 spans over a place, and a build
--   wide_table               == a span card whose entry 1 is the first that is not narrow
-- Assumes nothing.
use Rattle.std.specs.Prelude.{List, [], ◌∷◌, ◌++◌}
use Rattle.card_entries.specs.declared.Places.TheVariants.{One, Two, Span}
use Rattle.build_sequence.specs.Verdict.{sole, several, no_build}
use Rattle.build_sequence.specs.Many.{Power, no_builds, two_to}
use Rattle.build_sequence.specs.Tables.{Table, A, C, G, entry, p1, p2, p3, p4, p5, p6, p7}

-- ---- request 12

abbrev pub p1_twice : Table
p1_twice =
    record {
      entries = p1.entries
          ++ (entry A C (Two 4 6) ∷ entry C A (Two 5 7) ∷ entry A G (Two 4 6) ∷ entry G A (Two 5 7) ∷ []);
      verdict = several (A ∷ C ∷ A ∷ G ∷ A ∷ C ∷ A ∷ G ∷ A ∷ []);
      placements = 0;
    }

pub record CountedTable : Type 0 where
  pub table : Table
  pub builds : Power

abbrev pub counted : Table → Power → CountedTable
counted t p = record { table = t; builds = p }

abbrev pub counted_tables : List CountedTable
counted_tables =
    counted p1 (two_to 1)
    ∷ counted p2 (two_to 0)
    ∷ counted p3 (two_to 0)
    ∷ counted p4 no_builds
    ∷ counted p5 (two_to 0)
    ∷ counted p6 (two_to 0)
    ∷ counted p7 no_builds
    ∷ counted p1_twice (two_to 2)
    ∷ []

-- l = 2: AC at 0, CA and AG at 1 or 2
abbrev pub near_table : Table
near_table =
    record {
      entries = entry A C (One 0) ∷ entry C A (Two 1 2) ∷ entry A G (Two 1 2) ∷ [];
      verdict = sole (A ∷ C ∷ A ∷ G ∷ []);
      placements = 0;
    }

-- ---- request 11

-- AA eight times, at 0 to 3
abbrev pub crowded_table : Table
crowded_table =
    record {
      entries = entry A A (Span 0 3)
          ∷ entry A A (Span 0 3)
          ∷ entry A A (Span 0 3)
          ∷ entry A A (Span 0 3)
          ∷ entry A A (Span 0 3)
          ∷ entry A A (Span 0 3)
          ∷ entry A A (Span 0 3)
          ∷ entry A A (Span 0 3)
          ∷ [];
      verdict = no_build;
      placements = 3;
    }

-- AA at 0 to 3, and then four times at 0 to 4
abbrev pub wide_table : Table
wide_table =
    record {
      entries = entry A A (Span 0 3)
          ∷ entry A A (Span 0 4)
          ∷ entry A A (Span 0 4)
          ∷ entry A A (Span 0 4)
          ∷ entry A A (Span 0 4)
          ∷ [];
      verdict = sole (A ∷ A ∷ A ∷ A ∷ A ∷ A ∷ []);
      placements = 5;
    }

-- AA four times at 0 to 3, and three times at 3 to 6: all seven are over 3
abbrev pub seven_table : Table
seven_table =
    record {
      entries = entry A A (Span 0 3)
          ∷ entry A A (Span 0 3)
          ∷ entry A A (Span 0 3)
          ∷ entry A A (Span 0 3)
          ∷ entry A A (Span 3 6)
          ∷ entry A A (Span 3 6)
          ∷ entry A A (Span 3 6)
          ∷ [];
      verdict = sole (A ∷ A ∷ A ∷ A ∷ A ∷ A ∷ A ∷ A ∷ []);
      placements = 7;
    }
