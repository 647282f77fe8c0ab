-- The entries of a pair card by number, as the method takes them, and the entries as a build has them.
--   Described l es c       == c has the entries es, by their numbers
--   verdict_by k s          == the verdict with the sequence s: sole if there are 0 free choices, else several
-- Assumes nothing.
use Rattle.std.specs.Prelude.{◌≡◌, true, List, ℕ, zero, suc, ◌^◌, ◌<◌, length, get_or}
use Rattle.card_entries.specs.declared.Entry.{Entry}
use Rattle.card_entries.specs.Entry.{allows}
use Rattle.build_sequence.specs.Arrangement.{overlaps}
use Rattle.build_sequence.specs.Verdict.{Verdict, sole, several}
use Rattle.pair_theory.specs.Arranged.{Pairs, Inside, HasPlace}

pub record Described (l : ℕ) (es : List Entry) (c : Pairs) : Type 0 where
  pub many : length es ≡ c.m
  pub some_entry : 0 < c.m
  pub some_letter : 0 < l
  pub inside : Inside c
  pub fits : (e : ℕ) → e < c.m → c.word e < 4 ^ l
  pub word : (d : Entry) (e : ℕ) → e < c.m → (get_or es e d).word ≡ c.word e
  pub allowed : (d : Entry) (e p : ℕ) → e < c.m → allows (get_or es e d).places p ≡ true → HasPlace c e p
  pub allows_it : (d : Entry) (e p : ℕ) → e < c.m → HasPlace c e p → allows (get_or es e d).places p ≡ true
  pub meets : (e f : ℕ) → e < c.m → f < c.m → overlaps l (c.word e) (c.word f) ≡ true → c.tail e ≡ c.head f
  pub met : (e f : ℕ) → e < c.m → f < c.m → c.tail e ≡ c.head f → overlaps l (c.word e) (c.word f) ≡ true

abbrev pub verdict_by : ℕ → List ℕ → Verdict
verdict_by zero s = sole s
verdict_by (suc k) s = several s
