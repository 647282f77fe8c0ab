-- What is answered on a span card under a budget, and what it means (01, "The walk on span cards", and demand 2).
--   span_entries es           == the entries of a span card, with their allowed places
--   MeansSpan l es budget o      == the outcome o is true, over all builds
-- Assumes nothing.
use Rattle.std.specs.Prelude.{◌≡◌, List, map, ℕ, ◌≤◌, ◌<◌}
use Rattle.card_entries.specs.declared.Slot.{Slot}
use Rattle.card_entries.specs.declared.Entry.{Entry}
use Rattle.card_entries.specs.Fault.{span}
use Rattle.card_entries.specs.Entry.{entry_of}
use Rattle.build_sequence.specs.Build.{Build}
use Rattle.build_sequence.specs.Verdict.{Verdict, Tells, Outcome, settled, unsettled}
use Rattle.span_theory.specs.Walk.{placements}

abbrev pub span_entries : List Slot → List Entry
span_entries es = map (entry_of span) es

-- "Sole means exactly one sequence fits, several means two or more and gives the alphabetically first, none means none. Unsettled comes
-- […] exactly when the walk of 01 needs more placements than the budget. On span cards placements are that walk's, cut at the budget."
pub data MeansSpan (l : ℕ) (es : List Slot) (budget : ℕ) : Outcome → Type 0 where
  settles : {v : Verdict} {n : ℕ} → n ≡ placements l es → n ≤ budget → Tells (Build l (span_entries es)) v
      → MeansSpan l es budget (settled v n)
  goes_on : {n : ℕ} → n ≡ budget → budget < placements l es → MeansSpan l es budget (unsettled n)
