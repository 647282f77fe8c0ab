-- What is answered on a pair card, and what it means (demand 2).
--   pair_entries es           == the entries of a pair card, with their allowed places
--   MeansPair l es o             == the outcome o is true, over all builds
-- Assumes nothing.
use Rattle.std.specs.Prelude.{List, map, ℕ}
use Rattle.card_entries.specs.declared.Slot.{Slot}
use Rattle.card_entries.specs.declared.Entry.{Entry}
use Rattle.card_entries.specs.Fault.{pair}
use Rattle.card_entries.specs.Entry.{entry_of}
use Rattle.build_sequence.specs.Build.{Build}
use Rattle.build_sequence.specs.Verdict.{Verdict, Tells, Outcome, settled}

abbrev pub pair_entries : List Slot → List Entry
pair_entries es = map (entry_of pair) es

-- "Sole means exactly one sequence fits, several means two or more and gives the alphabetically first, none means none." "On a pair card
-- placements are 0 and Unsettled never occurs, even at budget 0."
pub data MeansPair (l : ℕ) (es : List Slot) : Outcome → Type 0 where
  settles : {v : Verdict} → Tells (Build l (pair_entries es)) v → MeansPair l es (settled v 0)
