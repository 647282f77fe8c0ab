-- What an answer on a narrow span card means (02, section 11).
--   MeansNarrow l es o == the outcome o is true of the entries es, over all builds, with placements 0; that the spans are narrow is tested first
-- Assumes nothing.
use Rattle.std.specs.Prelude.{List, ℕ}
use Rattle.card_entries.specs.declared.Slot.{Slot}
use Rattle.build_sequence.specs.Build.{Build}
use Rattle.build_sequence.specs.Verdict.{Verdict, Tells, Outcome, settled}
use Rattle.span_theory.specs.Settling.{span_entries}

-- "It answers Sole, Several or None with no budget, each meaning what demand 2 says of it whether or not build would settle, and its
-- placements are 0."
pub data MeansNarrow (l : ℕ) (es : List Slot) : Outcome → Type 0 where
  settles : {v : Verdict} → Tells (Build l (span_entries es)) v → MeansNarrow l es (settled v 0)
