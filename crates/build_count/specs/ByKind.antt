-- Lists that hold: what the inner functions of counting promise. A reader of its contracts needs none of it.
--   ByKind kind l es r       == the answer r on the entries es of lists that hold: their number of builds, or 5 on those of a span card
-- Assumes nothing.
use Rattle.std.specs.Prelude.{◌≡◌, List, ℕ, Option}
use Rattle.base_answers.specs.Numbers.{Kind}
use Rattle.base_answers.specs.Answer.{Answer, given, refused}
use Rattle.card_entries.specs.declared.Slot.{Slot}
use Rattle.card_entries.specs.Fault.{pair, span}
use Rattle.build_sequence.specs.Build.{Build}
use Rattle.build_sequence.specs.Many.{Many, Power, how_many}
use Rattle.pair_theory.specs.Settling.{pair_entries}
use Rattle.build_count.specs.Counting.{number_of}

pub data ByKind (kind l : ℕ) (es : List Slot) (r : Answer (Option ℕ)) : Type 0 where
  on_pairs : (p : Power) → kind ≡ pair → Many (Build l (pair_entries es)) (how_many p) → r ≡ number_of (given p) → ByKind kind l es r
  on_spans : kind ≡ span → r ≡ number_of (refused Kind 0) → ByKind kind l es r
