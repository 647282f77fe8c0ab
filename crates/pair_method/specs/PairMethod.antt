-- What the method for pair cards promises of lists that hold.
--   second_of one two                == the second of an entry's two places; an entry with one place has it twice
--   power_by choices                 == how many builds there are: two to the number of free choices, or no build
--   Gives l es choices ws            == what is found: ws are the words of the first build, after so many free choices, or there is no build
--   answer_by choices                == sole where there is a build and no choice was free, several where one was, none where there is no build
-- Assumes nothing.
use Rattle.std.specs.Prelude.{◌≡◌, cond, List, ℕ, zero, suc, eqb, Option, Some, None}
use Rattle.card_entries.specs.declared.Slot.{Slot}
use Rattle.card_entries.specs.Fault.{no_place}
use Rattle.build_sequence.specs.Build.{spell, Build}
use Rattle.build_sequence.specs.Worded.{Worded}
use Rattle.build_sequence.specs.Verdict.{Tells}
use Rattle.build_sequence.specs.Many.{Many, Power, two_to, no_builds, how_many}
use Rattle.build_method.specs.declared.MethodAnswer.{MethodAnswer}
use Rattle.build_method.specs.declared.MethodAnswer.TheVariants as answer
use Rattle.pair_theory.specs.Described.{verdict_by}
use Rattle.pair_theory.specs.Settling.{pair_entries}

-- "place two is 65,535 when there is no second"
unfoldable pub second_of : ℕ → ℕ → ℕ
second_of one two = cond (eqb two no_place) one two

abbrev pub power_by : Option ℕ → Power
power_by None = no_builds
power_by (Some k) = two_to k

pub record Gives (l : ℕ) (es : List Slot) (choices : Option ℕ) (ws : List ℕ) : Type 0 where
  pub worded : (k : ℕ) → choices ≡ Some k → Worded l (pair_entries es) ws
  pub told : (k : ℕ) → choices ≡ Some k → Tells (Build l (pair_entries es)) (verdict_by k (spell l ws))
  pub many : Many (Build l (pair_entries es)) (how_many (power_by choices))

-- "On a pair card placements are 0 and Unsettled never occurs"
abbrev pub answer_by : Option ℕ → MethodAnswer
answer_by None = answer.None 0
answer_by (Some zero) = answer.Sole 0
answer_by (Some (suc k)) = answer.Several 0
