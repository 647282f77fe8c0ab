-- What build answers as a struct of numbers, for C; settling answers with the same struct.
--   build_answer a     == the struct of what is said: the verdict as 1 for sole, 2 for several, 3 for none and 4 for unsettled, the length of
--                         the sequence, or 0 where none is given, and the placements; or the refusal
--   Told limit card budget before result after
--                      == the struct `result`, and every byte of the output afterwards
--   flat_of r          == the struct of each case of what `build_card` answers
-- Assumes nothing.
use Rattle.std.specs.Prelude.{◌≡◌, List, ℕ, length}
use Rattle.base_answers.specs.Answer.{Answer, given, refused}
use Rattle.build_sequence.specs.Verdict.{sole, several, no_build, Outcome, settled, unsettled}
use Rattle.build_card.specs.Building.{Says, letters_after}
use Rattle.build_card.specs.declared.BuildAnswer as builds
use Rattle.build_card.specs.declared.BuildAnswer.TheVariants as is
use Rattle.firmware.specs.declared.building.BuildAnswer.{BuildAnswer}

abbrev pub verdict_answer : ℕ → ℕ → ℕ → BuildAnswer
verdict_answer verdict length placements =
    record { number = 0; place = 0; verdict = verdict; length = length; placements = placements }

-- "Sole, Several, None, Unsettled or Refused, each with its own numbers"
abbrev pub build_answer : Answer Outcome → BuildAnswer
build_answer (given (settled (sole s) n)) = verdict_answer 1 (length s) n
build_answer (given (settled (several s) n)) = verdict_answer 2 (length s) n
build_answer (given (settled no_build n)) = verdict_answer 3 0 n
build_answer (given (unsettled n)) = verdict_answer 4 0 n
build_answer (refused n p) = record { number = n; place = p; verdict = 0; length = 0; placements = 0 }

pub record Told (limit : ℕ) (card : List ℕ) (budget : ℕ) (before : List ℕ) (result : BuildAnswer) (after : List ℕ) : Type 0 where
  pub said : Answer Outcome
  pub says : Says limit card budget (length before) said
  pub answer : result ≡ build_answer said
  pub output : after ≡ letters_after said before

abbrev pub flat_of : Answer builds.BuildAnswer → BuildAnswer
flat_of (given (is.Sole n k)) = verdict_answer 1 n k
flat_of (given (is.Several n k)) = verdict_answer 2 n k
flat_of (given (is.None k)) = verdict_answer 3 0 k
flat_of (given (is.Unsettled k)) = verdict_answer 4 0 k
flat_of (refused n p) = record { number = n; place = p; verdict = 0; length = 0; placements = 0 }
