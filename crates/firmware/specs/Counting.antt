-- The number of builds as a struct of numbers, for C.
--   flat_number r       == the struct of each case of what `build_count` answers: 1 and the exponent, or 0 where there is no build; or
--                         the refusal
--   count_answer a      == the struct of what is said
-- Assumes nothing.
use Rattle.std.specs.Prelude.{ℕ, Option, Some, None}
use Rattle.base_answers.specs.Answer.{Answer, given, refused}
use Rattle.build_sequence.specs.Many.{Power}
use Rattle.build_count.specs.Counting.{number_of}
use Rattle.firmware.specs.declared.count.CountAnswer.{CountAnswer}

-- "the exponent is given, or that there is none"
abbrev pub flat_number : Answer (Option ℕ) → CountAnswer
flat_number (given (Some k)) = record { number = 0; place = 0; any = 1; exponent = k }
flat_number (given None) = record { number = 0; place = 0; any = 0; exponent = 0 }
flat_number (refused n p) = record { number = n; place = p; any = 0; exponent = 0 }

abbrev pub count_answer : Answer Power → CountAnswer
count_answer a = flat_number (number_of a)
