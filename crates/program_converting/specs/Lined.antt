-- What an answer leaves for standard error: what an inner function puts. A reader of the conversions' contracts needs none of it.
--   given_length a       == how many bytes are given
--   Lined a err r err'   == r has that length, and the line of a refusal stands at the start of a buffer that was `err`
-- Assumes nothing.
use Rattle.std.specs.Prelude.{◌≡◌, List, [], ℕ}
use Rattle.base_answers.specs.Answer.{Answer, given, refused}
use Rattle.base_text.specs.Text.{refusal_line, Printed}
use Rattle.program_converting.specs.declared.Lengths.{Lengths}

abbrev pub given_length : Answer ℕ → ℕ
given_length (given n) = n
given_length (refused n p) = 0

abbrev pub line_for : Answer ℕ → List ℕ
line_for (given n) = []
line_for (refused n p) = refusal_line n p

pub record Lined (a : Answer ℕ) (err : List ℕ) (r : Lengths) (err' : List ℕ) : Type 0 where
  pub output : r.output ≡ given_length a
  pub errors : Printed (λ bytes. bytes ≡ line_for a) err r.errors err'
