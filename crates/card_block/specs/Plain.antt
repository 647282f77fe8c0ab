-- The sums of a block before their remainders are taken (request 3: "Work out a and b as plain sums"), for the contracts of inner functions and
-- the theorems of request 3. A reader of the public contracts needs none of it.
--   plain_step s x    == the plain sums s with one byte x more
--   plain_of xs       == the plain sums of the bytes xs
--   reduced s        == the remainders of the sums s
--   most_a, most_b     == the largest plain a and b of a block
-- Assumes nothing.
use Rattle.std.specs.Prelude.{ℕ, ◌+◌, ◌%◌}
use mathlib.Core.List.{List, foldl}
use Rattle.card_block.specs.declared.check.Sums.{Sums}
use Rattle.card_block.specs.Check.{modulus}

abbrev pub plain_step : Sums → ℕ → Sums
plain_step s x = record { a = s.a + x; b = s.b + (s.a + x) }

unfoldable pub plain_of : List ℕ → Sums
plain_of xs = foldl plain_step (record { a = 0; b = 0 }) xs

-- "and take each remainder once at the block's end"
abbrev pub reduced : Sums → Sums
reduced s = record { a = s.a % modulus; b = s.b % modulus }

-- 510 bytes of 255
abbrev pub most_a : ℕ
most_a = 130050

-- "The largest plain b is 33,227,775."
abbrev pub most_b : ℕ
most_b = 33227775
