-- How many bytes the parts of the lines have: what the inner functions of the reports ask. A reader of their contracts needs none of it.
-- Assumes nothing.
use Rattle.std.specs.Prelude.{ℕ, ◌+◌}
use Rattle.base_text.specs.Putting.{most_digits}

-- the name of a kind
abbrev pub name_bytes : ℕ
name_bytes = 4

-- line 1: `CARD` and a space, the name, two numbers with a space before each, and the end
abbrev pub card_room : ℕ
card_room = 5 + name_bytes + 3 + most_digits + most_digits

-- line 2: the longest name of a verdict, so many letters and a number with a space before each, and the end
abbrev pub verdict_room : ℕ → ℕ
verdict_room letters = 9 + 3 + letters + most_digits

-- the line of a number of builds: `builds 2^`, the exponent, and the end
abbrev pub power_room : ℕ
power_room = 9 + most_digits + 1
