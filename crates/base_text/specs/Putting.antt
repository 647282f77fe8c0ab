-- Text put into a buffer, one part after the other.
--   most_digits                  == the most digits of a number of 64 bits
--   refusal_room                 == the most bytes of the line of a refusal
--   Put xs at before to after   == the bytes xs were put into a buffer from `at` on, and end before `to`; its other bytes are as they were
-- Assumes nothing.
use Rattle.std.specs.Prelude.{◌≡◌, List, ℕ, ◌+◌, ◌≤◌, length}
use Rattle.base_lists.specs.Parts.{put_at}

abbrev pub most_digits : ℕ
most_digits = 20

-- `refused`, two numbers with a space before each, and the end
abbrev pub refusal_room : ℕ
refusal_room = 7 + 3 + most_digits + most_digits

pub record Put (xs : List ℕ) (at : ℕ) (before : List ℕ) (to : ℕ) (after : List ℕ) : Type 0 where
  pub room : at + length xs ≤ length before
  pub ends : to ≡ at + length xs
  pub stands : after ≡ put_at xs at before
