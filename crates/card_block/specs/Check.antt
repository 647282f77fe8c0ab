-- The check of a block (01, "The card, block by block").
--   step_of s x       == the sums s with one byte x more
--   sums_of xs        == the sums of the bytes xs
--   check_bytes xs    == the two check bytes of the bytes xs
--   checks b         == whether the check bytes of the block b are those of the bytes before them
-- Assumes nothing.
use Rattle.std.specs.Prelude.{ℕ, ◌+◌, ◌%◌, Bool, ◌&&◌, get_or, take, eqb}
use mathlib.Core.List.{List, foldl}
use Rattle.card_block.specs.declared.check.CheckBytes.{CheckBytes}
use Rattle.card_block.specs.declared.check.Sums.{Sums}

-- "mod 255"
abbrev pub modulus : ℕ
modulus = 255

-- "a becomes (a + byte) mod 255, then b becomes (b + a) mod 255"
abbrev pub step_of : Sums → ℕ → Sums
step_of s x = record { a = (s.a + x) % modulus; b = (s.b + (s.a + x) % modulus) % modulus }

-- "Start with a = b = 0; for each of bytes … in order"
unfoldable pub sums_of : List ℕ → Sums
sums_of xs = foldl step_of (record { a = 0; b = 0 }) xs

-- "byte 510 holds a, byte 511 holds b"
unfoldable pub check_bytes : List ℕ → CheckBytes
check_bytes xs = record { first = (sums_of xs).a; second = (sums_of xs).b }

-- "bytes 0–509", and after them the check bytes
abbrev pub check_at : ℕ
check_at = 510

unfoldable pub checks : List ℕ → Bool
checks b = eqb (check_bytes (take check_at b)).first (get_or b check_at 0) && eqb (check_bytes (take check_at b)).second (get_or b (check_at + 1) 0)
