-- The hash by which a line tells a whole list. Assumes nothing.
use Rattle.std.specs.Prelude.{ℕ, ◌+◌, ◌*◌, ◌%◌}
use mathlib.Core.List.{List, foldl}

abbrev pub modulus : ℕ
modulus = 65521

-- the hash h with the element x more
abbrev pub mixed : ℕ → ℕ → ℕ
mixed h x = (h * 257 + x) % modulus

unfoldable pub hash_of : List ℕ → ℕ
hash_of xs = foldl mixed 1 xs
