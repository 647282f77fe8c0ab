-- Numbers in bytes: "Little-endian throughout."
--   two_at bytes at, four_at bytes at    == the number in two, in four bytes from `at` on
--   two_bytes x, four_bytes x            == the two, the four bytes that hold the number x, which is below 65,536, below 65,536²
--   AreBytes xs                        == each of the numbers xs is a byte, as each number in a buffer is
-- Assumes nothing.
use Rattle.std.specs.Prelude.{ℕ, ◌+◌, ◌*◌, ◌/◌, ◌%◌, ◌<◌, List, [], ◌∷◌, ◌++◌, get_or}

unfoldable pub two_at : List ℕ → ℕ → ℕ
two_at bytes at = get_or bytes at 0 + 256 * get_or bytes (at + 1) 0

unfoldable pub four_at : List ℕ → ℕ → ℕ
four_at bytes at = two_at bytes at + 65536 * two_at bytes (at + 2)

unfoldable pub two_bytes : ℕ → List ℕ
two_bytes x = x % 256 ∷ x / 256 ∷ []

unfoldable pub four_bytes : ℕ → List ℕ
four_bytes x = two_bytes (x % 65536) ++ two_bytes (x / 65536)

abbrev pub AreBytes : List ℕ → Type 0
AreBytes xs = (i : ℕ) → get_or xs i 0 < 256
