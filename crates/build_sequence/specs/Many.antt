-- How many sequences fit (request 12: "how many builds it has"). `Fits s` says that the sequence s fits.
--   Many Fits n      == exactly n sequences fit: a list of n has them all and no other, and no two of it are the same
--   Power            == two to a power, or that there is no build
--   how_many p        == that as a number
-- Assumes nothing.
use Rattle.std.specs.Prelude.{◌≡◌, ◌≢◌, List, ℕ, ◌^◌, length}
use Rattle.base_lists.specs.Members.{In, Rising}

pub record Many (Fits : List ℕ → Type 0) (n : ℕ) : Type 0 where
  pub all : List (List ℕ)
  pub count : length all ≡ n
  pub differ : Rising (λ (s t : List ℕ). s ≢ t) all
  pub fit : (s : List ℕ) → In s all → Fits s
  pub none_else : (s : List ℕ) → Fits s → In s all

-- "the number is 0 or a power of two, and the exponent is given, or that there is none"
pub data Power : Type 0 where
  two_to : ℕ → Power
  no_builds : Power

abbrev pub how_many : Power → ℕ
how_many (two_to k) = 2 ^ k
how_many no_builds = 0
