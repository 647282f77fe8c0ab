-- The first build of a pair card, or that there is none. No reader has to believe this.
-- Assumes nothing.
use Rattle.std.specs.Prelude.{◌≡◌, List, ℕ, Option, Some, None}
use Rattle.pair_theory.specs.Arranged.{Pairs}
use Rattle.pair_theory.specs.Chosen.{FirstFound, NoBuild}
use Rattle.pair_following.specs.Following.{nth}

-- the first build, of 2^k; or there is none
pub record FindsBuild (c : Pairs) (words : List ℕ) (choices : Option ℕ) : Type 0 where
  pub yes : (k : ℕ) → choices ≡ Some k → FirstFound c (nth words) k
  pub no : choices ≡ None → NoBuild c
