-- What places with one entry force. No reader has to believe these.
--   Sure c s               == s is closed, and every arrangement has its places
--   StaysSure c a ok       == the places so far are such, or there is no arrangement
-- Assumes nothing.
use Rattle.std.specs.Prelude.{◌≡◌, Bool, true, false, ℕ}
use Rattle.pair_theory.specs.Arranged.{Pairs, Arranged}
use Rattle.pair_theory.specs.Chosen.{Agrees, Closed, NoBuild}
use Rattle.pair_following.specs.Following.{nth, Progress, Trail}

-- s is closed, and every arrangement has its places
pub record Sure (c : Pairs) (s : ℕ → ℕ) : Type 0 where
  pub closed : Closed c s
  pub every : (σ : ℕ → ℕ) → Arranged c σ → Agrees c s σ

pub record StaysSure (c : Pairs) (a : Progress) (ok : Bool) : Type 0 where
  pub shape : Trail c.m a
  pub good : ok ≡ true → Sure c (nth a.put)
  pub bad : ok ≡ false → NoBuild c
