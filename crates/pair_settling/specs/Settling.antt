-- What giving every entry a place comes to. No reader has to believe these.
--   GivesPlace, GivesPlaces == an entry, and every entry, got a place, or there is no arrangement
-- Assumes nothing.
use Rattle.std.specs.Prelude.{◌≡◌, Bool, true, false, List, ℕ, ◌<◌}
use Rattle.pair_theory.specs.Arranged.{Pairs, Arranged}
use Rattle.pair_theory.specs.Chosen.{Agrees, Closed, NoBuild}
use Rattle.pair_following.specs.Following.{nth, Progress, Trail}

-- entry e got a place, or there is no arrangement
pub record GivesPlace (c : Pairs) (b : Progress) (e : ℕ) (a : Progress) (ok : Bool) : Type 0 where
  pub shape : Trail c.m a
  pub good : ok ≡ true → Closed c (nth a.put) × Agrees c (nth b.put) (nth a.put) × (nth a.put e < c.m)
  pub bad : ok ≡ false → NoBuild c

-- every entry got a place, or there is no arrangement
pub record GivesPlaces (c : Pairs) (put : List ℕ) (put' : List ℕ) (ok : Bool) : Type 0 where
  pub good : ok ≡ true → Arranged c (nth put') × Agrees c (nth put) (nth put')
  pub bad : ok ≡ false → NoBuild c
