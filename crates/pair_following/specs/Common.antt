-- The numbers of the entries that can still come to stand at a place. No reader has to believe this.
--   one_in, many_in      == what is found at a place: the least number, and how many, none (0), one (1) or more (2)
--   key_in key w e       == the number that entry e with the word w goes by
--   by key c             == the card with that number for the word of each entry
--   Joined a n w a' n'   == the numbers of which a is the least and n how many, with the number w
--   Common c s t b w n   == the words that can still stand at t, of the entries from slot b on: none (0), only w (1), or perhaps several (2)
-- Assumes nothing.
use Rattle.std.specs.Prelude.{◌≡◌, ◌≢◌, ℕ, ◌<◌}
use Rattle.pair_theory.specs.Arranged.{Pairs}
use Rattle.pair_theory.specs.Chosen.{Possible, Seen}
use Rattle.pair_following.specs.declared.Found.{Found}
use Rattle.pair_following.specs.declared.Found.TheVariants.{None, One, More}
use Rattle.pair_following.specs.declared.Key.{Key}
use Rattle.pair_following.specs.declared.Key.TheVariants.{Word, Number}

abbrev pub one_in : Found → ℕ
one_in None = 0
one_in (One x) = x
one_in (More x) = x

abbrev pub many_in : Found → ℕ
many_in None = 0
many_in (One x) = 1
many_in (More x) = 2

abbrev pub key_in : Key → ℕ → ℕ → ℕ
key_in Word w e = w
key_in Number w e = e

abbrev pub by : Key → Pairs → Pairs
by key c = record { m = c.m; one = c.one; two = c.two; word = λ e. key_in key (c.word e) e; head = c.head; tail = c.tail }

pub record Joined (a n w a' n' : ℕ) : Type 0 where
  pub first : n ≡ 0 → (a' ≡ w) × (n' ≡ 1)
  pub same : n ≢ 0 → w ≡ a → (a' ≡ a) × (n' ≡ n)
  pub less : n ≢ 0 → w < a → (a' ≡ w) × (n' ≡ 2)
  pub more : n ≢ 0 → a < w → (a' ≡ a) × (n' ≡ 2)

pub record Common (c : Pairs) (s : ℕ → ℕ) (t b w n : ℕ) : Type 0 where
  pub none : n ≡ 0 → (e : ℕ) → e < c.m → Seen c t b e → Possible c s t e → ⊥
  pub same : n ≡ 1 → (e : ℕ) → e < c.m → Seen c t b e → Possible c s t e → c.word e ≡ w
  pub has : 0 < n → (e : ℕ) × (e < c.m) × Possible c s t e × (c.word e ≡ w)
