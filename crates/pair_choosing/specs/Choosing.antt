-- What choosing the words of the places comes to. No reader has to believe these.
--   Kept                   == the places are as they were
--   Tries                  == the word of entry e joins if e can stand at t, found by trying
--   Weighed                == the words of the entries of t that can stand there: how many, and the least
--   Picked                   == a place and the word that is picked for it
--   Drops, DropsAll        == entries of other words than the picked are gone from its place
--   chosen_word, chosen_more == what the choice at a place says: its word, and how many choices were free
--   all_choices            == how many choices of all places were free
--   Chooses, ChoosesAll    == the word of a place, and of every place, is decided, or there is no arrangement
-- Assumes nothing.
use Rattle.std.specs.Prelude.{◌≡◌, Bool, true, false, List, ◌⊎◌, ℕ, ◌-◌, ◌<◌, length, Result, Ok, Err}
use Rattle.pair_theory.specs.Arranged.{Pairs, Arranged}
use Rattle.pair_theory.specs.Chosen.{Agrees, Closed, Possible, HasWord, Refuted, Followed, Seen, TriedFrom, Cleared, WordChosen, Upto, NoBuild}
use Rattle.pair_following.specs.Common.{Joined}
use Rattle.pair_following.specs.Following.{nth, Progress, Trail}
use Rattle.pair_following.specs.declared.Clashed.{Clashed}
use Rattle.pair_choosing.specs.declared.PlaceChoice.{PlaceChoice}

-- the least of some words, and how many: none, one or more
pub record Least : Type 0 where
  pub least : ℕ
  pub many : ℕ

abbrev pub least_of : ℕ → ℕ → Least
least_of least many = record { least = least; many = many }

-- the places are as they were
pub record Kept (c : Pairs) (b a : Progress) : Type 0 where
  pub same : a.put ≡ b.put
  pub shape : Trail c.m a

-- entry e cannot stand at t, or its word joins those that can
pub record Tries (c : Pairs) (s : ℕ → ℕ) (e t : ℕ) (v v' : Least) : Type 0 where
  pub way : (Refuted c s e t × (v'.least ≡ v.least) × (v'.many ≡ v.many))
      ⊎ ((g : ℕ → ℕ) × Followed c s e t g × Joined v.least v.many (c.word e) v'.least v'.many)

-- the same, of words that were tried: none (0), only w (1), or w and a larger one (2)
pub record Weighed (c : Pairs) (s : ℕ → ℕ) (t b w n : ℕ) : Type 0 where
  pub none : n ≡ 0 → (e : ℕ) → e < c.m → Seen c t b e → Refuted c s e t
  pub some : 0 < n → TriedFrom c s t b w (n - 1)
  pub few : n < 3

-- a place, and the word that is picked for it
pub record Picked : Type 0 where
  pub place : ℕ
  pub word : ℕ

abbrev pub pick_of : ℕ → ℕ → Picked
pick_of t w = record { place = t; word = w }

-- σ has the picked word at its place
abbrev pub Picks : Pairs → (ℕ → ℕ) → Picked → Type 0
Picks c σ k = HasWord c σ k.place k.word

-- entry e goes from the place, unless it has the word
pub record Drops (c : Pairs) (b : Progress) (e : ℕ) (k : Picked) (a : Progress) (ok : Bool) : Type 0 where
  pub shape : Trail c.m a
  pub closed : ok ≡ true → Closed c (nth a.put)
  pub keeps : Agrees c (nth b.put) (nth a.put)
  pub forced : ok ≡ true → (σ : ℕ → ℕ) → Arranged c σ → Agrees c (nth b.put) σ → Picks c σ k → Agrees c (nth a.put) σ
  pub gone : ok ≡ true → Possible c (nth a.put) k.place e → c.word e ≡ k.word
  pub bad : ok ≡ false → (σ : ℕ → ℕ) → Arranged c σ → Agrees c (nth b.put) σ → Picks c σ k → ⊥

-- the entries of other words are gone from the place
pub record DropsAll (c : Pairs) (b : Progress) (k : Picked) (a : Progress) (ok : Bool) : Type 0 where
  pub shape : Trail c.m a
  pub good : ok ≡ true → Cleared c (nth b.put) k.place 0 k.word (nth a.put)
  pub bad : ok ≡ false → (σ : ℕ → ℕ) → Arranged c σ → Agrees c (nth b.put) σ → Picks c σ k → ⊥

-- what a choice says: where it clashed there is no word, and no choice was free
abbrev pub chosen_word : Result PlaceChoice Clashed → ℕ
chosen_word (Ok x) = x.word
chosen_word (Err clash) = 0

abbrev pub chosen_more : Result PlaceChoice Clashed → ℕ
chosen_more (Ok x) = x.more
chosen_more (Err clash) = 0

abbrev pub all_choices : Result ℕ Clashed → ℕ
all_choices (Ok x) = x
all_choices (Err clash) = 0

-- the word of the place is decided, of one or more (1), or there is no arrangement
pub record Chooses (c : Pairs) (b : Progress) (k : Picked) (more : ℕ) (a : Progress) (ok : Bool) : Type 0 where
  pub shape : Trail c.m a
  pub good : ok ≡ true → WordChosen c (nth b.put) k.place k.word more (nth a.put)
  pub few : more < 2
  pub bad : ok ≡ false → NoBuild c

-- the words of every place are decided, or there is no arrangement
pub record ChoosesAll (c : Pairs) (a : Progress) (ok : Bool) (k : ℕ) (words : List ℕ) : Type 0 where
  pub shape : Trail c.m a
  pub count : length words ≡ c.m
  pub good : ok ≡ true → Upto c (nth a.put) c.m (nth words) k
  pub bad : ok ≡ false → NoBuild c
