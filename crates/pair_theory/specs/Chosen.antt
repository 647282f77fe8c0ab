-- Entries placed so far: s e is the place of entry e, or m and above where it has none yet. No reader has to believe these.
--   Agrees c s σ           == σ has the places of s
--   Closed c s             == what a placed entry excludes is out: nothing placed clashes, and nothing that is not placed could
--   Followed c s e p r     == r is s with e put at p and all that this forces
--   Refuted c s e p        == no arrangement with the places of s has e at p
--   WordChosen c s t w k r == r is s with the word w, the smallest that can be, at place t; k is 0 if no other can be
--   Read c ws              == ws has the words of an arrangement, place by place
--   ReadAs c t w ws        == and below t they are those of w
--   Upto c s t w n         == s has decided the words of the first build below t, which are those of w, after n places where another word
--                             was possible too: there are 2^n times as many builds as have those words
-- Assumes nothing.
use Rattle.std.specs.Prelude.{◌≡◌, ◌≢◌, ◌⊎◌, List, ℕ, ◌+◌, ◌*◌, ◌^◌, ◌<◌, ◌≤◌, length, get_or}
use Rattle.build_sequence.specs.Many.{Many}
use Rattle.pair_theory.specs.Arranged.{Pairs, HasPlace, Goes, Arranged, Reads, ReadsLater}

abbrev pub Agrees : Pairs → (ℕ → ℕ) → (ℕ → ℕ) → Type 0
Agrees c s σ = (e : ℕ) → e < c.m → s e < c.m → σ e ≡ s e

pub record Closed (c : Pairs) (s : ℕ → ℕ) : Type 0 where
  pub allowed : (e : ℕ) → e < c.m → s e < c.m → HasPlace c e (s e)
  pub clear : (e f q : ℕ) → e < c.m → f < c.m → e ≢ f → s e < c.m → HasPlace c f q → Goes c e (s e) f q ⊎ ((s f < c.m) × (s f ≢ q))

pub record Followed (c : Pairs) (s : ℕ → ℕ) (e p : ℕ) (r : ℕ → ℕ) : Type 0 where
  pub closed : Closed c r
  pub keeps : Agrees c s r
  pub takes : r e ≡ p
  pub forced : (σ : ℕ → ℕ) → Arranged c σ → Agrees c s σ → σ e ≡ p → Agrees c r σ

abbrev pub Refuted : Pairs → (ℕ → ℕ) → ℕ → ℕ → Type 0
Refuted c s e p = (σ : ℕ → ℕ) → Arranged c σ → Agrees c s σ → σ e ≡ p → ⊥

-- entry e can still come to stand at t
abbrev pub Possible : Pairs → (ℕ → ℕ) → ℕ → ℕ → Type 0
Possible c s t e = HasPlace c e t × ((c.m ≤ s e) ⊎ (s e ≡ t))

-- σ has the word w at t
abbrev pub HasWord : Pairs → (ℕ → ℕ) → ℕ → ℕ → Type 0
HasWord c σ t w = (e : ℕ) → e < c.m → σ e ≡ t → c.word e ≡ w

pub record Another (c : Pairs) (s : ℕ → ℕ) (t w : ℕ) : Type 0 where
  pub σ : ℕ → ℕ
  pub arranged : Arranged c σ
  pub agrees : Agrees c s σ
  pub entry : ℕ
  pub inside : entry < c.m
  pub stands : σ entry ≡ t
  pub more : w < c.word entry

pub record WordChosen (c : Pairs) (s : ℕ → ℕ) (t w k : ℕ) (r : ℕ → ℕ) : Type 0 where
  pub closed : Closed c r
  pub keeps : Agrees c s r
  pub forced : (σ : ℕ → ℕ) → Arranged c σ → Agrees c s σ → HasWord c σ t w → Agrees c r σ
  pub out : (e : ℕ) → e < c.m → Possible c r t e → c.word e ≡ w
  pub low : (σ : ℕ → ℕ) → Arranged c σ → Agrees c s σ → (e : ℕ) → e < c.m → σ e ≡ t → w ≤ c.word e
  pub alone : k ≡ 0 → (σ : ℕ → ℕ) → Arranged c σ → Agrees c s σ → HasWord c σ t w
  pub others : 0 < k → (σ : ℕ → ℕ) → Arranged c σ → Another c s t w

pub record Read (c : Pairs) (ws : List ℕ) : Type 0 where
  pub σ : ℕ → ℕ
  pub arranged : Arranged c σ
  pub many : length ws ≡ c.m
  pub has : Reads c σ c.m (λ i. get_or ws i 0)

pub record ReadAs (c : Pairs) (t : ℕ) (w : ℕ → ℕ) (ws : List ℕ) : Type 0 where
  pub read : Read c ws
  pub same : (i : ℕ) → i < t → i < c.m → get_or ws i 0 ≡ w i

pub record Upto (c : Pairs) (s : ℕ → ℕ) (t : ℕ) (w : ℕ → ℕ) (n : ℕ) : Type 0 where
  pub closed : Closed c s
  pub into : (σ : ℕ → ℕ) → Arranged c σ → Reads c σ t w → Agrees c s σ
  pub reads : (σ : ℕ → ℕ) → Arranged c σ → Agrees c s σ → Reads c σ t w
  pub first : (σ : ℕ → ℕ) → Arranged c σ → Reads c σ t w ⊎ ReadsLater c σ t w
  pub many : (i : ℕ) → Many (ReadAs c t w) i → Many (Read c) (2 ^ n * i)

-- the entries that the list of place t has from slot b on: slot 2 * e is entry e at its place one, slot 2 * e + 1 at its place two
abbrev pub Seen : Pairs → ℕ → ℕ → ℕ → Type 0
Seen c t b e = ((t ≡ c.one e) × (b ≤ 2 * e)) ⊎ ((t ≡ c.two e) × (b ≤ 2 * e + 1))

-- what is known of place t once its entries from slot b on were tried: w is the smallest word that can be there, k is 0 if no other can
pub record TriedFrom (c : Pairs) (s : ℕ → ℕ) (t b w k : ℕ) : Type 0 where
  pub entry : ℕ
  pub inside : entry < c.m
  pub has : c.word entry ≡ w
  pub places : ℕ → ℕ
  pub followed : Followed c s entry t places
  pub low : (e : ℕ) → e < c.m → Seen c t b e → Refuted c s e t ⊎ (w ≤ c.word e)
  pub alone : k ≡ 0 → (e : ℕ) → e < c.m → Seen c t b e → Refuted c s e t ⊎ (c.word e ≡ w)
  pub others : 0 < k → (σ : ℕ → ℕ) → Arranged c σ → Another c s t w

-- s with the entries from slot b on that have another word than w gone from t
pub record Cleared (c : Pairs) (s : ℕ → ℕ) (t b w : ℕ) (r : ℕ → ℕ) : Type 0 where
  pub closed : Closed c r
  pub keeps : Agrees c s r
  pub forced : (σ : ℕ → ℕ) → Arranged c σ → Agrees c s σ → HasWord c σ t w → Agrees c r σ
  pub out : (e : ℕ) → e < c.m → Seen c t b e → Possible c r t e → c.word e ≡ w

-- the answer: a build there is, that no other comes before, and there are 2^n
pub record FirstFound (c : Pairs) (w : ℕ → ℕ) (n : ℕ) : Type 0 where
  pub σ : ℕ → ℕ
  pub arranged : Arranged c σ
  pub reads : Reads c σ c.m w
  pub first : (τ : ℕ → ℕ) → Arranged c τ → Reads c τ c.m w ⊎ ReadsLater c τ c.m w
  pub many : Many (Read c) (2 ^ n)

-- there is no arrangement
abbrev pub NoBuild : Pairs → Type 0
NoBuild c = (σ : ℕ → ℕ) → Arranged c σ → ⊥
