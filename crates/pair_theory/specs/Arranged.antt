-- What an arrangement of a pair card is, as the place of each entry (scope, "What a build is").
--   HasPlace c e p     == p is one of the places of entry e
--   Goes c e p f q     == entry e at p and entry f at q do not exclude each other: two places, and overlapping if they are neighbours
--   Arranged c σ       == σ puts each entry at a place of its own, and no two entries exclude each other
--   Reads c σ t w      == below t the words of σ are those of w
--   ReadsLater c σ t w == σ reads as w up to a place below t, and has a larger word there
-- Assumes nothing.
use Rattle.std.specs.Prelude.{◌≡◌, ◌≢◌, ◌⊎◌, ℕ, suc, ◌<◌}

-- The entries 0 .. m−1: their places (an entry with one place has it twice), word, first l−1 letters and last l−1 letters.
pub record Pairs : Type 0 where
  pub m : ℕ
  pub one : ℕ → ℕ
  pub two : ℕ → ℕ
  pub word : ℕ → ℕ
  pub head : ℕ → ℕ
  pub tail : ℕ → ℕ

-- every place of an entry is below m
pub record Inside (c : Pairs) : Type 0 where
  pub ones : (e : ℕ) → e < c.m → c.one e < c.m
  pub twos : (e : ℕ) → e < c.m → c.two e < c.m

abbrev pub HasPlace : Pairs → ℕ → ℕ → Type 0
HasPlace c e p = (p ≡ c.one e) ⊎ (p ≡ c.two e)

pub record Goes (c : Pairs) (e p f q : ℕ) : Type 0 where
  pub apart : p ≢ q
  pub on : suc p ≡ q → c.tail e ≡ c.head f
  pub back : suc q ≡ p → c.tail f ≡ c.head e

pub record Arranged (c : Pairs) (σ : ℕ → ℕ) : Type 0 where
  pub allowed : (e : ℕ) → e < c.m → HasPlace c e (σ e)
  pub goes : (e f : ℕ) → e < c.m → f < c.m → e ≢ f → Goes c e (σ e) f (σ f)

abbrev pub Reads : Pairs → (ℕ → ℕ) → ℕ → (ℕ → ℕ) → Type 0
Reads c σ t w = (e : ℕ) → e < c.m → σ e < t → c.word e ≡ w (σ e)

pub record ReadsLater (c : Pairs) (σ : ℕ → ℕ) (t : ℕ) (w : ℕ → ℕ) : Type 0 where
  pub at : ℕ
  pub below : at < t
  pub same : Reads c σ at w
  pub more : (e : ℕ) → e < c.m → σ e ≡ at → w at < c.word e
