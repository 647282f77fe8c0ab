-- Following what one placement forces, with a trail of the entries placed. No reader has to believe these.
--   count_in, place_in, prev_in, word_in, last_in == what the list of a card holds
--   pairs_of card mask     == the entries of that list, by their numbers
--   pairs_in p             == the same of the struct that the code reads
--   Progress              == the place of each entry so far, and the trail of those that got one
--   progress_in p         == the same of the struct that the code reads
--   Free c s e f q        == entry f at q is no hindrance to entry e at its place: they go together, or f has another place
--   AllFree c s e         == that of all other entries and their places
--   FreeFrom c s e q b    == that of the entries of place q from slot b on
--   Traced c b a          == a is b with the entries placed that the trail of a has beyond that of b
--   Forced c s s'         == an arrangement with the places of s has those of s'
--   Clash c s             == no arrangement has the places of s
--   Done c b top busy     == each placed entry has all others free, but for those on the trail from top on and for busy
-- Assumes nothing.
use Rattle.std.specs.Prelude.{◌≡◌, Bool, true, false, cond, List, [], ◌∷◌, ◌≢◌, ◌⊎◌, ℕ, ◌+◌, ◌*◌, ◌-◌, ◌/◌, ◌<◌, ◌≤◌, ◌^◌, ltb, length, get_or, set}
use Rattle.std.specs.Int.Bits.{bit_and}
use Rattle.pair_theory.specs.Arranged.{Pairs, HasPlace, Goes, Arranged}
use Rattle.pair_theory.specs.Chosen.{Agrees, Followed, Refuted, Seen}
use Rattle.pair_following.specs.declared.Placed.{Placed}
use Rattle.pair_following.specs.declared.PairCard.{PairCard}

-- ---- the card as one list

-- element i
abbrev pub nth : List ℕ → ℕ → ℕ
nth l i = get_or l i 0

-- The list has three numbers for each slot. Slot 2 * e is entry e at its place one, and slot 2 * e + 1 at its place two: the place; the slot
-- before it in the list of that place, plus one, or 0; and, of the first slot, the word of e, of the second, the last slot of the list of
-- place e, plus one, or 0.
abbrev pub count_in : List ℕ → ℕ
count_in card = length card / 6

abbrev pub place_in : List ℕ → ℕ → ℕ
place_in card x = nth card (3 * x)

abbrev pub prev_in : List ℕ → ℕ → ℕ
prev_in card x = nth card (3 * x + 1)

abbrev pub word_in : List ℕ → ℕ → ℕ
word_in card e = nth card (6 * e + 2)

abbrev pub last_in : List ℕ → ℕ → ℕ
last_in card t = nth card (6 * t + 5)

-- mask takes the last l − 1 letters of a word
abbrev pub pairs_of : List ℕ → ℕ → Pairs
pairs_of card mask =
    record {
      m = count_in card;
      one = λ e. place_in card (2 * e);
      two = λ e. place_in card (2 * e + 1);
      word = λ e. word_in card e;
      head = λ e. word_in card e / 4;
      tail = λ e. bit_and (word_in card e) mask;
    }

abbrev pub pairs_in : PairCard → Pairs
pairs_in p = pairs_of p.card.now p.mask

-- the places are places of the card, and the words have 32 bits
pub record HoldsPairs (card : List ℕ) (mask : ℕ) : Type 0 where
  pub inside : (x : ℕ) → x < 2 * count_in card → place_in card x < count_in card
  pub words : (e : ℕ) → e < count_in card → word_in card e < 2 ^ 32
  pub ones : (k : ℕ) × (mask + 1 ≡ 4 ^ k)

-- the list of each place
pub record Links (card : List ℕ) : Type 0 where
  pub top : (t : ℕ) → t < count_in card
      → (last_in card t ≤ 2 * count_in card)
      × ((x : ℕ) → last_in card t ≤ x → x < 2 * count_in card → place_in card x ≢ t)
      × (0 < last_in card t → place_in card (last_in card t - 1) ≡ t)
  pub next : (x : ℕ) → x < 2 * count_in card
      → (prev_in card x ≤ x)
      × ((y : ℕ) → prev_in card x ≤ y → y < x → place_in card y ≢ place_in card x)
      × (0 < prev_in card x → place_in card (prev_in card x - 1) ≡ place_in card x)

-- ---- the places so far

-- the place of each entry, or m where it has none; the entries that got one, in their order; and how many
pub record Progress : Type 0 where
  pub put : List ℕ
  pub trail : List ℕ
  pub n : ℕ

abbrev pub progress_of : List ℕ → List ℕ → ℕ → Progress
progress_of put trail n = record { put = put; trail = trail; n = n }

-- the same of the struct that the code reads
abbrev pub progress_in : Placed → Progress
progress_in p = progress_of p.put.now p.trail.now p.n

-- b with entry f at r
abbrev pub with_put : Progress → ℕ → ℕ → Progress
with_put b f r = progress_of (set b.put f r) (set b.trail b.n f) (b.n + 1)

-- how many entries have no place
unfoldable pub unplaced : ℕ → List ℕ → ℕ
unplaced m [] = 0
unplaced m (x ∷ xs) = cond (ltb x m) 0 1 + unplaced m xs

pub record Trail (m : ℕ) (b : Progress) : Type 0 where
  pub puts : length b.put ≡ m
  pub trails : length b.trail ≡ m
  pub blank : (f : ℕ) → nth b.put f ≤ m
  pub count : b.n + unplaced m b.put ≡ m
  pub inside : (i : ℕ) → i < b.n → nth b.trail i < m
  pub placed : (i : ℕ) → i < b.n → nth b.put (nth b.trail i) < m

-- what the steps of the method ask
pub record Ready (card : List ℕ) (mask : ℕ) (b : Progress) : Type 0 where
  pub holds : HoldsPairs card mask
  pub links : Links card
  pub shape : Trail (count_in card) b

-- ---- what following does

-- of m entries, entry e can still come to stand at its place t
abbrev pub CanStand : ℕ → List ℕ → ℕ → ℕ → Type 0
CanStand m put e t = (m ≤ nth put e) ⊎ (nth put e ≡ t)

abbrev pub Free : Pairs → (ℕ → ℕ) → ℕ → ℕ → ℕ → Type 0
Free c s e f q = Goes c e (s e) f q ⊎ ((s f < c.m) × (s f ≢ q))

abbrev pub AllFree : Pairs → (ℕ → ℕ) → ℕ → Type 0
AllFree c s e = (f q : ℕ) → f < c.m → e ≢ f → HasPlace c f q → Free c s e f q

abbrev pub FreeFrom : Pairs → (ℕ → ℕ) → ℕ → ℕ → ℕ → Type 0
FreeFrom c s e q b = (f : ℕ) → f < c.m → e ≢ f → Seen c q b f → Free c s e f q

-- entry e stands on the trail h from a up to b
abbrev pub OnTrail : (ℕ → ℕ) → ℕ → ℕ → ℕ → Type 0
OnTrail h a b e = (i : ℕ) × (a ≤ i) × (i < b) × (h i ≡ e)

pub record Traced (c : Pairs) (b a : Progress) : Type 0 where
  pub more : b.n ≤ a.n
  pub trail : (i : ℕ) → i < b.n → nth a.trail i ≡ nth b.trail i
  pub keeps : Agrees c (nth b.put) (nth a.put)
  pub allowed : (f : ℕ) → f < c.m → c.m ≤ nth b.put f → nth a.put f < c.m → HasPlace c f (nth a.put f)
  pub back : (f : ℕ) → f < c.m → (nth a.put f ≡ nth b.put f) ⊎ OnTrail (nth a.trail) b.n a.n f
  pub fresh : (i : ℕ) → b.n ≤ i → i < a.n → (nth a.trail i < c.m) × (c.m ≤ nth b.put (nth a.trail i))

abbrev pub Forced : Pairs → (ℕ → ℕ) → (ℕ → ℕ) → Type 0
Forced c s s' = (σ : ℕ → ℕ) → Arranged c σ → Agrees c s σ → Agrees c s' σ

abbrev pub Clash : Pairs → (ℕ → ℕ) → Type 0
Clash c s = (σ : ℕ → ℕ) → Arranged c σ → Agrees c s σ → ⊥

abbrev pub Done : Pairs → Progress → ℕ → ℕ → Type 0
Done c b top busy =
    (f : ℕ) → f < c.m → nth b.put f < c.m → f ≢ busy → AllFree c (nth b.put) f ⊎ OnTrail (nth b.trail) top b.n f

-- ---- the contracts

-- r says whether A holds
pub record Decides (A : Type 0) (r : Bool) : Type 0 where
  pub yes : r ≡ true → A
  pub no : r ≡ false → A → ⊥

-- places and trail grew; where ok is true only by what is forced, and A holds; where it is false there is a clash
pub record Grown (c : Pairs) (b a : Progress) (ok : Bool) (A : Type 0) : Type 0 where
  pub shape : Trail c.m a
  pub traced : Traced c b a
  pub good : ok ≡ true → Forced c (nth b.put) (nth a.put) × A
  pub bad : ok ≡ false → Clash c (nth b.put)

-- what following entry e at p comes to
pub record Follows (c : Pairs) (b : Progress) (e p : ℕ) (a : Progress) (ok : Bool) : Type 0 where
  pub shape : Trail c.m a
  pub traced : Traced c b a
  pub good : ok ≡ true → Followed c (nth b.put) e p (nth a.put)
  pub bad : ok ≡ false → Refuted c (nth b.put) e p

-- the entries of the trail from `from` on lost their place: what had none for them is back
pub record TakenBack (b : Progress) (from : ℕ) (put : List ℕ) : Type 0 where
  pub back : (base : List ℕ) → length base ≡ length b.put
      → ((i : ℕ) → from ≤ i → i < b.n → nth base (nth b.trail i) ≡ length b.put)
      → ((f : ℕ) → f < length b.put → (nth b.put f ≡ nth base f) ⊎ OnTrail (nth b.trail) from b.n f) → put ≡ base

-- whether entry e can be put at p
pub record Attempt (c : Pairs) (b : Progress) (e p : ℕ) (a : Progress) (r : Bool) : Type 0 where
  pub same : a.put ≡ b.put
  pub shape : Trail c.m a
  pub yes : r ≡ true → (s : ℕ → ℕ) × Followed c (nth b.put) e p s
  pub no : r ≡ false → Refuted c (nth b.put) e p
