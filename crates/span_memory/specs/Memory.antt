-- The memory of the walk: a state that was walked to its end without a build keeps the number of its placements, by a key. It is a list of
-- numbers, of which cell s has two: a key, at 2 s, and a size, at 2 s + 1. That what it says is true, `Recalls`, stands in `span_walk`.
--   mark_of marks j                == 1 where entry j is placed, 0 where it is left
--   with_mark marks b j            == b, and after it the mark of entry j, as a binary digit
--   bits_of marks js               == the marks of the entries js, as binary digits
--   Below js n                    == the numbers of the list are below n
--   KeyOf marks js i want key     == `key` is that of the state at the place i, whose list is js, after a word that ends in `want`
--   Told known key size           == a cell has the key, and the size
-- Assumes nothing.
use Rattle.std.specs.Prelude.{◌≡◌, ◌⊎◌, cond, ℕ, ◌+◌, ◌*◌, ◌<◌, eqb, length, get_or}
use mathlib.Core.List.{List, foldl}
use Rattle.base_lists.specs.Members.{In}
use Rattle.span_memory.specs.declared.tally.Tally.{Tally}

-- the marks of so many entries are told in a key,
abbrev pub few_marks : ℕ
few_marks = 16

-- and have so many values
abbrev pub mark_values : ℕ
mark_values = 65536

-- the last letters of a word are below it,
abbrev pub tail_values : ℕ
tail_values = 4294967296

-- and places below this one leave room for all of that in eight bytes
abbrev pub most_places : ℕ
most_places = 65535

-- the memory has so many buckets,
abbrev pub buckets : ℕ
buckets = 251

-- with two cells for each,
abbrev pub cells : ℕ
cells = 2 * buckets

-- and two numbers for each cell
abbrev pub memory_length : ℕ
memory_length = 2 * cells

abbrev pub mark_of : List ℕ → ℕ → ℕ
mark_of marks j = cond (eqb (get_or marks j 0) 0) 0 1

abbrev pub with_mark : List ℕ → ℕ → ℕ → ℕ
with_mark marks b j = 2 * b + mark_of marks j

unfoldable pub bits_of : List ℕ → List ℕ → ℕ
bits_of marks js = foldl (with_mark marks) 0 js

pub record Below (js : List ℕ) (n : ℕ) : Type 0 where
  pub each : (j : ℕ) → In j js → j < n

-- what `bits_of` promises
pub record Bits (marks js : List ℕ) (r : ℕ) : Type 0 where
  pub all : r ≡ bits_of marks js
  pub few : r < mark_values

pub record KeyOf (marks js : List ℕ) (i want key : ℕ) : Type 0 where
  pub few : bits_of marks js < mark_values
  pub low : want < tail_values
  pub made : key ≡ (i * mark_values + bits_of marks js) * tail_values + want + 1

pub record Told (known : List ℕ) (key size : ℕ) : Type 0 where
  pub some : 0 < key
  pub cell : ℕ
  pub inside : cell < cells
  pub key_is : get_or known (2 * cell) 0 ≡ key
  pub size_is : get_or known (2 * cell + 1) 0 ≡ size

-- what `remember` promises: each cell is as it was, or has the key and the placements, where no build was completed
pub record Stored (known known' : List ℕ) (key : ℕ) (before after : Tally) : Type 0 where
  pub all : length known' ≡ length known
  pub each : (s : ℕ) → s < cells
      → ((get_or known' (2 * s) 0 ≡ get_or known (2 * s) 0) × (get_or known' (2 * s + 1) 0 ≡ get_or known (2 * s + 1) 0))
      ⊎ ((after.builds ≡ before.builds) × (0 < key) × (get_or known' (2 * s) 0 ≡ key)
      × (before.placed + get_or known' (2 * s + 1) 0 ≡ after.placed))
