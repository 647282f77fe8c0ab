-- What kind, l and m may be (01, "Numbers" and "The card, block by block"). Assumes nothing.
use Rattle.std.specs.Prelude.{ℕ, Bool, ◌&&◌, ◌||◌, leb, eqb}
use Rattle.card_entries.specs.Fault.{pair, span}

-- "A card has m entries, 1 ≤ m ≤ 504."
abbrev pub least_entries : ℕ
least_entries = 1

abbrev pub most_entries : ℕ
most_entries = 504

-- x is from lo up to hi, both included
abbrev pub is_within : ℕ → ℕ → ℕ → Bool
is_within lo hi x = leb lo x && leb x hi

abbrev pub is_kind : ℕ → Bool
is_kind kind = eqb kind pair || eqb kind span
