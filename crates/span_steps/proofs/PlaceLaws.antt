-- Laws of the list of a place: where it begins and ends among the slots, and whom it has. Assumes nothing.
use mathlib.Core.Path.{◌≡◌}
use mathlib.Core.List.{List}
use Prim.Native.Nat.{ℕ, ◌+◌, ◌≤◌, ◌<◌}
use native.Mathlib.Omega.{arith}
use native.Mathlib.Numerals.{add-one}
use lib.ListN.{length, get_or}
use Rattle.span_memory.specs.Memory.{Below}
use Rattle.span_tables.specs.Prepared.{Prepared, list_at}

-- the list of a place has entries of the card
pub table_within : {words ones twos starts slots : List ℕ} {i n : ℕ} → Prepared words ones twos starts slots → i < length words → length words ≤ n
    → Below (list_at starts slots i) n
table_within {i} prepared inside h = record { each = λ j m. let low = (prepared.here i j inside m).0 in omega arith }

module _ {words ones twos starts slots : List ℕ} {i lo hi : ℕ} (prepared : Prepared words ones twos starts slots) (inside : i < length words)
    (lo_is : lo ≡ get_or starts i 0)
    (hi-is : hi ≡ get_or starts (i + 1) 0) where
  pub list_rises : lo ≤ hi
  list_rises = omega (arith, rw (← add-one i) at (prepared.starts_rise i inside))

  pub list_ends : hi ≤ length slots
  list_ends = omega (arith, rw (← add-one i) at (prepared.ends i inside))
