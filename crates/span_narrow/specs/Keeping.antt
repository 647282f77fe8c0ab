-- The states that can be reached from the first one, as a table: a number above 0 in the cell of each.
--   ListThere starts slots i m            == the list of the place i is among the slots, and has few entries, below m
--   Keepable plan marks table i           == the lists of the place i and of the next are there, and the table has a cell for each state
--   Grows from table table'               == what is kept stays kept, and the cells below `from` are as they were
--   is_tried plan marks at tried           == the entry of the slot can stand, and its word is not the last one tried
--   KeptIfTried plan marks table table' at tried r
--                                         == where that is so, the state after it is kept; r is the last word tried
--   KeptAfter plan marks table table' i   == the states that follow on the state at i are kept
--   KeptBelow plan table n                == a state that follows on one that is kept and has its cell below n is kept; so is the first one
--   Opening plan marks table i b          == the same below the cell of the place i and the digits b, and the marks are those of a state at i
-- Assumes nothing.
use Rattle.std.specs.Prelude.{◌≡◌, Bool, true, false, ◌&&◌, not, List, ℕ, ◌+◌, ◌*◌, ◌≤◌, ◌<◌, eqb, length, get_or, set}
use Rattle.base_lists.specs.Members.{In}
use Rattle.span_layers.specs.Narrow.{most_over}
use Rattle.span_memory.specs.Memory.{Below}
use Rattle.span_tables.specs.Spread.{most_numbered}
use Rattle.span_tables.specs.Prepared.{list_at}
use Rattle.span_narrow.specs.declared.chances.Turn.{Turn}
use Rattle.span_narrow.specs.Plan.{Plan, list_on, Planned}
use Rattle.span_narrow.specs.States.{cells_over, Sides, cell_of, can_stand, tried_at, is_kept}

pub record ListThere (starts slots : List ℕ) (i m : ℕ) : Type 0 where
  pub starts_all : i + 1 < length starts
  pub rises : get_or starts i 0 ≤ get_or starts (i + 1) 0
  pub ends : get_or starts (i + 1) 0 ≤ length slots
  pub few : get_or starts (i + 1) 0 ≤ get_or starts i 0 + most_over
  pub entries : Below (list_at starts slots i) m
  pub numbered : i < most_numbered

pub record Keepable (plan : Plan) (marks table : List ℕ) (i : ℕ) : Type 0 where
  pub here : ListThere plan.starts plan.slots i (length plan.words)
  pub next : ListThere plan.starts plan.slots (i + 1) (length plan.words)
  pub twos_all : length plan.twos ≡ length plan.words
  pub marks_all : length marks ≡ length plan.words
  pub room : cells_over * (i + 1 + 1) ≤ length table

pub record Grows (from : ℕ) (table table' : List ℕ) : Type 0 where
  pub all : length table' ≡ length table
  pub same : (k : ℕ) → k < from → get_or table' k 0 ≡ get_or table k 0
  pub keeps : (k : ℕ) → not (eqb (get_or table k 0) 0) ≡ true → not (eqb (get_or table' k 0) 0) ≡ true

abbrev pub is_tried : Plan → List ℕ → Turn → ℕ → Bool
is_tried plan marks at tried =
    can_stand plan.twos marks at.i at.due (get_or plan.slots at.k 0)
    && not (eqb (get_or plan.words (get_or plan.slots at.k 0) 0) tried)

pub record KeptIfTried (plan : Plan) (marks table table' : List ℕ) (at : Turn) (tried r : ℕ) : Type 0 where
  pub grows : Grows (cells_over * (at.i + 1)) table table'
  pub skipped : is_tried plan marks at tried ≡ false → r ≡ tried
  pub taken : is_tried plan marks at tried ≡ true → (r ≡ get_or plan.words (get_or plan.slots at.k 0) 0)
      × (is_kept plan (set marks (get_or plan.slots at.k 0) 1) table' (at.i + 1) ≡ true)

pub record KeptAfter (plan : Plan) (marks table table' : List ℕ) (i : ℕ) : Type 0 where
  pub grows : Grows (cells_over * (i + 1)) table table'
  pub kept : (j : ℕ) → In j (tried_at plan marks i) → is_kept plan (set marks j 1) table' (i + 1) ≡ true

pub record KeptBelow (plan : Plan) (table : List ℕ) (n : ℕ) : Type 0 where
  pub room : cells_over * length plan.words ≤ length table
  pub begun : get_or table 0 0 ≡ 0 → ⊥
  pub closed : (marks : List ℕ) (i j : ℕ) → i + 1 < length plan.words → Sides plan marks i (i + 1)
      → is_kept plan marks table i ≡ true
      → In j (tried_at plan marks i)
      → cell_of (list_on plan i) marks i < n
      → is_kept plan (set marks j 1) table (i + 1) ≡ true

pub record Opening (plan : Plan) (marks table : List ℕ) (i b : ℕ) : Type 0 where
  pub planned : Planned plan
  pub inside : i + 1 < length plan.words
  pub sides : Sides plan marks i (i + 1)
  pub upto : KeptBelow plan table (cells_over * i + b)
