-- What settling narrow lists promises, and for its inner functions whether a place is crowded.
--   SettlesLists l es r ws   == what r says is true, and where it gives a build, ws are the words of an arrangement of the entries es
--   Uncrowded starts m       == each of the first m places has at most 7 spans over it
--   Crowding starts m r      == r says whether one of the first m places has 8 or more
-- Assumes nothing.
use Rattle.std.specs.Prelude.{◌≡◌, Bool, true, false, List, ℕ, suc, ◌+◌, ◌≤◌, ◌<◌, get_or}
use Rattle.card_entries.specs.declared.Slot.{Slot}
use Rattle.span_theory.specs.Settling.{span_entries}
use Rattle.span_layers.specs.Narrow.{most_over}
use Rattle.span_layers.specs.Settling.{MeansNarrow}
use Rattle.build_method.specs.declared.MethodAnswer.{MethodAnswer}
use Rattle.build_method.specs.Method.{Right}

abbrev pub SettlesLists : ℕ → List Slot → MethodAnswer → List ℕ → Type 0
SettlesLists l es r ws = Right l (span_entries es) (MeansNarrow l es) r ws

pub record Uncrowded (starts : List ℕ) (m : ℕ) : Type 0 where
  pub few : (i : ℕ) → i < m → get_or starts (suc i) 0 ≤ get_or starts i 0 + most_over

pub record Crowding (starts : List ℕ) (m : ℕ) (r : Bool) : Type 0 where
  pub some_place : r ≡ true → (i : ℕ) × (i < m) × (get_or starts i 0 + most_over < get_or starts (suc i) 0)
  pub no_place : r ≡ false → Uncrowded starts m
