-- What the memory says of the walk, and that it is true.
--   Dead n reached                == nothing of what is reached has n words
--   DeadIn n size reached         == what is reached is dead, and so many placements
--   Ends tables mask marks i want size
--                                 == from the state on the walk completes no build, in `size` placements
--   Recalls tables mask known     == what the memory says is true: every state with the key of a cell ends in the size of that cell
-- Assumes nothing.
use Rattle.std.specs.Prelude.{◌≡◌, false, List, [], ◌∷◌, ℕ, ◌+◌, ◌*◌, ◌-◌, ◌<◌, eqb, length, get_or}
use Rattle.span_memory.specs.Memory as memory
use Rattle.span_memory.specs.Memory.{KeyOf}
use Rattle.span_tables.specs.Prepared.{list_at}
use Rattle.span_steps.specs.Steps.{WalkTables}
use Rattle.span_walk.specs.Going.{Reader, Stands, Sought, reached}

pub data Dead (n : ℕ) : List (List ℕ) → Type 0 where
  none : Dead n []
  more : {ws : List ℕ} {reached : List (List ℕ)} → eqb (length ws) n ≡ false → Dead n reached → Dead n (ws ∷ reached)

pub record DeadIn (n size : ℕ) (reached : List (List ℕ)) : Type 0 where
  pub dead : Dead n reached
  pub long : length reached ≡ size

pub record Ends (tables : WalkTables) (mask : ℕ) (marks : List ℕ) (i want size : ℕ) : Type 0 where
  pub each : (reader : Reader) → Sought tables mask i want reader → DeadIn (length tables.words - i) size (reached tables reader marks i)

pub record Recalls (tables : WalkTables) (mask : ℕ) (known : List ℕ) : Type 0 where
  pub all : length known ≡ memory.memory_length
  pub each : (s : ℕ) → s < memory.cells → (marks : List ℕ) (i want : ℕ) → Stands tables marks i
      → KeyOf marks (list_at tables.starts tables.slots i) i want (get_or known (2 * s) 0)
      → Ends tables mask marks i want (get_or known (2 * s + 1) 0)
