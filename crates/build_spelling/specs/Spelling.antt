-- The words that can be spelled.
--   Spells l ws         == there is a word, and each has l letters, of which there is one at least
-- Assumes nothing.
use Rattle.std.specs.Prelude.{List, ℕ, ◌≤◌, ◌<◌, length}
use Rattle.card_entries.specs.Fault.{most_length}

pub record Spells (l : ℕ) (ws : List ℕ) : Type 0 where
  pub some_letter : 0 < l
  pub few_letters : l ≤ most_length
  pub some_word : 0 < length ws
