-- An arrangement by its words, as the methods find one.
--   Worded l es ws      == ws are the words of an arrangement of the entries es, in the order of their places
-- Assumes nothing.
use Rattle.std.specs.Prelude.{◌≡◌, List, ℕ}
use Rattle.card_entries.specs.declared.Entry.{Entry}
use Rattle.build_sequence.specs.Arrangement.{Arrangement, words}

-- an arrangement, by its words
pub record Worded (l : ℕ) (es : List Entry) (ws : List ℕ) : Type 0 where
  pub order : List Entry
  pub arrangement : Arrangement l es order
  pub in_order : ws ≡ words order
