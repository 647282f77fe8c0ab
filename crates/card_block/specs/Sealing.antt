-- A block as it is written (01, "The card, block by block"): "In every block, bytes 508–509 hold the block's index from 0, byte 510 holds a,
-- byte 511 holds b."
--   checked xs      == the bytes xs with their check bytes after them
--   sealed own k    == block k with the bytes `own` from byte 0 on, zeros up to its index, and then its index and its check
-- Assumes nothing.
use Rattle.std.specs.Prelude.{ℕ, ◌-◌, List, [], ◌∷◌, ◌++◌, length, replicate}
use Rattle.card_block.specs.Bytes.{two_bytes}
use Rattle.card_block.specs.Check.{check_bytes}
use Rattle.card_block.specs.Block.{index_at}

unfoldable pub checked : List ℕ → List ℕ
checked xs = xs ++ ((check_bytes xs).first ∷ (check_bytes xs).second ∷ [])

unfoldable pub sealed : List ℕ → ℕ → List ℕ
sealed own k = checked (own ++ (replicate (index_at - length own) 0 ++ two_bytes k))
