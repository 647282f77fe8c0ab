-- The blocks of a card: what makes a block hold, what a fetch hands back and what its companion answers
-- (01, "The card, block by block" and "What can come back").
--   block_at card k       == the bytes of block k
--   index_of b            == the index field of the block b
--   block_tests b k       == what makes b hold as block k
--   fetch_tests card k    == the tests of a fetch of block k, in their order
--   fetch_of card k       == the part that the fetch hands back
--   place_of p card k     == where that part stands, p being where the card does
-- Assumes nothing.
use Rattle.std.specs.Prelude.{ℕ, ◌+◌, ◌*◌, List, [], ◌∷◌, length, take, drop, leb, eqb}
use Rattle.base_answers.specs.Numbers.{Check, Index, Absent}
use Rattle.base_answers.specs.Answer.{Answer, given, refused, Test, test, first}
use Rattle.card_block.specs.Bytes.{two_at}
use Rattle.card_block.specs.Check.{checks}

-- "blocks of 512 bytes"
abbrev pub block_bytes : ℕ
block_bytes = 512

unfoldable pub block_at : List ℕ → ℕ → List ℕ
block_at card k = take block_bytes (drop (block_bytes * k) card)

-- "bytes 508–509 hold the block's index from 0"
abbrev pub index_at : ℕ
index_at = 508

unfoldable pub index_of : List ℕ → ℕ
index_of b = two_at b index_at

-- "block's a or b differs", then "block's index field differs", each with the block as its place
unfoldable pub block_tests : List ℕ → ℕ → List Test
block_tests b k = test (checks b) Check k ∷ test (eqb (index_of b) k) Index k ∷ []

-- "Fetching a block tests 14 (its 512 bytes are not all there), then 2, then 3"
unfoldable pub fetch_tests : List ℕ → ℕ → List Test
fetch_tests card k = test (leb (block_bytes * k + block_bytes) (length card)) Absent 0 ∷ block_tests (block_at card k) k

-- what is handed back: the bytes where they are given, and "an empty part on refusal"
abbrev pub part_of : Answer (List ℕ) → List ℕ
part_of (given b) = b
part_of (refused n p) = []

unfoldable pub fetch_of : List ℕ → ℕ → List ℕ
fetch_of card k = part_of (first (fetch_tests card k) (block_at card k))

-- `at` bytes after the place p
abbrev pub start_of : ℕ × ℕ → ℕ → ℕ × ℕ
start_of p at = (p.0, at + p.1)

-- how far into the card the part starts
abbrev pub offset_of : Answer ℕ → ℕ
offset_of (given at) = at
offset_of (refused n p) = 0

-- "those 512 bytes of the lent card themselves, not a copy"
unfoldable pub place_of : ℕ × ℕ → List ℕ → ℕ → ℕ × ℕ
place_of p card k = start_of p (offset_of (first (fetch_tests card k) (block_bytes * k)))
