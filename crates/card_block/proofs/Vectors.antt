-- The scope's worked examples of the check, and some more, from the definitions. Assumes nothing.
use mathlib.Core.Path.{◌≡◌, refl}
use mathlib.Core.List.{List, [], ◌∷◌, ◌++◌}
use Prim.Native.Nat.{ℕ}
use lib.ListN.{replicate}
use Rattle.base_answers.specs.Numbers.{Check, Index, Absent}
use Rattle.base_answers.specs.Answer.{given, refused, sound, first}
use Rattle.card_block.specs.Bytes.{two_at}
use Rattle.card_block.specs.Check.{sums_of, check_bytes, checks, check_at}
use Rattle.card_block.specs.Block.{block_at, index_of, block_tests, fetch_tests}

-- "A block of zeros but for byte 0 = 1 has a = 1, b = 0"
pub one_then_zeros : sums_of (1 ∷ replicate 509 0) ≡ record { a = 1; b = 0 }
unfolding sums_of
one_then_zeros = refl

-- "A head for a span card with l = 3, m = 8 has a = 14, b = 215"
pub span_head : sums_of (1 ∷ 2 ∷ 3 ∷ 0 ∷ 8 ∷ replicate 505 0) ≡ record { a = 14; b = 215 }
unfolding sums_of
span_head = refl

-- that head with its check bytes, and what a fetch from it answers
unfoldable pub head : List ℕ
head = 1 ∷ 2 ∷ 3 ∷ 0 ∷ 8 ∷ replicate 505 0 ++ (14 ∷ 215 ∷ [])

pub head_holds : first (fetch_tests head 0) sound ≡ given sound
unfolding head first fetch_tests block_tests block_at checks check_bytes sums_of index_of two_at
head_holds = refl

pub head_not_second : first (block_tests head 1) sound ≡ refused Index 1
unfolding head first fetch_tests block_tests block_at checks check_bytes sums_of index_of two_at
head_not_second = refl

pub no_second : first (fetch_tests head 1) sound ≡ refused Absent 0
unfolding head first fetch_tests block_tests block_at checks check_bytes sums_of index_of two_at
no_second = refl

-- "check" comes before "index": a block of zeros but for byte 0 = 1 fails both as block 1
pub check_first : first (block_tests (1 ∷ replicate 511 0) 1) sound ≡ refused Check 1
unfolding first fetch_tests block_tests block_at checks check_bytes sums_of index_of two_at
check_first = refl

-- b counts as a does, and a stored 255 is not 0
pub second_counts : first (block_tests (1 ∷ replicate 509 0 ++ (1 ∷ 255 ∷ [])) 0) sound ≡ refused Check 0
unfolding first block_tests checks check_bytes sums_of index_of two_at
second_counts = refl

-- 510 bytes of 255, whose plain sums are the largest, have a = b = 0: with these they hold as block 65,535, which their index bytes name
pub largest_sums : check_bytes (replicate check_at 255) ≡ record { first = 0; second = 0 }
unfolding check_bytes sums_of
largest_sums = refl

pub largest_holds : first (block_tests (replicate check_at 255 ++ (0 ∷ 0 ∷ [])) 65535) sound ≡ given sound
unfolding first block_tests checks check_bytes sums_of index_of two_at
largest_holds = refl
