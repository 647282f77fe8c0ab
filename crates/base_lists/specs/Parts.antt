-- Parts of a list, and a part put into one.
--   part xs lo hi         == the elements of xs from lo up to hi
--   put_at xs at buffer    == the buffer with the elements xs from `at` on, and its others as they were
-- Assumes nothing.
use Rattle.std.specs.Prelude.{ℕ, ◌+◌, List, ◌++◌, length, take, drop}

abbrev pub part : List ℕ → ℕ → ℕ → List ℕ
part xs lo hi = drop lo (take hi xs)

unfoldable pub put_at : List ℕ → ℕ → List ℕ → List ℕ
put_at xs at buffer = take at buffer ++ xs ++ drop (at + length xs) buffer
