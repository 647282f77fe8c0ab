-- How much of standard input a program takes, where all of it is a card or a list. `limit` is the most entries that a card may have.
--   program_bytes limit       == the most bytes that it takes of a card
--   most_list, list_bytes      == the most bytes of a list that it answers, and that it takes
-- Assumes nothing.
use Rattle.std.specs.Prelude.{ℕ, ◌+◌}
use Rattle.card_layout.specs.Layout.{size_of}

-- "All of standard input is the card, so bytes after it give 9.": one byte more than the longest card has is enough to see that
-- (`FrontLaws` of `card_reader`)
abbrev pub program_bytes : ℕ → ℕ
program_bytes limit = size_of limit + 1

abbrev pub most_list : ℕ
most_list = 1048576

-- one byte more is enough to see that a list is longer (`LongInput` of `program_converting`)
abbrev pub list_bytes : ℕ
list_bytes = most_list + 1
