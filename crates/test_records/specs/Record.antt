-- How many bytes the fields of a record have at the most, how much a record can lend and what that holds, the lengths that fields say, and the
-- number in a field of eight bytes. Assumes nothing.
use Rattle.std.specs.Prelude.{ℕ, ◌+◌, ◌*◌, ◌^◌, ◌&&◌, List, Option, Some, None, cond, leb}
use Rattle.card_block.specs.Bytes.{two_at, four_at}

abbrev pub field_bytes : ℕ
field_bytes = 24

abbrev pub slots : ℕ
slots = 600

-- the bytes that are lent for a card and for an output, and for a list that is a text
abbrev pub room : ℕ
room = 6400

abbrev pub text_room : ℕ
text_room = 16384

-- what a word, a place and a byte of what is lent are before the call
abbrev pub old_word : ℕ
old_word = 305419896

abbrev pub old_place : ℕ
old_place = 4660

abbrev pub old_byte : ℕ
old_byte = 165

-- how many bytes follow, and how many an output has, where there are at most so many
abbrev pub lengths_in : List ℕ → ℕ → ℕ → Option (ℕ × ℕ)
lengths_in fields most most_room =
    cond (leb (four_at fields 0) most && leb (two_at fields 4) most_room) (Some (four_at fields 0, two_at fields 4)) None

-- how many slots three lists have, where a record can have such lists
abbrev pub slots_in : List ℕ → ℕ → Option (ℕ × ℕ × ℕ)
slots_in fields at =
    let a = two_at fields at in
    let b = two_at fields (at + 2) in
    let c = two_at fields (at + 4) in
    cond (leb a slots && (leb b slots && leb c slots)) (Some (a, b, c)) None

-- little-endian, as the fields of two and of four bytes
abbrev pub eight_at : List ℕ → ℕ → ℕ
eight_at bytes at = four_at bytes at + 2 ^ 32 * four_at bytes (at + 4)
