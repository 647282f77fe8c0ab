-- Records written and read, by computation. Assumes nothing.
use mathlib.Core.Path.{◌≡◌, refl}
use mathlib.Core.List.{List, [], ◌++◌}
use Prim.Native.Nat.{ℕ}
use lib.ListN.{replicate}
use Rattle.base_answers.specs.Answer.{Answer, given, refused, first}
use Rattle.base_lists.specs.Row.{in_turn}
use Rattle.base_letters.specs.Letters.{code_of, searched, letters}
use Rattle.base_text.specs.Text.{ascii}
use Rattle.text_fasta.specs.Record.{leading, is_name, are_letters, in_lines, record_of}
use Rattle.text_fasta.specs.Writing.{writing}
use Rattle.text_fasta.specs.Reading.{name_length, is_headed, letters_in, same, are_lines, reading}

-- so many times A
abbrev only_a : ℕ → List ℕ
only_a n = replicate n 65

-- with all that it rests on open to computation
unfoldable read : List ℕ → ℕ → ℕ → Answer (ℕ × ℕ)
unfolding reading first is_headed name_length letters_in leading is_name are_letters code_of searched letters are_lines same in_lines in_turn
read r names letters = reading r names letters

unfoldable write : List ℕ → List ℕ → ℕ → Answer ℕ
unfolding writing first record_of leading is_name are_letters code_of searched letters in_lines in_turn
write name ls room = writing name ls room

-- ---- a record

pub gattaca : record_of (ascii "s1") (ascii "GATTACA") ≡ ascii ">s1\nGATTACA\n"
unfolding record_of in_lines in_turn
gattaca = refl

-- a line that is full is the last, or the next letter stands on another
pub sixty : record_of (ascii "n") (only_a 60) ≡ ascii ">n\n" ++ (only_a 60 ++ ascii "\n")
unfolding record_of in_lines in_turn
sixty = refl

pub sixty_one : record_of (ascii "n") (only_a 61) ≡ ascii ">n\n" ++ (only_a 60 ++ ascii "\nA\n")
unfolding record_of in_lines in_turn
sixty_one = refl

-- ---- writing

pub written : writing (ascii "s1") (ascii "GATTACA") 12 ≡ given 12
unfolding write
written = refl

pub written_no_room : writing (ascii "s1") (ascii "GATTACA") 11 ≡ refused 12 0
unfolding write
written_no_room = refl

pub name_before_letter : writing (ascii "s 1") (ascii "GATTACa") 0 ≡ refused 20 0
unfolding write
name_before_letter = refl

pub letter_before_room : writing (ascii "s1") (ascii "GATTACa") 0 ≡ refused 21 6
unfolding write
letter_before_room = refl

pub no_letter_written : writing (ascii "s1") [] 99 ≡ refused 21 0
unfolding write
no_letter_written = refl

-- ---- reading

pub read_back : reading (ascii ">s1\nGATTACA\n") 2 7 ≡ given (2, 7)
unfolding read
read_back = refl

pub read_no_room : reading (ascii ">s1\nGATTACA\n") 2 6 ≡ refused 12 0
unfolding read
read_no_room = refl

-- 21 is asked of the whole body before 22: a wrong break stands before the byte that is no letter
pub letter_before_line : reading (ascii ">n\nA\nCx\n") 40 9 ≡ refused 21 2
unfolding read
letter_before_line = refl

pub no_letter_read : reading (ascii ">n\n\n\n") 40 9 ≡ refused 21 0
unfolding read
no_letter_read = refl

-- an empty line after a full one: there is a newline where each line of 60 ends, and at the end, and yet one too many
pub empty_after_full : reading (ascii ">n\n" ++ (only_a 60 ++ ascii "\n\n")) 40 99 ≡ refused 22 0
unfolding read
empty_after_full = refl

pub no_last_break : reading (ascii ">n\nACGT") 40 99 ≡ refused 22 0
unfolding read
no_last_break = refl

pub carriage_return : reading (ascii ">n\r\nACGT\r\n") 40 99 ≡ refused 20 0
unfolding read
carriage_return = refl

pub no_mark : reading (ascii "n\nACGT\n") 40 99 ≡ refused 20 0
unfolding read
no_mark = refl

pub nothing_read : reading [] 40 99 ≡ refused 20 0
unfolding read
nothing_read = refl
