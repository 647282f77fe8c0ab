-- What inner functions answer. A reader of the public contracts needs none of it.
--   name_reach            == how many bytes are looked at for the end of a name
--   is_line bs            == the bytes bs are letters, one at least, and then a newline
--   is_body bs            == the bytes bs are letters in lines
--   body_tests bs         == the tests of a body bs
-- Assumes nothing.
use Rattle.std.specs.Prelude.{Bool, ◌&&◌, List, [], ◌∷◌, ℕ, ◌+◌, ◌-◌, length, get_or, take, eqb, ltb}
use Rattle.base_answers.specs.Numbers.{Line}
use Rattle.base_answers.specs.Answer.{Test, test}
use Rattle.base_letters.specs.Letters.{is_letter}
use Rattle.text_fasta.specs.Record.{newline, most_name, are_all, are_letters}
use Rattle.text_fasta.specs.Writing.{letter_test}
use Rattle.text_fasta.specs.Reading.{letters_in, are_lines}

abbrev pub name_reach : ℕ
name_reach = most_name + 1

abbrev pub is_line : List ℕ → Bool
is_line bs = let e = length bs - 1 in ltb 0 e && (eqb (get_or bs e 0) newline && are_all is_letter (take e bs))

unfoldable pub is_body : List ℕ → Bool
is_body bs = are_letters (letters_in bs) && are_lines bs

abbrev pub body_tests : List ℕ → List Test
body_tests bs = letter_test (letters_in bs) ∷ test (are_lines bs) Line 0 ∷ []
