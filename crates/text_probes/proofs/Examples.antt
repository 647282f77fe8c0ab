-- Worked examples of lines and of refusals. Assumes nothing.
use mathlib.Core.Path.{◌≡◌, refl}
use mathlib.Core.List.{[], ◌∷◌, map}
use mathlib.Core.Option.{none, some}
use Rattle.base_answers.specs.Answer.{given, refused, first}
use Rattle.base_lists.specs.Row.{in_turn}
use Rattle.base_letters.specs.Letters.{letters, searched, code_of}
use Rattle.base_text.specs.Text.{ascii}
use Rattle.text_probes.specs.declared.line.Marked.TheVariants.{Two}
use Rattle.text_probes.specs.Reading.{read_digits, read_number, read_marked, read_listed, read_codes, after, read_first, read_line}
use Rattle.text_probes.specs.Lines.{lines_of, is_line, line_of}
use Rattle.text_probes.specs.Testing.{known, said_tests, line_tests, text_tests, scanning}

-- after the 0 of `07` the 7 is left, so that no line has it
pub numbers : map read_number (ascii "0\n" ∷ ascii "7,3\n" ∷ ascii "65535\n" ∷ ascii "65536\n" ∷ ascii "07\n" ∷ ascii "" ∷ ascii "+7\n" ∷ [])
    ≡ (some (record { what = 0; rest = ascii "\n" })
    ∷ some (record { what = 7; rest = ascii ",3\n" })
    ∷ some (record { what = 65535; rest = ascii "\n" })
    ∷ none
    ∷ some (record { what = 0; rest = ascii "7\n" })
    ∷ none
    ∷ none
    ∷ [])
unfolding read_number read_digits
numbers = refl

pub a_line : read_line (ascii "GAT\t3,7\n") ≡ some (record { word = 2 ∷ 0 ∷ 3 ∷ []; listed = Two 3 7 })
unfolding read_line read_first after read_codes read_listed read_marked read_number read_digits code_of searched letters
a_line = refl

-- sound, empty, no newline at the end, two marks, a mark after a mark, uneven, place 0, a carriage return, a needless zero
pub scans : map scanning
    (ascii "GA\t1-2\nAT\t2\n"
    ∷ ascii ""
    ∷ ascii "GA\t1\nAT\t2"
    ∷ ascii "GA\t1,2-3\n"
    ∷ ascii "GA\t1,2\nAT\t3\nTT\t1-2\n"
    ∷ ascii "GA\t1\nATT\t2\n"
    ∷ ascii "GA\t1\nAT\t0,5\n"
    ∷ ascii "GA\t1\r\n"
    ∷ ascii "GA\t07\n"
    ∷ [])
    ≡ (given (record { mark = 2; l = 2; m = 2 })
    ∷ refused 23 1
    ∷ refused 23 2
    ∷ refused 23 1
    ∷ refused 24 3
    ∷ refused 25 2
    ∷ refused 26 2
    ∷ refused 23 1
    ∷ refused 23 1
    ∷ [])
unfolding first in_turn text_tests line_tests said_tests known is_line line_of lines_of read_line read_first after read_codes read_listed read_marked read_number read_digits code_of searched letters
scans = refl
