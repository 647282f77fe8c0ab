-- Worked examples of probe lists (02, §2): "word, tab, then `7`, `3,7` or `3-7`, one entry a line, places counted from 1". Assumes nothing.
use mathlib.Core.Path.{◌≡◌, refl}
use mathlib.Core.List.{List, [], ◌∷◌, map}
use Prim.Native.Nat.{ℕ}
use Rattle.base_answers.specs.Answer.{refused, first}
use Rattle.base_lists.specs.Row.{in_turn}
use Rattle.base_letters.specs.Letters.{letters, letter_of, searched, code_of}
use Rattle.base_text.specs.Text.{ascii, digits_in, decimal}
use Rattle.card_entries.specs.Fault.{pair, span, no_place}
use Rattle.card_entries.specs.Bounds.{most_entries}
use Rattle.text_probes.specs.Line.{line_text}
use Rattle.text_probes.specs.Reading.{read_digits, read_number, read_marked, read_listed, read_codes, after, read_first, read_line}
use Rattle.text_probes.specs.Lines.{lines_of, is_line, line_of, lines_in}
use Rattle.text_probes.specs.Testing.{known, said_tests, line_tests, text_tests}
use Rattle.text_import.specs.Importing.{kind_in, letters_in, words_in, ones_in, twos_in, importing}
use Rattle.text_export.specs.Exporting.{listed_for, line_for, text_of}
use Rattle.text_export.specs.Back.{spelled_out}

-- ---- lists that are imported: the kind, l, the words and the two places of each entry, stated by hand

-- GAT is 2·16 + 0·4 + 3, and each place is one less than it is listed
abbrev pub pairs : List ℕ
pairs = ascii "GAT\t3,7\nACA\t7\n"

pub pair_list : (kind_in pairs ≡ pair) × (letters_in pairs ≡ 3)
    × (words_in pairs ≡ 35 ∷ 4 ∷ []) × (ones_in pairs ≡ 2 ∷ 6 ∷ []) × (twos_in pairs ≡ 6 ∷ no_place ∷ [])
unfolding known lines_of line_of read_line read_first after read_codes read_listed read_marked read_number read_digits code_of searched letters
pair_list = (refl, refl, refl, refl, refl)

-- "On a span list a bare `7` means 7-7."
abbrev pub spans : List ℕ
spans = ascii "ACA\t7\nGAT\t3-7\n"

pub span_list : (kind_in spans ≡ span) × (letters_in spans ≡ 3)
    × (words_in spans ≡ 4 ∷ 35 ∷ []) × (ones_in spans ≡ 6 ∷ 2 ∷ []) × (twos_in spans ≡ 6 ∷ 6 ∷ [])
unfolding known lines_of line_of read_line read_first after read_codes read_listed read_marked read_number read_digits code_of searched letters
span_list = (refl, refl, refl, refl, refl)

-- "with neither a pair card"
pub bare_list : kind_in (ascii "ACA\t7\nGAT\t3\n") ≡ pair
unfolding known lines_of line_of read_line read_first after read_codes read_listed read_marked read_number read_digits code_of searched letters
bare_list = refl

-- ---- lists that are refused at line 2, by 23, 24, 25 and 26

pub refusals : map (λ t. importing most_entries t 1024)
    (ascii "GA\t1-2\nAT\t02\n" ∷ ascii "GA\t1-2\nAT\t1,2\n" ∷ ascii "GA\t1\nGAT\t2\n" ∷ ascii "GA\t1-2\nAT\t0-2\n" ∷ [])
    ≡ refused 23 2 ∷ refused 24 2 ∷ refused 25 2 ∷ refused 26 2 ∷ []
unfolding importing first in_turn text_tests line_tests said_tests known is_line line_of lines_of read_line read_first after read_codes read_listed read_marked read_number read_digits code_of searched letters
refusals = refl

-- ---- entries that are exported

pub one_place : line_text (line_for pair 3 (record { word = 35; one = 6; two = no_place })) ≡ ascii "GAT\t7\n"
unfolding line_text listed_for letter_of letters decimal digits_in
one_place = refl

pub two_places : line_text (line_for pair 3 (record { word = 35; one = 2; two = 6 })) ≡ ascii "GAT\t3,7\n"
unfolding line_text listed_for letter_of letters decimal digits_in
two_places = refl

pub a_span : line_text (line_for span 3 (record { word = 35; one = 2; two = 6 })) ≡ ascii "GAT\t3-7\n"
unfolding line_text listed_for letter_of letters decimal digits_in
a_span = refl

-- "with a hyphen in every span (`7-7` if one wide)"
pub one_wide : line_text (line_for span 3 (record { word = 35; one = 6; two = 6 })) ≡ ascii "GAT\t7-7\n"
unfolding line_text listed_for letter_of letters decimal digits_in
one_wide = refl

-- so a bare number on a span list comes back with its hyphen
pub comes_back : text_of (map (spelled_out span) (lines_in spans)) ≡ ascii "ACA\t7-7\nGAT\t3-7\n"
unfolding line_text letter_of decimal digits_in lines_of line_of read_line read_first after read_codes read_listed read_marked read_number read_digits code_of searched letters
comes_back = refl
