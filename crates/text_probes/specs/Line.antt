-- A line of a probe list (02, §2): "word, tab, then `7`, `3,7` or `3-7`, one entry a line, places counted from 1"; "Every line ends in a
-- newline."
--   Line                 == the codes of a word's letters, and what is listed of it
--   line_text x           == the text of the line x
--   fine x               == the word has a letter, each of its codes is one, and no number is above 65,535
--   lists x p            == the line lists the place p, counted from 1
-- Assumes nothing.
use Rattle.std.specs.Prelude.{ℕ, ◌+◌, Bool, true, ◌&&◌, ◌||◌, List, [], ◌∷◌, ◌++◌, map, length, leb, ltb, eqb}
use Rattle.card_entries.specs.Fault.{most_length}
use Rattle.base_letters.specs.Letters.{codes, letter_of}
use Rattle.base_text.specs.Text.{ascii, decimal}
use Rattle.text_probes.specs.declared.line.Marked.{Marked}
use Rattle.text_probes.specs.declared.line.Marked.TheVariants.{Bare, Two, Run}

pub record Line : Type 0 where
  pub word : List ℕ
  pub listed : Marked

-- "without leading zeros"
abbrev pub listed_text : Marked → List ℕ
listed_text (Bare p) = decimal p
listed_text (Two p q) = decimal p ++ (ascii "," ++ decimal q)
listed_text (Run p q) = decimal p ++ (ascii "-" ++ decimal q)

unfoldable pub line_text : Line → List ℕ
line_text x = map letter_of x.word ++ (ascii "\t" ++ (listed_text x.listed ++ ascii "\n"))

-- not "a number above 65,535"
abbrev pub most_number : ℕ
most_number = 65535

-- no line of at most 12 letters has more bytes: a tab, two numbers of at most five digits with a mark between them, and a newline
abbrev pub most_line : ℕ
most_line = most_length + 13

abbrev pub is_small : Marked → Bool
is_small (Bare p) = leb p most_number
is_small (Two p q) = leb p most_number && leb q most_number
is_small (Run p q) = leb p most_number && leb q most_number

abbrev pub are_codes : List ℕ → Bool
are_codes [] = true
are_codes (c ∷ cs) = ltb c codes && are_codes cs

-- not "an empty word"
unfoldable pub fine : Line → Bool
fine x = ltb 0 (length x.word) && (are_codes x.word && is_small x.listed)

abbrev pub lists : Marked → ℕ → Bool
lists (Bare p) x = eqb x p
lists (Two p q) x = eqb x p || eqb x q
lists (Run p q) x = leb p x && leb x q
