-- Which line of a text is at fault, and what is wrong with it, in the document's words (02, §2): "23 Text (also … an empty list at line 1), 24 Mixed
-- at the first line whose mark differs from an earlier one, 25 Uneven where a word's length isn't l, 26 Zero for place 0; lowest line first, and in
-- that order within a line." That a text is refused so exactly by its tests is proofs/FaultWords.antt, `refused_at_line`.
--   HasMark text mark    == some line of the text has this mark
--   Differs text e       == the mark of the line e differs from that of an earlier one
--   Wrong text e n       == what is wrong with the line e, where n is the number of the refusal
--   NoFault text e       == nothing is
--   Empty text n p       == the text is empty, and n and p are 23 and line 1
--   FirstAtFault text n p    == p is the first line at fault, from 1, by n
-- Assumes nothing.
use Rattle.std.specs.Prelude.{◌≡◌, true, false, List, [], ℕ, ◌+◌, ◌<◌, length, get_or}
use Rattle.base_answers.specs.Numbers.{Text, Mixed, Uneven, Zero}
use Rattle.text_probes.specs.Lines.{lines_of, is_line, line_in}
use Rattle.text_probes.specs.Testing.{has_zero, line_mark, line_letters}

-- some line has this mark: 1 a comma, 2 a hyphen
pub record HasMark (text : List ℕ) (mark : ℕ) : Type 0 where
  pub line : ℕ
  pub within : line < length (lines_of text)
  pub marked : line_mark (line_in text line) ≡ mark

-- the mark of the line e differs from that of an earlier one
pub record Differs (text : List ℕ) (e : ℕ) : Type 0 where
  pub earlier : ℕ
  pub before : earlier < e
  pub its_mark : line_mark (line_in text earlier) ≡ 0 → ⊥
  pub own_mark : line_mark (line_in text e) ≡ 0 → ⊥
  pub differs : line_mark (line_in text earlier) ≡ line_mark (line_in text e) → ⊥

-- the rule that the line e breaks, "in that order within a line"; "l comes from the first word"
pub data Wrong (text : List ℕ) (e : ℕ) : ℕ → Type 0 where
  no_text : is_line (get_or (lines_of text) e []) ≡ false → Wrong text e Text
  other_mark : is_line (get_or (lines_of text) e []) ≡ true → Differs text e → Wrong text e Mixed
  other_length : is_line (get_or (lines_of text) e []) ≡ true → (Differs text e → ⊥)
      → (line_letters (line_in text e) ≡ line_letters (line_in text 0) → ⊥) → Wrong text e Uneven
  place_0 : is_line (get_or (lines_of text) e []) ≡ true → (Differs text e → ⊥)
      → line_letters (line_in text e) ≡ line_letters (line_in text 0) → has_zero (line_in text e).listed ≡ true → Wrong text e Zero

-- the line i breaks no rule
abbrev pub NoFault : List ℕ → ℕ → Type 0
NoFault text i = (n : ℕ) → Wrong text i n → ⊥

-- "an empty list at line 1"
pub record Empty (text : List ℕ) (n p : ℕ) : Type 0 where
  pub nothing : length text ≡ 0
  pub number : n ≡ Text
  pub line : p ≡ 1

-- the first line at fault: `line` counts from 0, and p from 1
pub record FirstAtFault (text : List ℕ) (n p : ℕ) : Type 0 where
  pub line : ℕ
  pub within : line < length (lines_of text)
  pub from_one : p ≡ line + 1
  pub before : (i : ℕ) → i < line → NoFault text i
  pub wrong : Wrong text line n
