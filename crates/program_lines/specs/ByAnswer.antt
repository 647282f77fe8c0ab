-- The lines by an answer and the letters that it left: what an inner function puts. A reader of the reports' contracts needs none of it.
--   verdict_by a letters     == line 2, by an answer a and a buffer with the letters at its start
--   verdict_told r letters   == the same by an answer or a refusal r, which has none
--   lines_by f r letters     == the lines, by an answer or a refusal r, and the same
--   length_in a              == the length of the sequence that a tells
--   letters_told r           == that of the answer or refusal r
--   Tellable card r letters == a card that is not refused is there, and so are the letters that r tells
-- Assumes nothing.
use Rattle.std.specs.Prelude.{◌≡◌, List, [], ◌∷◌, ◌++◌, ℕ, ◌≤◌, length, take}
use Rattle.base_answers.specs.Answer.{Answer, given, refused}
use Rattle.card_block.specs.Block.{block_bytes}
use Rattle.card_entries.specs.declared.Format.{Format}
use Rattle.build_card.specs.declared.BuildAnswer.{BuildAnswer}
use Rattle.build_card.specs.declared.BuildAnswer.TheVariants.{Sole, Several, None, Unsettled}
use Rattle.base_text.specs.Text.{ascii, decimal, line, refusal_line}
use Rattle.program_lines.specs.Lines.{card_line}

abbrev pub verdict_by : BuildAnswer → List ℕ → List ℕ
verdict_by (Sole n k) letters = line (ascii "sole") (take n letters ∷ decimal k ∷ [])
verdict_by (Several n k) letters = line (ascii "several") (take n letters ∷ decimal k ∷ [])
verdict_by (None k) letters = line (ascii "none") (decimal k ∷ [])
verdict_by (Unsettled k) letters = line (ascii "unsettled") (decimal k ∷ [])

abbrev pub verdict_told : Answer BuildAnswer → List ℕ → List ℕ
verdict_told (given a) letters = verdict_by a letters
verdict_told (refused n p) letters = []

abbrev pub lines_by : Format → Answer BuildAnswer → List ℕ → List ℕ
lines_by f (given a) letters = card_line f ++ verdict_by a letters
lines_by f (refused n p) letters = refusal_line n p

abbrev pub length_in : BuildAnswer → ℕ
length_in (Sole n k) = n
length_in (Several n k) = n
length_in (None k) = 0
length_in (Unsettled k) = 0

abbrev pub letters_told : Answer BuildAnswer → ℕ
letters_told (given a) = length_in a
letters_told (refused n p) = 0

pub record Tellable (card : List ℕ) (r : Answer BuildAnswer) (letters : List ℕ) : Type 0 where
  pub there : (a : BuildAnswer) → r ≡ given a → block_bytes ≤ length card
  pub letters_there : (a : BuildAnswer) → r ≡ given a → length_in a ≤ length letters
