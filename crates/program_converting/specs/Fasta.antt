-- What the program `card2fasta` writes for a card and a name (02, §1): "Write a build as one FASTA record". Only a sole build has a record
-- (DECISIONS, D73): of a card with more builds than one, with none, or that is not settled, nothing is written on standard output, and the
-- verdict's line on standard error. `limit` is the most entries that a card may have.
--   record_room limit         == the most bytes of a record: the longest name, and the letters of the longest sequence in lines
--   NotSole o                == the outcome o is another than a sole build
--   fasta_by limit name a     == what is written, where a is what is said of the card
--   ToFasta limit card name out err r out' err'
--                            == what is written for the card stands in two buffers that were `out` and `err`, as `Converted` says
-- Assumes nothing.
use Rattle.std.specs.Prelude.{◌≡◌, List, map, ℕ, ◌+◌}
use Rattle.base_answers.specs.Answer.{Answer, given, refused}
use Rattle.base_letters.specs.Letters.{letter_of}
use Rattle.build_sequence.specs.Verdict.{sole, several, no_build, Outcome, settled, unsettled}
use Rattle.base_text.specs.Text.{refusal_line}
use Rattle.text_fasta.specs.Record.{most_name, lines_for, record_of}
use Rattle.text_fasta.specs.Writing.{writing}
use Rattle.build_card.specs.Building.{Says}
use Rattle.program_lines.specs.Lines.{program_budget, letters_room, verdict_line}
use Rattle.program_converting.specs.declared.Lengths.{Lengths}
use Rattle.program_converting.specs.Converting.{Streams, on_errors, by_answer, Converted}

-- "`>`, a name […], a newline, then lines of 60 letters […], each ended by a newline"
abbrev pub record_room : ℕ → ℕ
record_room limit = most_name + 2 + (letters_room limit + lines_for (letters_room limit))

abbrev pub NotSole : Outcome → Type 0
NotSole o = (s : List ℕ) (n : ℕ) → o ≡ settled (sole s) n → ⊥

-- where the card is sole the record, or by which refusal there is none; the card is tested before the name
unfoldable pub fasta_by : ℕ → List ℕ → Answer Outcome → Streams
fasta_by limit name (given (settled (sole s) n)) = by_answer (record_of name (map letter_of s)) (writing name (map letter_of s) (record_room limit))
fasta_by limit name (given (settled (several s) n)) = on_errors (verdict_line (settled (several s) n))
fasta_by limit name (given (settled no_build n)) = on_errors (verdict_line (settled no_build n))
fasta_by limit name (given (unsettled n)) = on_errors (verdict_line (unsettled n))
fasta_by limit name (refused n p) = on_errors (refusal_line n p)

-- built from as the program `build` does
pub record ToFasta (limit : ℕ) (card name out err : List ℕ) (r : Lengths) (out' err' : List ℕ) : Type 0 where
  pub said : Answer Outcome
  pub says : Says limit card program_budget (letters_room limit) said
  pub written : Converted (fasta_by limit name said) out err r out' err'
