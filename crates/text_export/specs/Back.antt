-- What comes back of a list that is imported and then exported (02, §2). No contract rests on it.
--   spelled_out kind x               == the line x of a list of this kind, as it comes back: on a span list a bare p is p-p
--   back_of text                     == what comes back of a list
-- Assumes nothing.
use Rattle.std.specs.Prelude.{cond, List, map, ℕ, eqb}
use Rattle.card_entries.specs.Fault.{span}
use Rattle.text_probes.specs.declared.line.Marked.{Marked}
use Rattle.text_probes.specs.declared.line.Marked.TheVariants.{Bare, Two, Run}
use Rattle.text_probes.specs.Line.{Line}
use Rattle.text_probes.specs.Lines.{lines_in}
use Rattle.text_import.specs.Importing.{kind_in}
use Rattle.text_export.specs.Exporting.{text_of}

-- "On a span list a bare `7` means 7-7."
abbrev pub hyphened : ℕ → Marked → Marked
hyphened kind (Bare p) = cond (eqb kind span) (Run p p) (Bare p)
hyphened kind (Two p q) = Two p q
hyphened kind (Run p q) = Run p q

abbrev pub spelled_out : ℕ → Line → Line
spelled_out kind x = record { word = x.word; listed = hyphened kind x.listed }

abbrev pub back_of : List ℕ → List ℕ
back_of text = text_of (map (spelled_out (kind_in text)) (lines_in text))
