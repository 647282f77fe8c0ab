-- `line_length` meets its contract (`line_long`). Assumes nothing.
use mathlib.Core.Path.{ap, ◌∙◌}
use native.Mathlib.Omega.{arith}
use lib.ListN.{length}
use Rattle.text_probes.specs.declared.line.Marked.{Marked}
use Rattle.text_probes.specs.Line.{listed_text}
use Rattle.text_probes.proofs.LengthLaws.{listed_few}
use Rattle.text_export.specs.Exporting.{listed_for}
use Rattle.text_export.proofs.PutLaws.{line_long}
use Rattle.text_export.proofs.measuring.line_length.Goals as goal

pub overflow_add-result-2 : goal.overflow_add-result-2
overflow_add-result-2 c =
    omega (arith, c.listed_length.ensures ∙ ap (λ (y : Marked). length (listed_text y)) c.listed_for.ensures, listed_few (listed_for c.args.kind c.args.s) c.requires.1, c.requires.0)

pub returns : goal.returns
returns c =
    omega (arith, c.listed_length.ensures ∙ ap (λ (y : Marked). length (listed_text y)) c.listed_for.ensures, line_long c.args.kind c.args.l c.args.s)
