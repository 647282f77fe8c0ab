-- `settle::report` meets its contract: the lines by the answer of `settle_card` are put (`settle_reported`). Assumes nothing.
use mathlib.Core.Path.{refl}
use Rattle.card_entries.specs.Bounds.{most_entries}
use Rattle.program_lines.proofs.ReportLaws.{settle_tellable, settle_reported}
use Rattle.program_lines.proofs.settle.report.Goals as goal

pub put_answer-requires-clause-tellable : goal.put_answer-requires-clause-tellable
put_answer-requires-clause-tellable c = settle_tellable most_entries _ _ c.settle_card-answer.ensures

pub returns : goal.returns
returns c = settle_reported most_entries _ _ c.settle_card-answer.ensures refl c.put_answer.ensures
