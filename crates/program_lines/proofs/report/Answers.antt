-- `report` meets its contract: the lines by the answer of `build` are put (`build_reported`). Assumes nothing.
use mathlib.Core.Path.{refl}
use Rattle.program_lines.proofs.ReportLaws.{build_tellable, build_reported}
use Rattle.program_lines.proofs.report.Goals as goal

pub put_answer-requires-clause-tellable : goal.put_answer-requires-clause-tellable
put_answer-requires-clause-tellable c = build_tellable c.build-answer.ensures

pub returns : goal.returns
returns c = build_reported c.build-answer.ensures refl c.put_answer.ensures
