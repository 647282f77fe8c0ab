-- `put_answer` meets its contract: the line of a refusal is put (`refused_lines`), or line 1 and line 2 after it (`given_lines`). Assumes
-- nothing.
use mathlib.Core.Path.{ap}
use Rattle.base_answers.specs.Answer.{says}
use Rattle.base_text.proofs.PuttingLaws.{put_then}
use Rattle.program_lines.proofs.ReportLaws.{refused_lines, given_lines}
use Rattle.program_lines.proofs.put_answer.Goals as goal

pub put_card-at-requires-clause-there : goal.put_card-at-requires-clause-there
put_card-at-requires-clause-there c = c.requires.tellable.there _ (ap says c.in-Ok.is)

pub put-requires-clause-letters_there : goal.put-requires-clause-letters_there
put-requires-clause-letters_there c = c.requires.tellable.letters_there _ (ap says c.in-Ok.is)

pub returns-in-Err : goal.returns-in-Err
returns-in-Err c = refused_lines _ _ c.in-Err.is (rw (c.number.ensures, c.place.ensures) at c.put_refused.ensures)

pub returns-in-Ok : goal.returns-in-Ok
returns-in-Ok c = given_lines _ _ c.in-Ok.is (put_then c.put_card-at.ensures.put c.put.ensures)
