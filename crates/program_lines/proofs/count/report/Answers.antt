-- `count::report` meets its contract: in each case of the answer its line is put (`count_reported`). Assumes nothing.
use Rattle.program_lines.proofs.CountLaws.{count_reported}
use Rattle.program_lines.proofs.count.report.Goals as goal

pub returns-in-Ok-Some : goal.returns-in-Ok-Some
returns-in-Ok-Some c = count_reported (rw c.in-Ok-Some.field-0-is at c.in-Ok-Some.ensures) c.put_power.ensures

pub returns-in-Ok-None : goal.returns-in-Ok-None
returns-in-Ok-None c = count_reported (rw c.in-Ok-None.field-0-is at c.in-Ok-None.ensures) c.put_text.ensures

pub returns-in-Err : goal.returns-in-Err
returns-in-Err c = count_reported c.in-Err.ensures (rw (c.number.ensures, c.place.ensures) at c.put_refused.ensures)
