-- `verdict::put` meets its contract: a refusal has no line (`put_nothing`). Assumes nothing.
use native.Mathlib.Omega.{arith}
use Rattle.base_text.proofs.PuttingLaws.{put_nothing}
use Rattle.program_lines.proofs.verdict.put.Goals as goal

pub returns-in-Err : goal.returns-in-Err
returns-in-Err c = rw c.in-Err.is (put_nothing _ _ (omega (arith, c.requires.room)))
