-- `put_answer` meets its contract: the line of a refusal is put at the start of the buffer (`put_printed`). Assumes nothing.
use mathlib.Core.Path.{refl}
use Rattle.base_text.proofs.PrintedLaws.{put_printed}
use Rattle.program_converting.proofs.put_answer.Goals as goal

pub returns-in-Err : goal.returns-in-Err
returns-in-Err c =
    rw c.in-Err.is (record { output = refl; errors = put_printed refl (rw (c.number.ensures, c.place.ensures) at c.put_refused.ensures) })
