-- Laws of the line that `count_builds` prints: what is put by the answer is what is printed by what is said of the card. No contract cites
-- this file. Assumes nothing.
use mathlib.Core.Path.{refl}
use mathlib.Core.List.{List}
use Prim.Native.Nat.{ℕ}
use Rattle.std.specs.Prelude.{Option}
use Rattle.base_answers.specs.Answer.{Answer}
use Rattle.build_sequence.specs.Many.{Power}
use Rattle.build_count.specs.Counting.{number_of, Counts}
use Rattle.build_count.proofs.CountingLaws.{counts_as}
use Rattle.base_text.specs.Text.{Printed}
use Rattle.base_text.specs.Putting.{Put}
use Rattle.base_text.proofs.PrintedLaws.{put_printed}
use Rattle.program_lines.specs.CountLine.{line_by, count_line}

pub count_reported : {Says : Answer Power → Type 0} {n : ℕ} {out after : List ℕ} {a : Answer (Option ℕ)} → Counts number_of Says a
    → Put (line_by a) 0 out n after
    → Printed (Counts count_line Says) out n after
count_reported c put = put_printed (counts_as line_by c refl) put
