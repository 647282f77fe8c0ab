-- `verdict::put_told` meets its contract: in each case of the answer its line is put (`verdict_case`). Assumes nothing.
use mathlib.Core.Path.{sym}
use native.Mathlib.Omega.{arith}
use lib.ListN.{length-take}
use lib.Seq.{length-take-le}
use Rattle.program_lines.proofs.VerdictLaws.{verdict_case, length_case}
use Rattle.program_lines.proofs.verdict.put_told.Goals as goal

-- ---- the sequence is a part of the letters, and its line has room

pub slice_bounds-put_sequence-end-in-Sole : goal.slice_bounds-put_sequence-end-in-Sole
slice_bounds-put_sequence-end-in-Sole c = sym (length-take-le _ _ (length_case c.in-Sole.is c.requires.letters_there))

pub put_sequence-requires : goal.put_sequence-requires
put_sequence-requires c = simp length-take (omega (arith, c.requires.room))

pub slice_bounds-put_sequence-end-in-Several-2 : goal.slice_bounds-put_sequence-end-in-Several-2
slice_bounds-put_sequence-end-in-Several-2 c = sym (length-take-le _ _ (length_case c.in-Several.is c.requires.letters_there))

pub put_sequence-requires-in-Several : goal.put_sequence-requires-in-Several
put_sequence-requires-in-Several c = simp length-take (omega (arith, c.requires.room))

-- ---- each case

pub returns-in-Sole : goal.returns-in-Sole
returns-in-Sole c = verdict_case c.in-Sole.is _ c.put_sequence.ensures

pub returns-in-Several : goal.returns-in-Several
returns-in-Several c = verdict_case c.in-Several.is _ c.put_sequence-in-Several.ensures

pub returns-in-None : goal.returns-in-None
returns-in-None c = verdict_case c.in-None.is _ c.put_placements.ensures

pub returns-in-Unsettled : goal.returns-in-Unsettled
returns-in-Unsettled c = verdict_case c.in-Unsettled.is _ c.put_placements-in-Unsettled.ensures
