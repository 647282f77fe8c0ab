-- `put_record` meets its contract: part after part. Assumes nothing.
use native.Mathlib.Omega.{arith}
use mathlib.Core.List.{List, [], ◌∷◌}
use Prim.Native.Nat.{ℕ, ◌+◌, ◌≤◌}
use lib.ListN.{length, set, length-append}
use Rattle.base_text.specs.Putting.{Put}
use Rattle.base_text.proofs.PuttingLaws.{length_put, put_then, put_byte, put_as}
use Rattle.text_fasta.specs.Record.{newline, mark, in_lines, record_of}
use Rattle.text_fasta.proofs.LineLaws.{length_lines}
use Rattle.text_fasta.proofs.AnswerLaws.{length_record, record_parts}
use Rattle.text_fasta.proofs.writing.put_record.Goals as goal

-- how long the record is
long : (name letters out : List ℕ) → length (record_of name letters) ≤ length out → length name + 2 + length (in_lines letters) ≤ length out
long name letters out h = omega (arith, length_record name letters, length_lines letters, h)

-- the mark is put
marked : (name letters out : List ℕ) → length (record_of name letters) ≤ length out → Put (mark ∷ []) 0 out 1 (set out 0 mark)
marked name letters out h = put_byte out 0 mark (omega (arith, long name letters out h))

-- ---- the goals

pub bounds-out-0 : goal.bounds-out-0
bounds-out-0 c = omega (arith, long _ _ _ c.requires)

pub put_line-end-requires : goal.put_line-end-requires
put_line-end-requires c = omega (arith, length_put (marked _ _ _ c.requires), long _ _ _ c.requires)

pub put_lines-requires : goal.put_lines-requires
put_lines-requires c =
    let put = c.put_line-end.ensures in
    omega (arith, put.ends, length_put put, length_put (marked _ _ _ c.requires), length-append c.args.name.now (newline ∷ []), long _ _ _ c.requires)

pub returns : goal.returns
returns c =
    put_as (put_then (put_then (marked _ _ _ c.requires) c.put_line-end.ensures) c.put_lines.ensures) (record_parts _ _)
