-- `read_named` meets its contract. Assumes nothing.
use mathlib.Core.Path.{sym}
use native.Mathlib.Omega.{arith}
use Rattle.text_fasta.proofs.HeadLaws.{headed_room, body_part}
use Rattle.text_fasta.proofs.AnswerLaws.{no_body}
use Rattle.text_fasta.proofs.reading.read_named.Goals as goal

pub overflow_add-at : goal.overflow_add-at
overflow_add-at c = omega (arith, headed_room c.args.bytes.now c.requires.0, c.requires.1)

pub slice_bounds-body-count : goal.slice_bounds-body-count
slice_bounds-body-count c = omega (arith, headed_room c.args.bytes.now c.requires.0, c.requires.1)

pub slice_bounds-body-start : goal.slice_bounds-body-start
slice_bounds-body-start c = omega (arith, headed_room c.args.bytes.now c.requires.0, c.requires.1)

pub returns : goal.returns
returns c =
    let r = c.args.bytes.now in
    no_body r _ _ c.requires.0 (rw (sym (body_part r c.requires.1)) c.fault_in.ensures)
