-- `put_line` meets its contract: the letters, and then a newline. Assumes nothing.
use native.Mathlib.Omega.{arith}
use Rattle.text_fasta.specs.Record.{newline}
use Rattle.base_text.proofs.PuttingLaws.{length_put, put_then, put_byte}
use Rattle.text_fasta.proofs.writing.put_line.Goals as goal

pub returns : goal.returns
returns c =
    let put = c.put_text-end.ensures in
    put_then put (put_byte _ _ newline (omega (arith, length_put put, put.ends, c.requires)))
