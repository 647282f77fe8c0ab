-- `put_too_long` meets its contract: the three parts of the line, one after the other (`put_then`). Assumes nothing.
use native.Mathlib.Omega.{arith}
use Rattle.base_text.proofs.DecimalLaws.{decimal_few}
use Rattle.base_text.proofs.PuttingLaws.{length_put, put_then}
use Rattle.program_streams.specs.Input.{most_list}
use Rattle.program_converting.specs.Converting.{too_long}
use Rattle.program_converting.proofs.to_card.put_too_long.Goals as goal

pub put_digits-bytes_at-requires : goal.put_digits-bytes_at-requires
put_digits-bytes_at-requires c =
    let began = c.put_text-most_at.ensures in
    omega (arith, decimal_few most_list (omega arith), began.ends, length_put began)

pub put_text-requires : goal.put_text-requires
put_text-requires c =
    let number = c.put_digits-bytes_at.ensures in
    let began = c.put_text-most_at.ensures in
    omega (arith, decimal_few most_list (omega arith), began.ends, number.ends, length_put began, length_put number)

pub returns : goal.returns
unfolding too_long
returns c = put_then c.put_text-most_at.ensures (put_then c.put_digits-bytes_at.ensures c.put_text.ensures)
