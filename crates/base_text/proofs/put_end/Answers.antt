-- `put_end` meets its contract: a number, and the line's end after it (`put_then`). Assumes nothing.
use native.Mathlib.Omega.{arith}
use Rattle.base_text.proofs.DecimalLaws.{decimal_few}
use Rattle.base_text.proofs.PuttingLaws.{length_put, put_then, digits_end}
use Rattle.base_text.proofs.put_end.Goals as goal

pub put_digits-next-requires : goal.put_digits-next-requires
put_digits-next-requires c = omega (arith, decimal_few c.args.x c.ranges.x.fits, c.requires)

pub put_text-requires : goal.put_text-requires
put_text-requires c =
    let put = c.put_digits-next.ensures in
    omega (arith, digits_end c.ranges.x.fits put, length_put put, c.requires)

pub returns : goal.returns
returns c = put_then c.put_digits-next.ensures c.put_text.ensures
