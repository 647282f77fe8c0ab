-- `put_number` meets its contract. Assumes nothing.
use native.Mathlib.Omega.{arith}
use Rattle.base_text.proofs.DecimalLaws.{decimal_few}
use Rattle.base_text.proofs.PuttingLaws.{length_put, put_then}
use Rattle.base_text.proofs.put_number.Goals as goal

pub put_digits-requires : goal.put_digits-requires
put_digits-requires c =
    let space = c.put_text-next.ensures in
    omega (arith, decimal_few c.args.x c.ranges.x.fits, c.requires, space.ends, length_put space)

pub returns : goal.returns
returns c = put_then c.put_text-next.ensures c.put_digits.ensures
