-- `put_two` meets its contract: a number, and the last one after it (`put_then`). Assumes nothing.
use native.Mathlib.Omega.{arith}
use Rattle.base_text.proofs.PuttingLaws.{length_put, put_then, number_ends, last_ends}
use Rattle.base_text.proofs.put_two.Goals as goal

pub put_last-requires : goal.put_last-requires
put_last-requires c =
    let put = c.put_number-next.ensures in
    omega (arith, number_ends c.ranges.x.fits put, length_put put, c.requires)

pub returns : goal.returns
returns c =
    let put = c.put_number-next.ensures in
    record {
      put = put_then put c.put_last.ensures;
      upper_bound = omega (arith, number_ends c.ranges.x.fits put, last_ends _ c.ranges.y.fits c.put_last.ensures);
    }
