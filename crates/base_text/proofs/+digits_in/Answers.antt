-- `digits_in` meets its contract, by the two equations of `decimal`. Assumes nothing.
use native.Mathlib.Omega.{arith}
use mathlib.Core.Path.{sym}
use Rattle.base_text.proofs.DecimalLaws.{length_one, length_more, decimal_few}
use Rattle.base_text.proofs.+digits_in.Goals as goal

pub returns-then-x-lt10 : goal.returns-then-x-lt10
returns-then-x-lt10 t c = sym (length_one _ c.if-x-lt10.true)

pub overflow_add-result : goal.overflow_add-result
overflow_add-result t c =
    omega (arith, c.digits_in.ensures, length_more c.args.x c.if-x-lt10.false, decimal_few c.args.x c.ranges.x.fits)

pub returns : goal.returns
returns t c = omega (arith, c.digits_in.ensures, length_more c.args.x c.if-x-lt10.false)
