-- `put_digits` meets its contract, by the two equations of `decimal`. Assumes nothing.
use mathlib.Core.Path.{sym}
use native.Mathlib.Omega.{arith}
use Rattle.base_text.proofs.DecimalLaws.{decimal_one, decimal_more, length_one, length_more}
use Rattle.base_text.proofs.PuttingLaws.{length_put, put_then, put_as}
use Rattle.base_text.proofs.+put_digits.Goals as goal

pub put_digit-requires : goal.put_digit-requires
put_digit-requires t c = (c.if-x-lt10.true, omega (arith, c.requires, length_one c.args.x c.if-x-lt10.true))

pub returns-then-x-lt10 : goal.returns-then-x-lt10
returns-then-x-lt10 t c = put_as c.put_digit.ensures (sym (decimal_one _ c.if-x-lt10.true))

pub put_digits-last_at-requires : goal.put_digits-last_at-requires
put_digits-last_at-requires t c =
    (omega (arith, c.decreases, c.if-x-lt10.false), omega (arith, c.requires, length_more c.args.x c.if-x-lt10.false))

-- all digits but the last stand
pub put_digit-requires-2 : goal.put_digit-requires-2
put_digit-requires-2 t c =
    let most = c.put_digits-last_at.ensures in
    (omega arith, omega (arith, c.requires, length_more c.args.x c.if-x-lt10.false, most.ends, length_put most))

pub returns : goal.returns
returns t c = put_as (put_then c.put_digits-last_at.ensures c.put_digit-2.ensures) (sym (decimal_more _ c.if-x-lt10.false))
