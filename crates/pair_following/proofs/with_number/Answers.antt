-- `pair_following::with_number` meets its contract: a law for each of its four outcomes. Assumes nothing.
use mathlib.Core.Path.{sym, ap, ◌∙◌}
use native.Mathlib.Omega.{arith}
use Rattle.pair_following.specs.Common.{many_in}
use Rattle.pair_following.proofs.CommonLaws.{some_found}
use Rattle.pair_following.proofs.Joining.{joined_first, joined_same, joined_less, joined_more}
use Rattle.pair_following.proofs.with_number.Goals as goal

pub returns-in-None : goal.returns-in-None
returns-in-None c = joined_first (ap (λ r. many_in r) c.in-None.is)

pub returns-then-x-least : goal.returns-then-x-least
returns-then-x-least c =
    let some = some_found c.in-One.is in
    rw c.in-One.s-is (joined_same some.1 (c.if-x-least.true ∙ sym some.0))

pub returns-then-x-least-2 : goal.returns-then-x-least-2
returns-then-x-least-2 c =
    let some = some_found c.in-One.is in
    joined_less some.1 (rw some.0 c.if-x-least-2.true)

pub returns-else-x-least-2 : goal.returns-else-x-least-2
returns-else-x-least-2 c =
    let some = some_found c.in-One.is in
    rw (sym some.0) (joined_more some.1 (λ x. c.if-x-least.false (x ∙ some.0)) (rw some.0 (omega (arith, c.if-x-least-2.false))))
