-- `is_picked` meets its contract, by its one test. Assumes nothing.
use borrow.Author.Tests.{eq-eqb, ne_eqb}
use Rattle.span_narrow.proofs.digits.is_picked.Goals as goal

pub returns-then-c-eq1 : goal.returns-then-c-eq1
returns-then-c-eq1 c =
    rw (eq-eqb _ _ c.if-c-eq1.true) c.agrees.ensures

pub returns-else-c-eq1 : goal.returns-else-c-eq1
returns-else-c-eq1 c =
    rw (ne_eqb _ _ c.if-c-eq1.false)
