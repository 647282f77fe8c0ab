-- `completes` meets its contract: past the last place by `completes_all`, and before it by who is chosen of the cell (`cell_completes`).
-- Assumes nothing.
use native.Mathlib.Omega.{arith}
use borrow.Author.Tests.{eq-eqb}
use Rattle.span_narrow.proofs.StateLaws.{cell_completes, completes_all}
use Rattle.span_narrow.proofs.Layout.completes.Goals as goal

pub returns-then-s-self : goal.returns-then-s-self
returns-then-s-self c = rw (eq-eqb _ _ c.if-s-self.true) (completes_all _ _ _ c.if-s-self.true)

pub returns-else-s-self : goal.returns-else-s-self
returns-else-s-self c =
    rw c.is_some.ensures
    (cell_completes _ (c.requires.told (omega (arith, c.requires.inside, c.if-s-self.false))) c.choose_at.ensures)
