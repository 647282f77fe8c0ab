-- `card_layout::head_spare` meets its contract. Assumes nothing.
use mathlib.Core.Path.{ap, ◌∙◌}
use native.Mathlib.Omega.{arith}
use borrow.Author.Tests.{ne_eqb}
use Rattle.card_layout.specs.Layout.{is_zeros}
use Rattle.card_layout.proofs.Laws.{head_not_spare, head_spare_when, part_between}
use Rattle.card_layout.proofs.head_spare.Goals as goal

pub returns-then-head-eq0 : goal.returns-then-head-eq0
returns-then-head-eq0 c =
    c.is_zeros.ensures ∙ ap is_zeros (part_between c.args.head.now 6 (omega arith)) ∙ head_spare_when _ c.if-head-eq0.true

pub returns-else-head-eq0 : goal.returns-else-head-eq0
returns-else-head-eq0 c = ne_eqb _ _ c.if-head-eq0.false ∙ head_not_spare _ c.if-head-eq0.false
