-- `card_layout::slots_spare` meets its contract. Assumes nothing.
use mathlib.Core.Path.{ap, ◌∙◌}
use native.Mathlib.Omega.{arith}
use Rattle.card_layout.specs.Layout.{is_zeros, slots_spare}
use Rattle.card_layout.proofs.Laws.{part_between}
use Rattle.card_layout.proofs.slots_spare.Goals as goal

pub returns : goal.returns
unfolding slots_spare
returns c = c.is_zeros.ensures ∙ ap is_zeros (part_between c.args.part.now _ (omega arith))
