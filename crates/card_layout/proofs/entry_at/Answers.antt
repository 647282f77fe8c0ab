-- `card_layout::entry_at` meets its contract. Assumes nothing.
use Rattle.card_layout.proofs.Laws.{entry_is}
use mathlib.Core.Path.{◌∙◌}
use Rattle.card_layout.proofs.entry_at.Goals as goal

pub returns : goal.returns
returns c = c.entry_of.ensures ∙ entry_is _ _ c.requires.0 c.slot_of.ensures
