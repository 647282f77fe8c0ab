-- `pair_method::second` meets its contract. Assumes nothing.
use mathlib.Core.Path.{◌∙◌}
use Rattle.pair_method.proofs.PlacesLaws.{second_none, second_two}
use Rattle.pair_method.proofs.second.Goals as goal

pub returns-then-two-eq-NO_PLACE : goal.returns-then-two-eq-NO_PLACE
returns-then-two-eq-NO_PLACE c = c.from.ensures ∙ second_none c.if-two-eq-NO_PLACE.true

pub returns : goal.returns
returns c = c.from-2.ensures ∙ second_two _ c.if-two-eq-NO_PLACE.false
