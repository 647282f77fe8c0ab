-- `pair_method::enter` meets its contract. Assumes nothing.
use mathlib.Core.Path.{refl}
use Rattle.pair_method.proofs.EnterLaws.{room_2, room_3}
use Rattle.pair_method.proofs.enter.Goals as goal

pub bounds-card-at-2 : goal.bounds-card-at-2
bounds-card-at-2 c = let a = c.args in room_2 a.card.now a.e 0 c.from.result 0 c.requires

pub bounds-card-at-3 : goal.bounds-card-at-3
bounds-card-at-3 c = let a = c.args in room_3 a.card.now a.e a.entry.word c.from.result 0 c.requires

pub returns : goal.returns
returns c = rw (c.from.ensures, c.second-other.ensures) refl
