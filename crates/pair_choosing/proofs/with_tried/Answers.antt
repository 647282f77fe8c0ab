-- `pair_choosing::with_tried` meets its contract. Assumes nothing.
use mathlib.Core.Path.{refl}
use mathlib.Core.Logic.{inl}
use Rattle.pair_choosing.proofs.Choosing.{tries_of}
use Rattle.pair_choosing.proofs.with_tried.Goals as goal

pub returns : goal.returns
returns c = tries_of c.can_stand_at.ensures (inl (c.if-can_stand_at.false, refl, refl))
