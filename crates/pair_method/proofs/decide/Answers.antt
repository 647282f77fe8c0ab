-- `pair_method::decide` meets its contract: the calls in a row (proofs/Built.antt). Assumes nothing.
use mathlib.Core.Path.{refl}
use Rattle.pair_following.proofs.ExclusionLaws.{inside_of}
use Rattle.pair_method.proofs.Built.{builds_found}
use Rattle.pair_method.proofs.decide.Goals as goal

pub returns : goal.returns
returns c = builds_found (inside_of c.requires.ready.holds) c.in_ok-choices.ensures refl c.in_ok-settle_all.ensures.gives refl
