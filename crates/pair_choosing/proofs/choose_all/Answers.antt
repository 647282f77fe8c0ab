-- The goals of `pair_choosing::choose_all` that the check leaves open; Invariants.antt says how it is met. Assumes nothing.
use mathlib.Core.Path.{refl}
use Rattle.pair_following.proofs.ExclusionLaws.{inside_of}
use Rattle.pair_choosing.proofs.Deciding.{deciding_more}
use Rattle.pair_choosing.proofs.choose_all.Goals as goal

pub loop-t-preserved : goal.loop-t-preserved
loop-t-preserved c =
    let pre = c.requires in
    deciding_more (inside_of pre.ready.holds) c.loop-t.invariant (rw pre.ready.shape.puts at c.loop-t-test.true) c.in_ok-g.ensures refl
