-- `pair_following::PairCard::clear_beside` meets its contract. Assumes nothing.
use mathlib.Core.Path.{◌≡◌, refl}
use Prim.Native.Nat.{◌-◌}
use native.Mathlib.Omega.{arith}
use Rattle.pair_following.proofs.ExclusionLaws.{inside_of}
use Rattle.pair_following.proofs.StepLaws.{grown_still, grown_says}
use Rattle.pair_following.proofs.PlaceLaws.{grown_stuck, beyond}
use Rattle.pair_following.proofs.PairCard.clear_beside.Goals as goal

pub returns-then-after-placed : goal.returns-then-after-placed
returns-then-after-placed c =
    let pre = c.requires in
    grown_still pre.ready.shape
    (λ q h f fp d z. absurd (beyond pre.ready.holds q 0 f fp (omega (arith, h, c.if-after-placed.true, pre.ready.shape.puts)) z))

pub returns-then-can_be_filled : goal.returns-then-can_be_filled
returns-then-can_be_filled c =
    let after = c.args.after in
    grown_says c.in_ok-clear.ensures (λ r q h. let there : q ≡ after - 1 = omega arith in rw there r)

pub returns-else-can_be_filled : goal.returns-else-can_be_filled
returns-else-can_be_filled c =
    grown_stuck (inside_of c.requires.ready.holds) (omega (arith, c.if-after-placed.false, c.if-after-eq0.false, c.requires.ready.shape.puts))
    refl c.in_ok-clear.ensures
    (c.can_be_filled.ensures c.if-can_be_filled.false c.args.self.now.mask)
