-- `sets_of` meets its contract: so small a power fits. Assumes nothing.
use Prim.Native.Nat.{◌^◌, ◌≤◌}
use native.Mathlib.Omega.{arith}
use lib.Pow.{pow_mono}
use Rattle.span_layers.specs.Narrow.{most_over}
use Rattle.span_narrow.proofs.sweeping.sets_of.Goals as goal

pub returns : goal.returns
returns c =
    let few : 2 ^ c.args.n ≤ 2 ^ most_over = pow_mono {i = c.args.n} {j = most_over} c.requires in
    omega arith
