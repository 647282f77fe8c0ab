-- `both_length` meets its contract. Assumes nothing.
use mathlib.Core.Path.{◌≡◌, ap, ◌∙◌}
use Prim.Native.Nat.{ℕ}
use native.Mathlib.Omega.{arith}
use lib.ListN.{length}
use Rattle.base_text.specs.Text.{decimal}
use Rattle.base_text.proofs.DecimalLaws.{decimal_few}
use Rattle.text_export.proofs.measuring.both_length.Goals as goal

-- the digits of a number that was converted
own : {x y k : ℕ} → k ≡ length (decimal x) → x ≡ y → k ≡ length (decimal y)
own e same = e ∙ ap (λ (n : ℕ). length (decimal n)) same

pub overflow_add-result : goal.overflow_add-result
overflow_add-result c =
    omega (arith, own c.digits_in.ensures c.from.ensures, decimal_few c.args.p (omega (arith, c.ranges.p.fits)))

pub overflow_add-result-2 : goal.overflow_add-result-2
overflow_add-result-2 c =
    omega (
      arith,
      own c.digits_in.ensures c.from.ensures,
      own c.digits_in-2.ensures c.from-2.ensures,
      decimal_few c.args.p (omega (arith, c.ranges.p.fits)),
      decimal_few c.args.q (omega (arith, c.ranges.q.fits)),
    )
