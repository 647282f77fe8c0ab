-- `tail_of` meets its contract, by `mask_tail`. Assumes nothing.
use Prim.Native.Nat.{◌-◌}
use native.Mathlib.Omega.{arith}
use Rattle.build_sequence.proofs.LetterLaws.{pow_pos, mask_tail}
use Rattle.span_narrow.proofs.chances.tail_of.Goals as goal

pub overflow_sub-result : goal.overflow_sub-result
overflow_sub-result c =
    omega (arith, c.words_of.ensures, pow_pos (c.args.l - 1))

pub returns : goal.returns
returns c =
    mask_tail c.args.l _ c.args.w (omega (arith, c.words_of.ensures, pow_pos (c.args.l - 1)))
