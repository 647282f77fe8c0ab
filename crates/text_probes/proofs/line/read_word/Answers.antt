-- The goals of `read_word` that the check leaves open; Invariants.antt says how it is met. Assumes nothing.
use mathlib.Core.Path.{sym, ◌∙◌}
use native.Mathlib.Omega.{arith}
use lib.ListN.{get_or}
use Rattle.text_probes.proofs.WordCursor.{in_below, none_of, one_of_letter, spelling_stop, spelling_turn}
use Rattle.text_probes.proofs.line.read_word.Goals as goal

pub returns-then-not-is_letter : goal.returns-then-not-is_letter
returns-then-not-is_letter c =
    spelling_stop _ _ c.loop-end.invariant c.loop-end-test.true (none_of _ (sym c.is_letter.ensures ∙ c.if-not-is_letter.true))

pub overflow_add-value : goal.overflow_add-value
overflow_add-value c = omega (arith, c.code_in.ensures, in_below (get_or c.args.text.now c.loop-end.end 0))

pub loop-end-preserved : goal.loop-end-preserved
loop-end-preserved c =
    rw c.code_in.ensures (spelling_turn _ _ c.loop-end.invariant c.loop-end-test.true
    (one_of_letter _ (sym c.is_letter.ensures ∙ c.if-not-is_letter.false)))
