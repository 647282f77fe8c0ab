-- `code_at` meets its contract: a letter of the first word by division, or the last of a later one. Assumes nothing.
use mathlib.Core.Path.{sym}
use Prim.Native.Nat.{◌-◌}
use native.Mathlib.Nat.{mod-lt}
use native.Mathlib.Omega.{arith}
use Rattle.build_sequence.proofs.LetterLaws.{pow_pos}
use Rattle.build_spelling.proofs.SpellingLaws.{spell_first, spell_later}
use Rattle.build_spelling.proofs.code_at.Goals as goal

pub nonzero_div-result : goal.nonzero_div-result
nonzero_div-result c =
    let at = c.args in
    omega (arith, c.words_of.ensures, pow_pos (at.l - 1 - at.c))

pub returns-then-c-l : goal.returns-then-c-l
returns-then-c-l c =
    let is = spell_first c.args.l c.args.words.now c.args.c c.requires.spells.some_word c.if-c-l.true in
    (rw c.words_of.ensures (sym is), mod-lt _ (omega arith))

pub returns-else-c-l : goal.returns-else-c-l
returns-else-c-l c =
    (sym (spell_later c.args.l c.args.words.now c.args.c c.if-c-l.false c.requires.c_in_bounds), mod-lt _ (omega arith))
