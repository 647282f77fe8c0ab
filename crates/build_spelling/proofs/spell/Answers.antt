-- The goals of `spell` that the check leaves open; Invariants.antt says how it is met. Assumes nothing.
use mathlib.Core.Path.{◌≡◌, ap, ◌∙◌}
use mathlib.Core.List.{List}
use Prim.Native.Nat.{ℕ, ◌+◌}
use native.Mathlib.Omega.{arith}
use lib.ListN.{length}
use Rattle.base_letters.specs.Letters.{letter_of}
use Rattle.build_sequence.specs.Build.{spell}
use Rattle.build_sequence.proofs.SpellingLaws.{spell_length}
use Rattle.base_lists.proofs.FillingLaws.{filling_none, filling_turn, filled_map}
use Rattle.build_spelling.specs.Spelling.{Spells}
use Rattle.build_spelling.proofs.spell.Goals as goal

-- the output has a byte for each letter
sized : {l n : ℕ} (words : List ℕ) → Spells l words → n + 1 ≡ length words + l → n ≡ length (spell l words)
sized {l} words s e = omega (arith, e, spell_length l words s.some_word)

pub loop-c-init : goal.loop-c-init
loop-c-init c = filling_none _ _ (sized _ c.requires.spells c.requires.out_len)

pub loop-c-preserved : goal.loop-c-preserved
loop-c-preserved c =
    filling_turn _ _ c.loop-c.invariant (omega (arith, c.loop-c.invariant.all))
    (c.letter_of.ensures ∙ ap letter_of c.code_at.ensures.0)

pub returns : goal.returns
returns c =
    filled_map letter_of (spell c.args.l c.args.words.now) c.loop-c.invariant
    (omega (arith, c.loop-c.invariant.all))
