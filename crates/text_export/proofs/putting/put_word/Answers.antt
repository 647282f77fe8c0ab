-- The goals of `put_word` that the check leaves open; Invariants.antt says how it is met. Assumes nothing.
use Rattle.text_export.proofs.PutLaws.{letters_none, letters_turn}
use Rattle.text_export.proofs.putting.put_word.Goals as goal

pub loop-i-init : goal.loop-i-init
loop-i-init c = letters_none _ _ _ _ c.requires.2

pub loop-i-preserved : goal.loop-i-preserved
loop-i-preserved c = rw c.letter_of.ensures (letters_turn _ _ _ _ c.loop-i.invariant c.loop-i-test.true)
