-- `spell` meets its contract: one letter more stands in each turn (`filling_turn`). Assumes nothing.
use lib.ListN.{length, get_or}
use Rattle.base_letters.specs.Letters.{letter_of}
use Rattle.build_sequence.specs.Build.{spell}
use Rattle.base_lists.proofs.FillingLaws.{Filling}
use Rattle.build_spelling.proofs.spell.Given as goal

abbrev pub invariant-loop-c : goal.invariant-loop-c
invariant-loop-c l = Filling (λ k. letter_of (get_or (spell l.l l.words) k 0)) (length (spell l.l l.words)) l.c l.out
