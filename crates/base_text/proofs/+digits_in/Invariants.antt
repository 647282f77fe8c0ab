-- `digits_in` ends: what falls is the number. Assumes nothing.
use Rattle.base_text.proofs.+digits_in.Given as goal

abbrev pub decreases-digits_in : goal.decreases-digits_in
decreases-digits_in l = l.x
