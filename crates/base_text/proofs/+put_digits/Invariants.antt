-- `put_digits` ends: what falls is the number. Assumes nothing.
use Rattle.base_text.proofs.+put_digits.Given as goal

abbrev pub decreases-put_digits : goal.decreases-put_digits
decreases-put_digits l = l.x
