-- `is_letter` meets its contract: the byte is compared with each letter of the table. Assumes nothing.
use Rattle.base_letters.proofs.Laws.{letter_compared}
use Rattle.base_letters.proofs.is_letter.Goals as goal

pub returns : goal.returns
returns c = letter_compared _
