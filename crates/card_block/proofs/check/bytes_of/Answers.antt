-- `card_block::check::bytes_of` meets its contract: the remainders of the plain sums are those of the sums step by step (`check_reduced`).
-- Assumes nothing.
use Rattle.card_block.proofs.PlainLaws.{check_reduced}
use Rattle.card_block.proofs.check.bytes_of.Goals as goal

pub returns : goal.returns
returns c = check_reduced _ _ c.sum_up-s.ensures
