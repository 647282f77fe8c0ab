-- `pair_method::settle` meets its contract: what is answered by what is found. Assumes nothing.
use Rattle.pair_method.proofs.AnswerLaws.{found_right}
use Rattle.pair_method.proofs.settle.Goals as goal

pub returns : goal.returns
returns c = found_right c.pair.ensures c.answer_by.ensures
