-- `to_list::convert` meets its contract: what the answer asks for is written (`list_answered`). Assumes nothing.
use borrow.Author.Rules.{rules}
use Rattle.program_converting.proofs.ConvertingLaws.{list_answered}
use Rattle.program_converting.proofs.to_list.convert.Goals as goal

pub returns : goal.returns
returns c = list_answered (search rules) c.export.ensures c.put_answer.ensures
