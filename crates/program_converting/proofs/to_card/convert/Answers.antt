-- `to_card::convert` meets its contract: of a list that is too long it says so (`too_long_written`), and else what the answer asks for is
-- written (`card_answered`). Assumes nothing.
use borrow.Author.Rules.{rules}
use Rattle.card_entries.specs.Bounds.{most_entries}
use Rattle.program_converting.proofs.ConvertingLaws.{card_answered, too_long_written}
use Rattle.program_converting.proofs.to_card.convert.Goals as goal

pub returns-then-list-gt-MOST : goal.returns-then-list-gt-MOST
returns-then-list-gt-MOST c = too_long_written most_entries _ _ c.if-list-gt-MOST.true c.put_too_long.ensures

pub returns : goal.returns
returns c = card_answered (search rules) c.if-list-gt-MOST.false c.import.ensures c.put_answer.ensures
