-- `pair_method::pair` meets its contract: its list has room for as many entries as a card may have. Assumes nothing.
use lib.Seq.{length-take-le, take_at}
use Rattle.card_entries.proofs.HoldLaws.{few_entries}
use Rattle.pair_method.proofs.CardLaws.{six_fit}
use Rattle.pair_method.proofs.pair.Goals as goal

pub from_lists-requires : goal.from_lists-requires
from_lists-requires c =
    let pre = c.requires in
    let few = few_entries pre.pair_lists in
    record { pair_lists = pre.pair_lists; lengths = (few, length-take-le _ _ (six_fit few), length-take-le _ _ pre.words_in_bounds) }

pub returns : goal.returns
returns c =
    rw (take_at c.from_lists.new.first _ _ c.from_lists.ensures.0) c.from_lists.ensures.1
