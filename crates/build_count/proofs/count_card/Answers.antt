-- `count_card` meets its contract: the card is admitted into lists that have room for as many entries as a card may have. Assumes nothing.
use native.Mathlib.Omega.{arith}
use Rattle.std.proofs.lemmas.Result.{err_from_is_err_and}
use Rattle.build_card.proofs.CardLaws.{listed_few, listed_hold}
use Rattle.build_count.proofs.CardLaws.{listed_counts, card_refused}
use Rattle.build_count.proofs.count_card.Goals as goal

pub lists-requires : goal.lists-requires
lists-requires c = listed_few c.admit.ensures c.in_ok-f.was

pub count_from-requires : goal.count_from-requires
count_from-requires c =
    let lists = c.lists.ensures in
    rw (lists.words_are, lists.ones_are, lists.twos_are) (listed_hold c.admit.ensures c.in_ok-f.was)

pub returns : goal.returns
returns c =
    let lists = c.lists.ensures in
    listed_counts c.admit.ensures c.in_ok-f.was (rw (lists.words_are, lists.ones_are, lists.twos_are) at c.count_from.ensures)

pub returns-in_err-f : goal.returns-in_err-f
returns-in_err-f c =
    let p = err_from_is_err_and c.from_residual.result c.from_residual.ensures.1 in
    rw (p.1, p.2) (card_refused c.admit.ensures c.in_err-f.was (omega arith) (omega arith) (omega arith))
