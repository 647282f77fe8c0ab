-- `count_lists` meets its contract: the tests of the lists, and then the count. Assumes nothing.
use Rattle.std.proofs.lemmas.Result.{err_from_is_err_and}
use Rattle.base_answers.proofs.Laws.{told_holds, told_refused}
use Rattle.card_lists.proofs.Laws.{lists_held}
use Rattle.build_count.proofs.CountingLaws.{refused_counts, kind_counts}
use Rattle.build_count.proofs.count_lists.Goals as goal

pub count_from-requires : goal.count_from-requires
count_from-requires c =
    lists_held (told_holds c.lists_hold.ensures c.in_ok-lists_hold.was)

pub returns : goal.returns
returns c =
    kind_counts (told_holds c.lists_hold.ensures c.in_ok-lists_hold.was) c.count_from.ensures

pub returns-in_err-lists_hold : goal.returns-in_err-lists_hold
returns-in_err-lists_hold c =
    let p = err_from_is_err_and c.from_residual.result c.from_residual.ensures.1 in
    rw (p.1, p.2) (refused_counts (told_refused c.lists_hold.ensures c.in_err-lists_hold.was))
