-- `count_from` meets its contract: 5 on a span card, else what the method finds. Assumes nothing.
use native.Mathlib.Omega.{arith}
use Rattle.pair_method.specs.PairMethod.{power_by}
use Rattle.card_entries.proofs.HoldLaws.{hold_kind, lists_of_kind, few_entries}
use Rattle.build_count.specs.ByKind.{on_pairs}
use Rattle.build_count.proofs.CountingLaws.{given_power}
use Rattle.build_count.proofs.count_from.Goals as goal

pub pair-requires : goal.pair-requires
pair-requires c =
    let hold = lists_of_kind c.requires (hold_kind c.requires.hold (λ e. omega arith)) in record
    { pair_lists = hold; words_in_bounds = few_entries hold }

pub returns : goal.returns
returns c =
    on_pairs (power_by c.pair.result) (hold_kind c.requires.hold (λ e. omega arith)) c.pair.ensures.many (given_power c.pair.result)
