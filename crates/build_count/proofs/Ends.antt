-- `count_card` and `count_lists` ask nothing, and each call of them ends, with an answer that meets its contract. `Pre` is what a contract asks, as
-- it is read from the source. Assumes nothing.
use contract.Lifetimes.{Lfts}
use borrow.Fn.Kinds.{Dens}
use Rattle.build_count.proofs.count_card.Kinds as count_card_kinds
use Rattle.build_count.proofs.count_card.Reads as count_card_reads
use Rattle.build_count.proofs.count_card.Statement as count_card_fn
use Rattle.build_count.proofs.count_card.Met as count_card_met
use Rattle.build_count.proofs.count_lists.Kinds as count_lists_kinds
use Rattle.build_count.proofs.count_lists.Reads as count_lists_reads
use Rattle.build_count.proofs.count_lists.Statement as count_lists_fn
use Rattle.build_count.proofs.count_lists.Met as count_lists_met

pub count_card_asks_nothing : (κs : Lfts 1) (a : Dens κs count_card_kinds.ps) → count_card_reads.Pre κs a
count_card_asks_nothing κs a = tt

pub count_card_ends : {M : Type 1} → count_card_fn.statement M
count_card_ends = count_card_met.met

pub count_lists_ask_nothing : (κs : Lfts 3) (a : Dens κs count_lists_kinds.ps) → count_lists_reads.Pre κs a
count_lists_ask_nothing κs a = tt

pub count_lists_end : {M : Type 1} → count_lists_fn.statement M
count_lists_end = count_lists_met.met
