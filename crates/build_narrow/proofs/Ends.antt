-- `settle_card` and `settle_lists` ask nothing, and each call of them ends, with an answer and an output that meet its contract. `Pre` is what a
-- contract asks, as it is read from the source. Assumes nothing.
use contract.Lifetimes.{Lfts}
use borrow.Fn.Kinds.{Dens}
use Rattle.build_narrow.proofs.settle_card.Kinds as settle_card_kinds
use Rattle.build_narrow.proofs.settle_card.Reads as settle_card_reads
use Rattle.build_narrow.proofs.settle_card.Statement as settle_card_fn
use Rattle.build_narrow.proofs.settle_card.Met as settle_card_met
use Rattle.build_narrow.proofs.settle_lists.Kinds as settle_lists_kinds
use Rattle.build_narrow.proofs.settle_lists.Reads as settle_lists_reads
use Rattle.build_narrow.proofs.settle_lists.Statement as settle_lists_fn
use Rattle.build_narrow.proofs.settle_lists.Met as settle_lists_met

pub settle_card_asks_nothing : (κs : Lfts 2) (a : Dens κs settle_card_kinds.ps) → settle_card_reads.Pre κs a
settle_card_asks_nothing κs a = tt

pub settle_card_ends : {M : Type 1} → settle_card_fn.statement M
settle_card_ends = settle_card_met.met

pub settle_lists_ask_nothing : (κs : Lfts 4) (a : Dens κs settle_lists_kinds.ps) → settle_lists_reads.Pre κs a
settle_lists_ask_nothing κs a = tt

pub settle_lists_end : {M : Type 1} → settle_lists_fn.statement M
settle_lists_end = settle_lists_met.met
