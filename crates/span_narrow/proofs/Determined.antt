-- What settling lists promises determines its answer, and the words of the build where it gives one: two answers that both meet it are equal.
-- `Post` is the contract as it is read from the source. Assumes nothing.
use mathlib.Core.Path.{◌≡◌, refl}
use contract.Lifetimes.{Lfts}
use denote.Triple.Clauses.{AtExit}
use borrow.Fn.Kinds.{Dens, res_t, ended_of}
use lib.ListN.{length, take}
use Rattle.card_entries.specs.Slot.{entries_in}
use Rattle.card_entries.specs.Fault.{span}
use Rattle.build_sequence.proofs.BuildLaws.{entries_fit}
use Rattle.span_layers.proofs.Meant.{means_one}
use Rattle.build_method.specs.Method.{GivesBuild}
use Rattle.card_entries.proofs.HoldLaws.{hold_of_kind, hold_fits}
use Rattle.build_method.proofs.RightLaws.{right_one, words_one}
use Rattle.span_narrow.proofs.settle.Kinds as settle_kinds
use Rattle.span_narrow.proofs.settle.Reads as settle_reads

pub settle_one : (κs : Lfts 3) (a : Dens κs settle_kinds.ps) (r r' : (res_t settle_kinds.r κs).Denot)
    (e e' : AtExit (ended_of 3 settle_kinds.ps settle_kinds.r) κs)
    → settle_reads.Pre κs a
    → settle_reads.Post κs a r e
    → settle_reads.Post κs a r' e'
    → (r ≡ r')
    × (GivesBuild r → take (length a.1.0.now.words.now) e.1.1.0.now ≡ take (length a.1.0.now.words.now) e'.1.1.0.now)
settle_one κs a r r' e e' pre p q =
    let lists = a.1.0.now in
    let es = entries_in lists.words.now lists.ones.now lists.twos.now in
    (right_one (λ o o'. means_one) p q, words_one (λ o o'. means_one) p q (entries_fit a.0 span es (hold_fits (hold_of_kind pre.0.hold refl))))
