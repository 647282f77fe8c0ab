-- What each call promises determines its answer and every byte of the output, and from a card and from its lists it is the same. `Post` is
-- the contract as it is read from the source. Assumes nothing.
use mathlib.Core.Path.{◌≡◌, refl}
use Rattle.std.specs.Prelude.{Result, Ok}
use mathlib.Core.List.{List}
use Prim.Native.Nat.{ℕ}
use lib.ListN.{length, take}
use contract.Lifetimes.{Lfts}
use denote.Triple.Clauses.{AtExit}
use borrow.Fn.Kinds.{Dens, res_t, ended_of}
use Rattle.card_entries.specs.declared.Format.{Format}
use Rattle.card_entries.specs.Bounds.{most_entries}
use Rattle.base_answers.specs.declared.Refusal.{Refusal}
use Rattle.base_answers.specs.Answer.{given, says}
use Rattle.base_answers.proofs.Laws.{says_same}
use Rattle.card_reader.specs.Listing.{Listed}
use Rattle.build_card.specs.declared.BuildAnswer.{BuildAnswer}
use Rattle.build_card.specs.Building.{answer_of}
use Rattle.build_narrow.specs.Settling.{OfCard, OfLists, SettlesInto}
use Rattle.build_narrow.proofs.SettlingLaws.{settles_one}
use Rattle.build_narrow.proofs.CardLaws.{listed_settles}
use Rattle.build_narrow.proofs.settle_card.Kinds as settle_card
use Rattle.build_narrow.proofs.settle_card.Reads as settle_card_reads
use Rattle.build_narrow.proofs.settle_lists.Kinds as settle_lists
use Rattle.build_narrow.proofs.settle_lists.Reads as settle_lists_reads

-- two results that say the same, with what stands beside them
results_one : {P : Type 0} (r s : Result BuildAnswer Refusal) → (says r ≡ says s) × P → (r ≡ s) × P
results_one r s same = (says_same r s same.0, same.1)

pub settle_card_one : (κs : Lfts 2) (a : Dens κs settle_card.ps) (r r' : (res_t settle_card.r κs).Denot)
    (e e' : AtExit (ended_of 2 settle_card.ps settle_card.r) κs)
    → settle_card_reads.Post κs a r e
    → settle_card_reads.Post κs a r' e'
    → (r ≡ r') × (e.1.0.now ≡ e'.1.0.now)
settle_card_one κs a r r' e e' p q = results_one r r' (settles_one p q)

pub settle_lists_one : (κs : Lfts 4) (a : Dens κs settle_lists.ps) (r r' : (res_t settle_lists.r κs).Denot)
    (e e' : AtExit (ended_of 4 settle_lists.ps settle_lists.r) κs)
    → settle_lists_reads.Post κs a r e
    → settle_lists_reads.Post κs a r' e'
    → (r ≡ r') × (e.1.1.1.1.1.0.now ≡ e'.1.1.1.1.1.0.now)
settle_lists_one κs a r r' e e' p q = results_one r r' (settles_one p q)

-- the same from a card and from the lists that it is admitted into, with outputs that are the same before
pub card_as_lists : {card words ones twos words' ones' twos' before after after' : List ℕ} {f : Format} {r r' : Result BuildAnswer Refusal}
    → Listed most_entries card words ones twos (given f) words' ones' twos'
    → SettlesInto answer_of (OfCard most_entries card (length before)) before (says r) after
    → SettlesInto answer_of (OfLists most_entries f.kind f.l (take f.m words') (take f.m ones') (take f.m twos') (length before))
    before (says r') after'
    → (r ≡ r') × (after ≡ after')
card_as_lists {f = f} {r = r} {r' = r'} did c d = results_one r r' (settles_one c (listed_settles {q = Ok f} did refl d))
