-- What each call promises determines its answer, and from a card and from its lists it is the same. `Post` is the contract as it is read from
-- the source. Assumes nothing.
use mathlib.Core.Path.{◌≡◌, refl, sym, ap, ◌∙◌}
use mathlib.Core.List.{List}
use Prim.Native.Nat.{ℕ}
use Rattle.std.specs.Prelude.{Option, Result}
use lib.ListN.{take}
use contract.Lifetimes.{Lfts}
use denote.Triple.Clauses.{AtExit}
use borrow.Fn.Kinds.{Dens, res_t, ended_of}
use Rattle.card_entries.specs.declared.Format.{Format}
use Rattle.card_entries.specs.Bounds.{most_entries}
use Rattle.base_answers.specs.declared.Refusal.{Refusal}
use Rattle.base_answers.specs.Answer.{given, says}
use Rattle.base_answers.proofs.Laws.{says_same}
use Rattle.card_reader.specs.Listing.{Listed}
use Rattle.card_reader.proofs.ListingLaws.{listed_admitted, listed_words, listed_ones, listed_twos}
use Rattle.build_count.specs.Counting.{OfCard, OfLists, number_of, Counts}
use Rattle.build_count.proofs.CountingLaws.{counted_one, counts_one}
use Rattle.build_count.proofs.CardLaws.{its_counted}
use Rattle.build_count.proofs.count_card.Kinds as count_card
use Rattle.build_count.proofs.count_card.Reads as count_card_reads
use Rattle.build_count.proofs.count_lists.Kinds as count_lists
use Rattle.build_count.proofs.count_lists.Reads as count_lists_reads

pub count_card_one : (κs : Lfts 1) (a : Dens κs count_card.ps) (r r' : (res_t count_card.r κs).Denot)
    (e e' : AtExit (ended_of 1 count_card.ps count_card.r) κs)
    → count_card_reads.Post κs a r e
    → count_card_reads.Post κs a r' e'
    → r ≡ r'
count_card_one κs a r r' e e' p q = says_same r r' (counts_one p q)

pub count_lists_one : (κs : Lfts 3) (a : Dens κs count_lists.ps) (r r' : (res_t count_lists.r κs).Denot)
    (e e' : AtExit (ended_of 3 count_lists.ps count_lists.r) κs)
    → count_lists_reads.Post κs a r e
    → count_lists_reads.Post κs a r' e'
    → r ≡ r'
count_lists_one κs a r r' e e' p q = says_same r r' (counts_one p q)

-- the same from a card and from the lists that it is admitted into
pub card_as_lists : {card words ones twos words' ones' twos' : List ℕ} {f : Format} {r r' : Result (Option ℕ) Refusal}
    → Listed most_entries card words ones twos (given f) words' ones' twos'
    → Counts number_of (OfCard most_entries card) (says r)
    → Counts number_of (OfLists most_entries f.kind f.l (take f.m words') (take f.m ones') (take f.m twos')) (says r')
    → r ≡ r'
card_as_lists {card} {r = r} {r' = r'} did c d =
    let admitted = listed_admitted did refl in
    let said = its_counted card admitted (rw (listed_words did refl, listed_ones did refl, listed_twos did refl) at d.says) in
    says_same r r' (c.answer ∙ ap number_of (counted_one c.says said) ∙ sym d.answer)
