-- Each public contract determines the outcome: two results, with what the lent lists hold afterwards, that both meet it at the same input
-- are equal. `Post` is the contract as it is read from the source. Assumes nothing.
use mathlib.Core.Path.{◌≡◌, refl, sym, ◌∙◌}
use contract.Lifetimes.{Lfts}
use denote.Triple.Clauses.{AtExit}
use borrow.Fn.Kinds.{Dens, res_t, ended_of}
use Rattle.std.specs.Prelude.{Option, Some, None}
use Rattle.base_answers.proofs.Laws.{says_same, says_as_same}
use Rattle.card_entries.specs.declared.Entry.{Entry}
use Rattle.card_reader.specs.declared.Head.{Head}
use Rattle.card_reader.specs.Fetching.{Next, more, end, next_of}
use Rattle.card_reader.proofs.admit.Kinds as admit
use Rattle.card_reader.proofs.admit.Reads as admit_reads
use Rattle.card_reader.proofs.fetch_entry.Kinds as fetch_entry
use Rattle.card_reader.proofs.fetch_entry.Reads as fetch_entry_reads
use Rattle.card_reader.proofs.Head.step.Kinds as step
use Rattle.card_reader.proofs.Head.step.Reads as step_reads
use Rattle.card_reader.proofs.listing.admit_into.Kinds as admit_into
use Rattle.card_reader.proofs.listing.admit_into.Reads as admit_into_reads

-- ---- a step, had back from what it says

next_back : Next → Option (Entry × Head)
next_back (more e at) = Some (e, record { at = at })
next_back end = None

next_back_lem : (r : Option (Entry × Head)) → next_back (next_of r) ≡ r
unfolding next_back
next_back_lem (Some (e, h)) = refl
next_back_lem None = refl

-- ---- the operations

module _ (κs : Lfts 1) where
  pub admit_one : (a : Dens κs admit.ps) (r r' : (res_t admit.r κs).Denot)
      (e e' : AtExit (ended_of 1 admit.ps admit.r) κs)
      → admit_reads.Post κs a r e → admit_reads.Post κs a r' e' → r ≡ r'
  admit_one a r r' e e' p q = says_same r r' (p ∙ sym q)

  pub fetch_entry_one : (a : Dens κs fetch_entry.ps) (r r' : (res_t fetch_entry.r κs).Denot)
      (e e' : AtExit (ended_of 1 fetch_entry.ps fetch_entry.r) κs)
      → fetch_entry_reads.Post κs a r e → fetch_entry_reads.Post κs a r' e' → r ≡ r'
  fetch_entry_one a r r' e e' p q = says_same r r' (p ∙ sym q)

  pub step_one : (a : Dens κs step.ps) (r r' : (res_t step.r κs).Denot)
      (e e' : AtExit (ended_of 1 step.ps step.r) κs)
      → step_reads.Post κs a r e → step_reads.Post κs a r' e' → r ≡ r'
  step_one a r r' e e' p q = says_as_same next_of next_back next_back_lem r r' (p ∙ sym q)

module _ (κs : Lfts 4) where
  pub admit_into_one : (a : Dens κs admit_into.ps) (r r' : (res_t admit_into.r κs).Denot)
      (e e' : AtExit (ended_of 4 admit_into.ps admit_into.r) κs)
      → admit_into_reads.Post κs a r e → admit_into_reads.Post κs a r' e'
      → (r ≡ r')
      × (e.1.0.now ≡ e'.1.0.now)
      × (e.1.1.0.now ≡ e'.1.1.0.now)
      × (e.1.1.1.0.now ≡ e'.1.1.1.0.now)
  admit_into_one a r r' e e' p q = (
    says_same r r' (p.answer ∙ sym q.answer),
    p.in_words ∙ sym q.in_words,
    p.in_ones ∙ sym q.in_ones,
    p.in_twos ∙ sym q.in_twos,
  )
