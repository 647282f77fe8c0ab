-- Each public contract determines the outcome: two results that both meet it at the same input are equal. `Post` is the contract as it is
-- read from the source. Assumes nothing.
use mathlib.Core.Path.{◌≡◌, sym, ◌∙◌}
use contract.Lifetimes.{Lfts}
use denote.Triple.Clauses.{AtExit}
use borrow.Fn.Kinds.{Dens, res_t, ended_of}
use Rattle.base_answers.proofs.Laws.{held_one}
use Rattle.card_lists.proofs.lists_hold.Kinds as lists_hold
use Rattle.card_lists.proofs.lists_hold.Reads as lists_hold_reads

module _ (κs : Lfts 3) where
  pub lists_hold_one : (a : Dens κs lists_hold.ps) (r r' : (res_t lists_hold.r κs).Denot)
      (e e' : AtExit (ended_of 3 lists_hold.ps lists_hold.r) κs)
      → lists_hold_reads.Post κs a r e → lists_hold_reads.Post κs a r' e' → r ≡ r'
  lists_hold_one a r r' e e' p q = held_one r r' (p ∙ sym q)
