-- Each public contract determines the outcome: two results that both meet it at the same input are equal. `Post` is the contract as it
-- is read from the source. Assumes nothing.
use mathlib.Core.Path.{◌≡◌, refl, sym, ap, ◌∙◌}
use contract.Lifetimes.{Lfts}
use denote.Triple.Clauses.{AtExit}
use borrow.Fn.Kinds.{Dens, res_t, ended_of}
use Prim.Native.Nat.{ℕ}
use Rattle.std.specs.Prelude.{Option, Some, None}
use Rattle.base_letters.specs.Letters.{Reading, code, no_letter, says_code}
use Rattle.base_letters.proofs.letter_of.Kinds as letter_of
use Rattle.base_letters.proofs.letter_of.Reads as letter_of_reads
use Rattle.base_letters.proofs.code_of.Kinds as code_of_lem
use Rattle.base_letters.proofs.code_of.Reads as code_of_reads
use Rattle.base_letters.proofs.is_letter.Kinds as is_letter
use Rattle.base_letters.proofs.is_letter.Reads as is_letter_reads

-- the option, had back from what it says
code_back : Reading → Option ℕ
code_back (code c) = Some c
code_back no_letter = None

code_back_lem : (r : Option ℕ) → code_back (says_code r) ≡ r
unfolding code_back
code_back_lem (Some c) = refl
code_back_lem None = refl

module _ (κs : Lfts 0) where
  -- the letter
  pub letter_of_one : (a : Dens κs letter_of.ps) (r r' : (res_t letter_of.r κs).Denot)
      (e e' : AtExit (ended_of 0 letter_of.ps letter_of.r) κs)
      → letter_of_reads.Post κs a r e → letter_of_reads.Post κs a r' e' → r ≡ r'
  letter_of_one a r r' e e' p q = p ∙ sym q

  -- the code, or that there is none
  pub code_of_one : (a : Dens κs code_of_lem.ps) (r r' : (res_t code_of_lem.r κs).Denot) (e e' : AtExit (ended_of 0 code_of_lem.ps code_of_lem.r) κs)
      → code_of_reads.Post κs a r e → code_of_reads.Post κs a r' e' → r ≡ r'
  code_of_one a r r' e e' p q = sym (code_back_lem r) ∙ ap code_back (p ∙ sym q) ∙ code_back_lem r'

  -- whether it is a letter
  pub is_letter_one : (a : Dens κs is_letter.ps) (r r' : (res_t is_letter.r κs).Denot)
      (e e' : AtExit (ended_of 0 is_letter.ps is_letter.r) κs)
      → is_letter_reads.Post κs a r e → is_letter_reads.Post κs a r' e' → r ≡ r'
  is_letter_one a r r' e e' p q = p ∙ sym q
