-- The contract of `spell` determines the output: two that both meet it at the same input are equal. `Post` is the contract as it is read
-- from the source. Assumes nothing.
use mathlib.Core.Path.{◌≡◌, sym, ◌∙◌}
use contract.Lifetimes.{Lfts}
use denote.Triple.Clauses.{AtExit}
use borrow.Fn.Kinds.{Dens, res_t, ended_of}
use Rattle.build_spelling.proofs.spell.Kinds as spell
use Rattle.build_spelling.proofs.spell.Reads as spell_reads

pub spell_one : (κs : Lfts 2) (a : Dens κs spell.ps) (r r' : (res_t spell.r κs).Denot) (e e' : AtExit (ended_of 2 spell.ps spell.r) κs)
    → spell_reads.Post κs a r e
    → spell_reads.Post κs a r' e'
    → e.1.1.0.now ≡ e'.1.1.0.now
spell_one κs a r r' e e' p q = p ∙ sym q
