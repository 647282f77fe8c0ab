-- Each contract determines the outcome: two answers, with what both buffers hold afterwards, that meet it at the same input are equal.
-- `Post` is the contract as it is read from the source. Assumes nothing.
use mathlib.Core.Path.{◌≡◌, sym, ap, ◌∙◌}
use mathlib.Core.List.{List}
use Prim.Native.Nat.{ℕ}
use contract.Lifetimes.{Lfts}
use denote.Triple.Clauses.{AtExit}
use borrow.Fn.Kinds.{Dens, res_t, ended_of}
use Rattle.base_text.proofs.PrintedLaws.{printed_one}
use Rattle.build_card.proofs.Determined.{says_one}
use Rattle.program_converting.specs.declared.Lengths.{Lengths}
use Rattle.program_converting.specs.Converting.{Streams, Converted}
use Rattle.program_converting.specs.Fasta.{ToFasta}
use Rattle.program_converting.proofs.to_card.convert.Kinds as to_card
use Rattle.program_converting.proofs.to_card.convert.Reads as to_card_reads
use Rattle.program_converting.proofs.to_list.convert.Kinds as to_list
use Rattle.program_converting.proofs.to_list.convert.Reads as to_list_reads
use Rattle.program_converting.proofs.to_fasta.convert.Kinds as to_fasta
use Rattle.program_converting.proofs.to_fasta.convert.Reads as to_fasta_reads

lengths_one : (r r' : Lengths) → r.output ≡ r'.output → r.errors ≡ r'.errors → r ≡ r'
lengths_one r r' p q =
    ap (λ (n : ℕ). record { output = n; errors = r.errors }) p ∙ ap (λ (n : ℕ). record { output = r'.output; errors = n }) q

pub converted_one : {written : Streams} {out err out₁ err₁ out₂ err₂ : List ℕ} {r r' : Lengths} → Converted written out err r out₁ err₁
    → Converted written out err r' out₂ err₂
    → (r ≡ r') × (out₁ ≡ out₂) × (err₁ ≡ err₂)
converted_one {r} {r'} p q =
    let output = printed_one (λ xs ys a b. a ∙ sym b) p.to_output q.to_output in
    let errors = printed_one (λ xs ys a b. a ∙ sym b) p.to_errors q.to_errors in
    (lengths_one r r' output.0 errors.0, output.1, errors.1)

pub to_card_one : (κs : Lfts 3) (a : Dens κs to_card.ps) (r r' : (res_t to_card.r κs).Denot)
    (e e' : AtExit (ended_of 3 to_card.ps to_card.r) κs)
    → to_card_reads.Post κs a r e → to_card_reads.Post κs a r' e'
    → (r ≡ r') × (e.1.0.now ≡ e'.1.0.now) × (e.1.1.0.now ≡ e'.1.1.0.now)
to_card_one κs a r r' e e' p q = converted_one p q

pub to_list_one : (κs : Lfts 3) (a : Dens κs to_list.ps) (r r' : (res_t to_list.r κs).Denot)
    (e e' : AtExit (ended_of 3 to_list.ps to_list.r) κs)
    → to_list_reads.Post κs a r e → to_list_reads.Post κs a r' e'
    → (r ≡ r') × (e.1.0.now ≡ e'.1.0.now) × (e.1.1.0.now ≡ e'.1.1.0.now)
to_list_one κs a r r' e e' p q = converted_one p q

-- one answer at most is said of a card
fasta_one : {limit : ℕ} {card name out err out₁ err₁ out₂ err₂ : List ℕ} {r r' : Lengths} → ToFasta limit card name out err r out₁ err₁
    → ToFasta limit card name out err r' out₂ err₂
    → (r ≡ r') × (out₁ ≡ out₂) × (err₁ ≡ err₂)
fasta_one p q = converted_one (rw (says_one p.says q.says) at p.written) q.written

pub to_fasta_one : (κs : Lfts 4) (a : Dens κs to_fasta.ps) (r r' : (res_t to_fasta.r κs).Denot)
    (e e' : AtExit (ended_of 4 to_fasta.ps to_fasta.r) κs)
    → to_fasta_reads.Post κs a r e → to_fasta_reads.Post κs a r' e'
    → (r ≡ r') × (e.1.1.0.now ≡ e'.1.1.0.now) × (e.1.1.1.0.now ≡ e'.1.1.1.0.now)
to_fasta_one κs a r r' e e' p q = fasta_one p q
