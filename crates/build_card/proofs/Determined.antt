-- The contract of `build` determines the outcome: two answers, with what the output holds afterwards, that both meet it at the same input
-- are equal. `Post` is the contract as it is read from the source. Assumes nothing.
use mathlib.Core.Path.{◌≡◌, sym, ap, ◌∙◌}
use mathlib.Core.List.{List}
use Prim.Native.Nat.{ℕ}
use native.Mathlib.Omega.{arith}
use contract.Lifetimes.{Lfts}
use denote.Triple.Clauses.{AtExit}
use borrow.Fn.Kinds.{Dens, res_t, ended_of}
use lib.ListN.{length}
use Rattle.std.specs.Prelude.{Result}
use Rattle.base_answers.specs.declared.Refusal.{Refusal}
use Rattle.base_answers.specs.Answer.{Answer, given, says}
use Rattle.base_answers.proofs.Laws.{given_not_refused, refusal_same, says_same}
use Rattle.card_entries.specs.declared.Slot.{Slot}
use Rattle.build_sequence.specs.Verdict.{Outcome}
use Rattle.span_theory.proofs.Meant as spans
use Rattle.pair_theory.proofs.Meant as pairs
use Rattle.build_card.specs.declared.BuildAnswer.{BuildAnswer}
use Rattle.build_card.specs.Building.{Means, on_pairs, on_spans, Says, tells, refuses, answer_of, letters_after, Builds}
use Rattle.build_card.proofs.build.Kinds as build
use Rattle.build_card.proofs.build.Reads as build_reads

-- one outcome at most is true
pub means_one : {kind l budget : ℕ} {es : List Slot} {o o' : Outcome} → Means kind l es budget o → Means kind l es budget o' → o ≡ o'
means_one (on_pairs e p) (on_pairs f q) = pairs.means_one p q
means_one (on_spans e p) (on_spans f q) = spans.means_one p q
means_one (on_pairs e p) (on_spans f q) = absurd (omega (arith, e, f))
means_one (on_spans e p) (on_pairs f q) = absurd (omega (arith, e, f))

-- one answer at most is said
pub says_one : {limit budget room : ℕ} {card : List ℕ} {a b : Answer Outcome} → Says limit card budget room a
    → Says limit card budget room b
    → a ≡ b
says_one (tells e p) (tells f q) = ap given (means_one p q)
says_one (tells e p) (refuses f) = absurd (given_not_refused (sym e ∙ f))
says_one (refuses e) (tells f q) = absurd (given_not_refused (sym f ∙ e))
says_one (refuses e) (refuses f) = refusal_same (sym e ∙ f)

-- so are two answers of any form, enum or struct, that are told from what is said, and the outputs after them
pub told_one : {R : Type 0} (tell : Answer Outcome → R) (before : List ℕ) {limit budget : ℕ} {card after after' : List ℕ}
    {a b : Answer Outcome} {r r' : R}
    → Says limit card budget (length before) a
    → Says limit card budget (length before) b
    → r ≡ tell a
    → r' ≡ tell b
    → after ≡ letters_after a before
    → after' ≡ letters_after b before
    → (r ≡ r') × (after ≡ after')
told_one tell before p q e f out out' =
    let same = says_one p q in
    (e ∙ ap tell same ∙ sym f, out ∙ ap (λ (x : Answer Outcome). letters_after x before) same ∙ sym out')

pub builds_one : {limit budget : ℕ} {card before after after' : List ℕ} {r r' : Result BuildAnswer Refusal}
    → Builds limit card budget before (says r) after
    → Builds limit card budget before (says r') after'
    → (r ≡ r') × (after ≡ after')
builds_one {before} {r = r} {r' = r'} p q =
    let same = told_one answer_of before p.says q.says p.answer q.answer p.output q.output in
    (says_same r r' same.0, same.1)

pub build_one : (κs : Lfts 2) (a : Dens κs build.ps) (r r' : (res_t build.r κs).Denot) (e e' : AtExit (ended_of 2 build.ps build.r) κs)
    → build_reads.Post κs a r e
    → build_reads.Post κs a r' e'
    → (r ≡ r') × (e.1.1.0.now ≡ e'.1.1.0.now)
build_one κs a r r' e e' p q = builds_one p q
