-- What `pair` promises determines whether there is a build, the words of the first one, and how many choices were free; what `settle` promises
-- determines its answer, and the words of the build where it gives one.
-- `Post` is the contract as it is read from the source. Assumes nothing.
use mathlib.Core.Path.{◌≡◌, refl, sym, ap, ◌∙◌}
use mathlib.Core.List.{List, []}
use Prim.Native.Nat.{ℕ, zero, suc, ◌^◌, ◌<◌}
use Rattle.std.specs.Prelude.{Option, Some, None}
use contract.Lifetimes.{Lfts}
use denote.Triple.Clauses.{AtExit}
use borrow.Fn.Kinds.{Dens, res_t, ended_of}
use lib.ListN.{length, take}
use Rattle.card_entries.specs.declared.Entry.{Entry}
use Rattle.card_entries.specs.declared.Slot.{Slot}
use Rattle.base_lists.specs.Members.{In}
use Rattle.build_sequence.specs.Build.{spell, Build}
use Rattle.build_sequence.specs.Verdict.{Verdict, sole, several, no_build, Tells}
use Rattle.build_sequence.proofs.BuildLaws.{worded_one}
use Rattle.build_sequence.proofs.ManyLaws.{many_one, many_empty, exponent_one}
use Rattle.build_sequence.proofs.VerdictLaws.{tells_one}
use Rattle.pair_theory.specs.Described.{verdict_by}
use Rattle.pair_theory.specs.Settling.{pair_entries}
use Rattle.pair_theory.proofs.Meant.{means_one}
use Rattle.build_method.specs.Method.{GivesBuild}
use Rattle.build_method.proofs.RightLaws.{right_one, words_one}
use Rattle.pair_method.specs.PairMethod.{Gives}
use Rattle.pair_method.proofs.CardLaws.{entry_fits}
use Rattle.pair_method.proofs.pair.Kinds as pair_kinds
use Rattle.pair_method.proofs.pair.Reads as pair_reads
use Rattle.pair_method.proofs.settle.Kinds as settle_kinds
use Rattle.pair_method.proofs.settle.Reads as settle_reads

-- ---- the choices and the sequence, had back from the verdict

spelled_in : Verdict → List ℕ
spelled_in (sole s) = s
spelled_in (several s) = s
spelled_in no_build = []

spelled_in_lem : (k : ℕ) (s : List ℕ) → spelled_in (verdict_by k s) ≡ s
unfolding spelled_in
spelled_in_lem zero s = refl
spelled_in_lem (suc k) s = refl

-- the sequence of either verdict fits
told_fits : (Fits : List ℕ → Type 0) (k : ℕ) (s : List ℕ) → Tells Fits (verdict_by k s) → Fits s
told_fits Fits zero s t = t.0
told_fits Fits (suc k) s t = t.0

pub gives_found : (r r' : Option ℕ) {l : ℕ} {es : List Slot} {ws vs : List ℕ} → Gives l es r ws → Gives l es r' vs → r ≡ r'
gives_found None None p q = refl
gives_found (Some k) None {l} {es} {ws} p q =
    absurd (many_empty q.many (spell l ws) (told_fits (Build l (pair_entries es)) k (spell l ws) (p.told k refl)))
gives_found None (Some k) {l} {es} {ws} {vs} p q =
    absurd (many_empty p.many (spell l vs) (told_fits (Build l (pair_entries es)) k (spell l vs) (q.told k refl)))
gives_found (Some k) (Some k') p q = ap (λ n. Some n) (exponent_one k k' (many_one p.many q.many))

-- ---- two outcomes are one

module _ {l : ℕ} {es : List Slot} {r r' : Option ℕ} {ws vs : List ℕ} (admitted : (e : Entry) → In e (pair_entries es) → e.word < 4 ^ l)
    (p : Gives l es r ws) (q : Gives l es r' vs) where
  pub gives_words : (k : ℕ) → r ≡ Some k → ws ≡ vs
  gives_words k h =
      let h' : r' ≡ Some k = sym (gives_found r r' p q) ∙ h in
      let same = tells_one (Build l (pair_entries es)) (verdict_by k (spell l ws)) (verdict_by k (spell l vs)) (p.told k h) (q.told k h') in
      worded_one admitted (p.worded k h) (q.worded k h')
      (sym (spelled_in_lem k (spell l ws)) ∙ ap spelled_in same ∙ spelled_in_lem k (spell l vs))

pub pair_one : (κs : Lfts 3) (a : Dens κs pair_kinds.ps) (r r' : (res_t pair_kinds.r κs).Denot)
    (e e' : AtExit (ended_of 3 pair_kinds.ps pair_kinds.r) κs)
    → pair_reads.Pre κs a
    → pair_reads.Post κs a r e
    → pair_reads.Post κs a r' e'
    → (r ≡ r')
    × ((k : ℕ) → r ≡ Some k → take (length a.1.0.now.words.now) e.1.1.0.now ≡ take (length a.1.0.now.words.now) e'.1.1.0.now)
pair_one κs a r r' e e' pre p q = (gives_found _ _ p q, gives_words (entry_fits pre.0) p q)

pub settle_one : (κs : Lfts 3) (a : Dens κs settle_kinds.ps) (r r' : (res_t settle_kinds.r κs).Denot)
    (e e' : AtExit (ended_of 3 settle_kinds.ps settle_kinds.r) κs)
    → settle_reads.Pre κs a
    → settle_reads.Post κs a r e
    → settle_reads.Post κs a r' e'
    → (r ≡ r')
    × (GivesBuild r → take (length a.1.0.now.words.now) e.1.1.0.now ≡ take (length a.1.0.now.words.now) e'.1.1.0.now)
settle_one κs a r r' e e' pre p q =
    (right_one (λ o o'. means_one) p q, words_one (λ o o'. means_one) p q (entry_fits pre.0))
