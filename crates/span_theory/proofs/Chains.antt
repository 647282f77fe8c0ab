-- The words of a build are a chain of words of l letters, so that builds compare as the sequences that they spell. Assumes nothing.
use mathlib.Core.Path.{◌≡◌, sym, ◌∙◌}
use mathlib.Core.Logic.{⊎_elim}
use mathlib.Core.List.{List}
use mathlib.Core.Option.{Option}
use Prim.Native.Nat.{ℕ, ◌^◌, ◌<◌}
use native.Mathlib.Omega.{arith}
use Rattle.card_entries.specs.declared.Slot.{Slot}
use Rattle.base_lists.proofs.TestLaws.{is_true}
use Rattle.base_lists.specs.Members.{In}
use Rattle.build_sequence.specs.Build.{spell}
use Rattle.build_sequence.specs.Verdict.{Before}
use Rattle.base_lists.proofs.ListLaws.{not_in_nil, in_cons, in_left, taken_is_in}
use Rattle.build_sequence.proofs.SpellingLaws.{Chain, ends, goes, Chained, spell_before, spell_one}
use Rattle.span_theory.proofs.Feasible.{Feasible, stop, step}
use Rattle.span_theory.proofs.Builds.{Complete}

feasible_chain : {l i : ℕ} {p : Option ℕ} {left : List Slot} {ws : List ℕ} → Feasible l i p left ws → Chain l p ws
feasible_chain (stop h) = ends
feasible_chain (step t e a f more) = goes (is_true _ f) (feasible_chain more)

-- a word that stands is a word of the card
feasible_fits : {l i k : ℕ} {p : Option ℕ} {left : List Slot} {ws : List ℕ} → ((e : Slot) → In e left → e.word < k)
    → Feasible l i p left ws
    → (w : ℕ) → In w ws → w < k
feasible_fits fit (stop h) w m = absurd (not_in_nil m)
feasible_fits fit (step {e = own} t e a f more) w m =
    ⊎_elim (λ q. let h = fit own (taken_is_in t) in omega (arith, q, e))
    (λ g. feasible_fits (λ d h. fit d (in_left t h)) more w g) (in_cons m)

module _ {l : ℕ} {es : List Slot} (fit : (e : Slot) → In e es → e.word < 4 ^ l) where
  complete_chained : {ws : List ℕ} → Complete l es ws → Chained l ws
  complete_chained c = record { chain = feasible_chain c.feasible; fits = feasible_fits fit c.feasible }

  module _ {ws vs : List ℕ} (b : Complete l es ws) (c : Complete l es vs) where
    pub complete_before : Before ws vs → Before (spell l ws) (spell l vs)
    complete_before = spell_before (complete_chained b) (complete_chained c) (b.all ∙ sym c.all)

    pub complete_one : spell l ws ≡ spell l vs → ws ≡ vs
    complete_one = spell_one (complete_chained b) (complete_chained c) (b.all ∙ sym c.all)
