-- "Refusals, with line from 1: 23 Text (also … an empty list at line 1), 24 Mixed …, 25 Uneven …, 26 Zero …; lowest line first, and in that
-- order within a line." A text is refused exactly by its first line at fault. Assumes nothing.
use mathlib.Core.Path.{◌≡◌, refl, sym, ◌∙◌}
use mathlib.Core.Logic.{◌⊎◌, inl, inr, ⊎_elim, ◌↔◌}
use mathlib.Core.List.{List, []}
use Prim.Native.Nat.{ℕ, zero, suc, ◌≤◌, ◌<◌}
use native.Mathlib.Omega.{arith}
use lib.ListN.{length, get_or, take}
use Rattle.base_answers.specs.Answer.{Answer, given, refused, Sound, sound, first}
use Rattle.base_answers.proofs.Laws.{given_not_refused}
use Rattle.text_probes.specs.Lines.{lines_of, lines_in}
use Rattle.text_probes.specs.Testing.{outline_of, tests_at, scanning}
use Rattle.text_probes.proofs.NumberLaws.{lt_or_le}
use Rattle.text_probes.proofs.FaultLaws.{line_breaks, breaks_line, refused_breaks}
use Rattle.text_probes.specs.Faults.{NoFault, Empty, FirstAtFault}
use Rattle.text_probes.proofs.LineFaults.{breaks_wrong, wrong_breaks}

-- the lines up to e are sound exactly if none of them breaks a rule
module _ (text : List ℕ) where
  sound_no_fault : (e : ℕ) → e ≤ length (lines_of text) → ((i : ℕ) → i < e → first (tests_at text i) sound ≡ given sound) → (i : ℕ) → i < e → NoFault text i
  sound_no_fault e within sounds i h n wrong =
      let breaks = wrong_breaks text i (omega arith) (λ j g. sounds j (omega arith)) wrong in
      given_not_refused (sym (sounds i h) ∙ breaks_line (outline_of (take i (lines_in text))) (get_or (lines_of text) i []) breaks)

  no_fault_sound : (e : ℕ) → e ≤ length (lines_of text) → ((i : ℕ) → i < e → NoFault text i) → (i : ℕ) → i < e → first (tests_at text i) sound ≡ given sound
  no_fault_sound zero within no-faults i h = absurd (omega arith)
  no_fault_sound (suc e) within no-faults i h =
      let earlier = no_fault_sound e (omega arith) (λ j g. no-faults j (omega arith)) in
      ⊎_elim (earlier i) (λ g. let last : e ≡ i = omega arith in rw last at (here earlier (first (tests_at text e) sound) refl)) (lt_or_le i e)
    where
      here : ((j : ℕ) → j < e → first (tests_at text j) sound ≡ given sound) → (a : Answer Sound) → first (tests_at text e) sound ≡ a
          → first (tests_at text e) sound ≡ given sound
      here earlier (given sound) own = own
      here earlier (refused n p) own =
          let breaks = (line_breaks (outline_of (take e (lines_in text))) (get_or (lines_of text) e []) own).0 in
          absurd (no-faults e (omega arith) n (breaks_wrong text e (omega arith) earlier breaks))

-- "lowest line first, and in that order within a line"
pub refused_at_line : (text : List ℕ) (n p : ℕ) → (scanning text ≡ refused n p) ↔ (Empty text n p ⊎ FirstAtFault text n p)
refused_at_line text n p =
    let refusal = refused_breaks text n p in (
      λ e. ⊎_elim inl (λ x. inr (record {
        line = x.line;
        within = x.within;
        from_one = x.from_one;
        before = sound_no_fault text x.line (omega (arith, x.within)) x.before;
        wrong = breaks_wrong text x.line x.within x.before x.breaks;
      })) (refusal.0 e),
      λ fault. refusal.1 (⊎_elim inl (λ x. inr (record {
        line = x.line;
        within = x.within;
        from_one = x.from_one;
        before = no_fault_sound text x.line (omega (arith, x.within)) x.before;
        breaks = wrong_breaks text x.line x.within (no_fault_sound text x.line (omega (arith, x.within)) x.before) x.wrong;
      })) fault),
    )
