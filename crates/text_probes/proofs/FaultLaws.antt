-- A text is refused exactly by the first line that breaks a rule, and by the first rule that this line breaks; what each rule says of a line
-- is `FaultWords`. Assumes nothing.
use mathlib.Core.Path.{◌≡◌, sym, ap, ◌∙◌}
use mathlib.Core.Logic.{◌⊎◌, inl, inr, ⊎_elim, ◌↔◌}
use mathlib.Core.Bool.{true, false}
use mathlib.Core.List.{List, [], ◌∷◌}
use Prim.Native.Nat.{ℕ, ◌+◌, ◌<◌}
use native.Mathlib.Omega.{arith}
use lib.ListN.{length, get_or, take, length-map}
use lib.Seq.{length-take-le}
use borrow.Author.Tests.{lt-ltb, le-ltb, ltb-false, not-false}
use Rattle.base_answers.specs.Numbers.{Text, Mixed, Uneven, Zero}
use Rattle.base_answers.specs.Answer.{given, refused, sound, first, Test}
use Rattle.base_lists.specs.Row.{in_turn}
use Rattle.base_answers.proofs.Laws.{first_pass, first_fail, first_refused_any}
use Rattle.base_answers.proofs.TurnLaws.{first_cases, none_refuse, turns_fault, fault_turns}
use Rattle.text_probes.specs.declared.scanning.Outline.{Outline}
use Rattle.text_probes.specs.Lines.{lines_of, is_line, line_of, lines_in}
use Rattle.text_probes.specs.Testing.{has_zero, line_mark, line_letters, outline_of, agree, said_tests, line_tests, tests_at, text_tests, scanning}
use Rattle.text_probes.specs.Faults.{Empty}
use Rattle.text_probes.proofs.TestLaws.{line_no_text, line_later, later_mixed, later_uneven, later_zero}

-- ---- one line

-- the first rule that the line bs breaks, after lines of the outline s
pub data Breaks (s : Outline) (bs : List ℕ) : ℕ → Type 0 where
  no_line : is_line bs ≡ false → Breaks s bs Text
  mixed : is_line bs ≡ true → agree s.mark (line_mark (line_of bs)) ≡ false → Breaks s bs Mixed
  uneven : is_line bs ≡ true → agree s.mark (line_mark (line_of bs)) ≡ true → agree s.l (line_letters (line_of bs)) ≡ false
      → Breaks s bs Uneven
  has_zero_lem : is_line bs ≡ true → agree s.mark (line_mark (line_of bs)) ≡ true → agree s.l (line_letters (line_of bs)) ≡ true
      → has_zero (line_of bs).listed ≡ true → Breaks s bs Zero

module _ (s : Outline) (bs : List ℕ) where
  -- "in that order within a line"
  pub line_breaks : {n p : ℕ} → first (line_tests s bs) sound ≡ refused n p → Breaks s bs n × (s.m + 1 ≡ p)
  unfolding line_tests said_tests
  line_breaks e =
      ⊎_elim (λ f. (rw (sym f.1) (no_line f.0), f.2)) (λ read.
      ⊎_elim (λ f. (rw (sym f.1) (mixed read.0 f.0), f.2)) (λ mark.
      ⊎_elim (λ f. (rw (sym f.1) (uneven read.0 mark.0 f.0), f.2)) (λ even.
      ⊎_elim (λ f. (rw (sym f.1) (has_zero_lem read.0 mark.0 even.0 (not-false _ f.0)), f.2)) (λ rest. absurd (none_refuse rest.1))
      (first_cases _ _ _ _ _ even.1))
      (first_cases _ _ _ _ _ mark.1))
      (first_cases _ _ _ _ _ read.1))
      (first_cases _ _ _ _ _ e)

  pub breaks_line : {n : ℕ} → Breaks s bs n → first (line_tests s bs) sound ≡ refused n (s.m + 1)
  breaks_line (no_line e) = line_no_text s bs sound e
  breaks_line (mixed read e) = line_later s bs sound read ∙ later_mixed s _ _ sound e
  breaks_line (uneven read mark e) = line_later s bs sound read ∙ later_uneven s _ _ sound mark e
  breaks_line (has_zero_lem read mark even e) = line_later s bs sound read ∙ later_zero s _ _ sound mark even e

-- ---- a text

-- the first line that breaks a rule, from 0, and the first rule that it breaks
pub record BreaksAt (text : List ℕ) (n p : ℕ) : Type 0 where
  pub line : ℕ
  pub within : line < length (lines_of text)
  pub from_one : p ≡ line + 1
  pub before : (i : ℕ) → i < line → first (tests_at text i) sound ≡ given sound
  pub breaks : Breaks (outline_of (take line (lines_in text))) (get_or (lines_of text) line []) n

-- a text that has a line has a byte
some_byte : (text : List ℕ) {e : ℕ} → e < length (lines_of text) → 0 < length text
unfolding lines_of
some_byte [] h = absurd (omega arith)
some_byte (b ∷ bs) h = omega arith

module _ (text : List ℕ) where
  -- how many lines stand before the line e
  count_before : (e : ℕ) → e < length (lines_of text) → (outline_of (take e (lines_in text))).m ≡ e
  count_before e h = length-take-le e (lines_in text) (omega (arith, length-map (lines_of text) line_of))

  -- the tests of the lines
  abbrev tests : List Test
  tests = in_turn (tests_at text) 0 (length (lines_of text))

  at_fault : {n p : ℕ} → first tests sound ≡ refused n p → BreaksAt text n p
  at_fault e =
      let x = turns_fault (tests_at text) 0 (length (lines_of text)) e in
      let here : (i : ℕ) → 0 + i ≡ i = λ i. omega arith in
      let broken = line_breaks (outline_of (take x.at (lines_in text))) (get_or (lines_of text) x.at []) (rw (here x.at) at x.fails) in
      record {
        line = x.at;
        within = x.within;
        from_one = omega (arith, broken.1, count_before x.at x.within);
        before = λ i h. rw (here i) at (x.before i h);
        breaks = broken.0;
      }

  fault_at : {n p : ℕ} → BreaksAt text n p → first tests sound ≡ refused n p
  fault_at {n} {p} x =
      let here : (i : ℕ) → 0 + i ≡ i = λ i. omega arith in
      let place : (outline_of (take x.line (lines_in text))).m + 1 ≡ p = omega (arith, count_before x.line x.within, x.from_one) in
      let own = breaks_line (outline_of (take x.line (lines_in text))) (get_or (lines_of text) x.line []) x.breaks in
      fault_turns (record {
        at = x.line;
        within = x.within;
        before = λ i h. rw (here i) (x.before i h);
        fails = rw (here x.line) (own ∙ ap (λ (q : ℕ). refused n q) place);
      })

  pub refused_breaks : (n p : ℕ) → (scanning text ≡ refused n p) ↔ (Empty text n p ⊎ BreaksAt text n p)
  unfolding text_tests
  refused_breaks n p = (to, ⊎_elim from_empty from_fault)
    where
      to : scanning text ≡ refused n p → Empty text n p ⊎ BreaksAt text n p
      to e =
          ⊎_elim (λ f. inl (record { nothing = omega (arith, ltb-false 0 (length text) f.0); number = sym f.1; line = sym f.2 }))
          (λ rest. inr (at_fault (first_refused_any tests (outline_of (lines_in text)) sound rest.1)))
          (first_cases _ _ _ _ _ e)

      from_empty : Empty text n p → scanning text ≡ refused n p
      from_empty x =
          let refusal : refused Text 1 ≡ refused n p = λ i. refused (sym x.number i) (sym x.line i) in
          first_fail _ _ _ _ _ (le-ltb 0 (length text) (omega (arith, x.nothing))) ∙ refusal

      from_fault : BreaksAt text n p → scanning text ≡ refused n p
      from_fault x =
          first_pass _ _ _ _ _ (lt-ltb 0 (length text) (some_byte text x.within))
          ∙ first_refused_any tests sound (outline_of (lines_in text)) (fault_at x)
