-- The mark of a list is that of some line, and each line that has a mark has this one. Assumes nothing.
use mathlib.Core.Path.{◌≡◌, refl, sym, ap, ◌∙◌}
use mathlib.Core.Logic.{◌↔◌}
use mathlib.Core.Bool.{Bool, true, false, cond}
use mathlib.Core.List.{List, [], ◌∷◌}
use Prim.Native.Nat.{ℕ, suc, ◌<◌}
use native.Mathlib.Omega.{arith}
use lib.ListN.{length, get_or}
use lib.Dec.{eqb}
use borrow.Author.Tests.{eq-eqb, ne_eqb, eqb-true}
use Rattle.base_answers.specs.Answer.{given}
use Rattle.card_entries.specs.Fault.{pair, span}
use Rattle.text_probes.specs.declared.scanning.Outline.{Outline}
use Rattle.text_probes.specs.Line.{Line}
use Rattle.text_probes.specs.Lines.{line_of, lines_in}
use Rattle.text_probes.specs.Testing.{line_mark, known, outline_of, scanning, kind_of}
use Rattle.text_probes.proofs.SoundLaws.{sound_outline, sound_line}
use Rattle.text_probes.specs.Faults.{HasMark}
use Rattle.text_probes.proofs.TextLaws.{line_in_lem, lines_many}

kind_pair : (mark : ℕ) → (mark ≡ span → ⊥) → kind_of mark ≡ pair
kind_pair mark n = rw (ne_eqb mark span n) refl

-- ---- what is known of lines

-- some line has it
pub record KnownAt (f : Line → ℕ) (xs : List Line) (d : Line) : Type 0 where
  pub at : ℕ
  pub within : at < length xs
  pub is : f (get_or xs at d) ≡ known f xs

pub known_some : (f : Line → ℕ) (xs : List Line) (d : Line) → (known f xs ≡ 0 → ⊥) → KnownAt f xs d
unfolding known
known_some f [] d n = absurd (n refl)
known_some f (x ∷ xs) d n = go (known_some f xs d) (eqb (f x) 0) refl n
  where
    go : ((known f xs ≡ 0 → ⊥) → KnownAt f xs d) → (t : Bool) → eqb (f x) 0 ≡ t → (cond t (known f xs) (f x) ≡ 0 → ⊥) → KnownAt f (x ∷ xs) d
    go later true q n = let k = later n in record { at = suc k.at; within = omega (arith, k.within); is = k.is ∙ rw q refl }
    go later false q n = record { at = 0; within = omega arith; is = rw q refl }

-- that of the first line is known, where it is there
pub known_first : (f : Line → ℕ) (xs : List Line) (d : Line) → 0 < length xs → 0 < f (get_or xs 0 d) → known f xs ≡ f (get_or xs 0 d)
unfolding known
known_first f [] d h n = absurd (omega arith)
known_first f (x ∷ xs) d h n = rw (ne_eqb (f x) 0 (λ e. omega arith))

-- ---- the kind of a list

kind_mark : (mark : ℕ) → (kind_of mark ≡ span) ↔ (mark ≡ span)
kind_mark mark = (λ e. go (eqb mark span) refl e, λ e. rw (eq-eqb mark span e))
  where
    go : (t : Bool) → eqb mark span ≡ t → cond t span pair ≡ span → mark ≡ span
    go true q e = eqb-true mark span q
    go false q e = absurd (omega arith)

module _ (text : List ℕ) {s : Outline} (holds : scanning text ≡ given s) where
  its_mark : {mark : ℕ} → (mark ≡ 0 → ⊥) → HasMark text mark → (outline_of (lines_in text)).mark ≡ mark
  its_mark n has =
      let line = sound_line text holds has.line has.within in
      let own = sym (ap line_mark (line_in_lem text has.line)) ∙ has.marked in
      sym (ap (λ (t : Outline). t.mark) (sound_outline text holds)) ∙ sym (line.mark (λ z. n (sym own ∙ z))) ∙ own

  -- "with any hyphen a span card"
  pub span_marked : (kind_of (outline_of (lines_in text)).mark ≡ span) ↔ HasMark text span
  span_marked = (to, λ has. (kind_mark _).1 (its_mark (λ z. omega arith) has))
    where
      to : kind_of (outline_of (lines_in text)).mark ≡ span → HasMark text span
      to e =
          let mark = (kind_mark (outline_of (lines_in text)).mark).0 e in
          let k = known_some line_mark (lines_in text) (line_of []) (λ z. omega arith) in
          record { line = k.at; within = omega (arith, k.within, lines_many text); marked = k.is ∙ mark }

  -- "A list with any comma is a pair card"
  pub pair_marked : HasMark text pair → kind_of (outline_of (lines_in text)).mark ≡ pair
  pair_marked has =
      let mark = its_mark (λ z. omega arith) has in
      kind_pair (outline_of (lines_in text)).mark (λ e. omega (arith, mark))

  -- "with neither a pair card"
  pub pair_unmarked : (kind_of (outline_of (lines_in text)).mark ≡ pair) ↔ (HasMark text span → ⊥)
  pair_unmarked =
      let mark : ℕ = (outline_of (lines_in text)).mark in
      (λ e has. omega (arith, span_marked.1 has), λ n. kind_pair mark (λ e. n (span_marked.0 ((kind_mark mark).1 e))))
