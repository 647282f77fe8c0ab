-- What importing refuses: "Card rules are applied after the text rules. Refusals, with line from 1: 23 Text …, 24 Mixed …, 25 Uneven …,
-- 26 Zero …; lowest line first, and in that order within a line." Assumes nothing.
use mathlib.Core.Path.{◌≡◌, refl, sym, ◌∙◌}
use mathlib.Core.Logic.{◌⊎◌, ◌↔◌}
use mathlib.Core.List.{List}
use Prim.Native.Nat.{ℕ, ◌≤◌}
use native.Mathlib.Omega.{arith}
use lib.ListN.{length}
use Rattle.base_answers.specs.Numbers.{Text}
use Rattle.base_answers.specs.Answer.{Answer, given, refused}
use Rattle.base_answers.proofs.Laws.{refusal_same}
use Rattle.card_writer.specs.Writing.{writing}
use Rattle.text_probes.specs.declared.scanning.Outline.{Outline}
use Rattle.text_probes.specs.Testing.{scanning}
use Rattle.text_probes.proofs.FaultWords.{refused_at_line}
use Rattle.text_import.specs.Importing.{kind_in, letters_in, words_in, ones_in, twos_in, Imports}
use Rattle.text_import.proofs.ImportingLaws.{importing_writes, text_refused}
use Rattle.text_probes.specs.Faults.{Empty, FirstAtFault}
use Rattle.text_import.proofs.RefusalNumbers.{writing_below}

module _ {limit : ℕ} {text before after : List ℕ} {r : Answer ℕ} (did : Imports limit text before r after) where
  -- on a refusal no byte of the output differs
  pub untouched : {n p : ℕ} → r ≡ refused n p → after ≡ before
  untouched said = rw (sym did.answer ∙ said) at did.bytes

  -- a text rule that is broken answers
  pub text_first : {n p : ℕ} → scanning text ≡ refused n p → r ≡ refused n p
  text_first e = did.answer ∙ text_refused limit text (length before) e

  -- and where none is, the writer answers, of the list's entries
  pub then_card : {s : Outline} → scanning text ≡ given s
      → r ≡ writing limit (kind_in text) (letters_in text) (words_in text) (ones_in text) (twos_in text) (length before)
  then_card e = did.answer ∙ importing_writes limit text (length before) e

  -- a number of the text rules is a text rule's
  pub text_number : {n p : ℕ} → Text ≤ n → r ≡ refused n p → scanning text ≡ refused n p
  text_number {n} {p} h said = go (scanning text) refl
    where
      go : (a : Answer Outline) → scanning text ≡ a → a ≡ refused n p
      go (refused q k) e = refusal_same (sym (text_first e) ∙ said)
      go (given s) e = absurd (omega (arith, writing_below _ _ _ _ _ _ _ (sym (then_card e) ∙ said)))

  -- "lowest line first, and in that order within a line"
  pub refused_line : {n p : ℕ} → Text ≤ n → (r ≡ refused n p) ↔ (Empty text n p ⊎ FirstAtFault text n p)
  refused_line {n} {p} h =
      let at-line = refused_at_line text n p in
      (λ said. at-line.0 (text_number h said), λ fault. text_first (at-line.1 fault))
