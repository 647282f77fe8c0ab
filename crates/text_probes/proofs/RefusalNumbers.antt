-- By which numbers a text is refused. Assumes nothing.
use mathlib.Core.List.{List, []}
use Prim.Native.Nat.{ℕ}
use native.Mathlib.Omega.{arith}
use lib.ListN.{length, get_or, take}
use Rattle.base_answers.specs.Numbers.{Text, Mixed, Uneven, Zero}
use Rattle.base_answers.proofs.Only.{Only, Numbered, none, also, only_turns}
use Rattle.text_probes.specs.declared.scanning.Outline.{Outline}
use Rattle.text_probes.specs.Lines.{lines_of, lines_in}
use Rattle.text_probes.specs.Testing.{outline_of, said_tests, line_tests, text_tests}

module _ {P : ℕ → Type 0} (no_line : P Text) (mixed : P Mixed) (uneven : P Uneven) (zero : P Zero) where
  line_only : (s : Outline) (bs : List ℕ) → Only P (line_tests s bs)
  unfolding line_tests said_tests
  line_only s bs = also no_line (also mixed (also uneven (also zero none)))

  pub text_only : (text : List ℕ) → Only P (text_tests text)
  unfolding text_tests
  text_only text =
      also no_line (only_turns (λ e. line_only (outline_of (take e (lines_in text))) (get_or (lines_of text) e [])) 0 (length (lines_of text)))

-- each is above 0
pub text_numbered : (text : List ℕ) → Numbered (text_tests text)
text_numbered text = text_only (omega arith) (omega arith) (omega arith) (omega arith) text
