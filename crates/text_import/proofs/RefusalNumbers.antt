-- The numbers by which importing refuses: each is above 0, and those of the rules of a card are below those of the rules of a text.
-- Assumes nothing.
use mathlib.Core.Path.{◌≡◌}
use mathlib.Core.List.{List}
use Prim.Native.Nat.{ℕ, ◌<◌}
use native.Mathlib.Omega.{arith}
use Rattle.base_answers.specs.Numbers.{Room, Text}
use Rattle.base_answers.specs.Answer.{refused}
use Rattle.base_answers.proofs.Only.{none, also, only_append, only_refused}
use Rattle.card_lists.proofs.Laws.{lists_only, lists_numbered}
use Rattle.card_writer.specs.Writing.{writing}
use Rattle.card_writer.proofs.RefusalNumbers.{writing_only}
use Rattle.text_probes.proofs.RefusalNumbers.{text_numbered}
use Rattle.text_import.specs.Importing.{kind_in, letters_in, words_in, ones_in, twos_in, importing}

-- whatever importing refuses by is above 0
pub importing_number : (limit : ℕ) (text : List ℕ) (room : ℕ) {n p : ℕ} → importing limit text room ≡ refused n p → 0 < n
unfolding importing
importing_number limit text room e =
    only_refused
    (only_append (text_numbered text)
    (only_append (lists_numbered limit (kind_in text) (letters_in text) (words_in text) (ones_in text) (twos_in text))
    (also {n = Room} (omega arith) none))) _ e

-- ---- the rules of a card

pub writing_below : (limit kind l : ℕ) (words ones twos : List ℕ) (room : ℕ) {n p : ℕ}
    → writing limit kind l words ones twos room ≡ refused n p → n < Text
writing_below limit kind l words ones twos room e =
    writing_only limit kind l words ones twos room {P = λ n. n < Text}
    (lists_only limit kind l words ones twos (omega arith) (omega arith) (omega arith) (omega arith) (omega arith) (omega arith)) (omega arith) e
