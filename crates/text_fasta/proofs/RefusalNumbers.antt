-- Whatever writing or reading a record refuses by is above 0. Assumes nothing.
use mathlib.Core.Path.{◌≡◌}
use mathlib.Core.List.{List}
use Prim.Native.Nat.{ℕ, ◌<◌}
use native.Mathlib.Omega.{arith}
use Rattle.base_answers.specs.Numbers.{Room, Name, Letter, Line}
use Rattle.base_answers.specs.Answer.{refused}
use Rattle.base_answers.proofs.Only.{none, also, only_refused}
use Rattle.text_fasta.specs.Writing.{writing}
use Rattle.text_fasta.specs.Reading.{reading}

pub writing_number : (name ls : List ℕ) (room : ℕ) {n p : ℕ} → writing name ls room ≡ refused n p → 0 < n
unfolding writing
writing_number name ls room e =
    only_refused {P = λ n. 0 < n} (also {n = Name} (omega arith) (also {n = Letter} (omega arith) (also {n = Room} (omega arith) none))) _ e

pub reading_number : (r : List ℕ) (names letters : ℕ) {n p : ℕ} → reading r names letters ≡ refused n p → 0 < n
unfolding reading
reading_number r names letters e =
    only_refused {P = λ n. 0 < n} (also {n = Name} (omega arith) (also {n = Letter} (omega arith) (also {n = Line} (omega arith)
    (also {n = Room} (omega arith) (also {n = Room} (omega arith) none))))) _ e
