-- Whatever exporting refuses by is above 0. Assumes nothing.
use mathlib.Core.Path.{◌≡◌}
use mathlib.Core.List.{List}
use Prim.Native.Nat.{ℕ, ◌<◌}
use native.Mathlib.Omega.{arith}
use Rattle.base_answers.specs.Numbers.{Room}
use Rattle.base_answers.specs.Answer.{refused}
use Rattle.base_answers.proofs.Only.{none, also, only_append, only_refused}
use Rattle.card_reader.proofs.RefusalNumbers.{order_numbered}
use Rattle.text_export.specs.Exporting.{exporting}

pub exporting_number : (limit : ℕ) (card : List ℕ) (room : ℕ) {n p : ℕ} → exporting limit card room ≡ refused n p → 0 < n
unfolding exporting
exporting_number limit card room e = only_refused (only_append (order_numbered limit card) (also {n = Room} (omega arith) none)) _ e
