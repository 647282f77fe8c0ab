-- No test of building refuses by 30, so that it is the refusal of a width. Assumes nothing.
use mathlib.Core.Path.{◌≡◌}
use mathlib.Core.List.{List}
use Prim.Native.Nat.{ℕ, ◌<◌}
use native.Mathlib.Omega.{arith}
use Rattle.base_answers.specs.Numbers.{Wider}
use Rattle.base_answers.specs.Answer.{refused, first, sound}
use Rattle.base_answers.proofs.Only.{only_refused}
use Rattle.build_card.specs.Building.{build_tests}
use Rattle.build_card.proofs.CardLaws.{build_only}

module _ (limit : ℕ) (card : List ℕ) where
  pub building_below : (room : ℕ) {n p : ℕ} → first (build_tests limit card room) sound ≡ refused n p → n < Wider
  building_below room e = only_refused (build_only limit card room {P = λ n. n < Wider} (λ n above most. omega arith)) sound e
