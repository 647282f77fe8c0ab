-- Laws of the answer: by what is found, it is right. Assumes nothing.
use mathlib.Core.Path.{◌≡◌, refl}
use mathlib.Core.List.{List}
use Prim.Native.Nat.{ℕ, zero, suc}
use Rattle.std.specs.Prelude.{Option, Some, None}
use Rattle.card_entries.specs.declared.Slot.{Slot}
use Rattle.build_sequence.proofs.ManyLaws.{many_empty}
use Rattle.pair_theory.specs.Settling.{pair_entries, MeansPair, settles}
use Rattle.pair_method.specs.PairMethod.{Gives, answer_by}
use Rattle.build_method.specs.declared.MethodAnswer.{MethodAnswer}
use Rattle.build_method.specs.Method.{Right}

-- what is answered is right
pub found_right : {l : ℕ} {es : List Slot} {choices : Option ℕ} {ws : List ℕ} {r : MethodAnswer} → Gives l es choices ws
    → r ≡ answer_by choices
    → Right l (pair_entries es) (MeansPair l es) r ws
found_right {l} {es} {choices} {ws} given-words e = rw e (go choices given-words)
  where
    go : (o : Option ℕ) → Gives l es o ws → Right l (pair_entries es) (MeansPair l es) (answer_by o) ws
    go None g = record { means = settles (many_empty g.many); worded = λ none_is. absurd none_is }
    go (Some zero) g = record { means = settles (g.told 0 refl); worded = λ some_is. g.worded 0 refl }
    go (Some (suc k)) g = record { means = settles (g.told (suc k) refl); worded = λ some_is. g.worded (suc k) refl }
