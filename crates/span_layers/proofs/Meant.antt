-- One outcome at most is true of a narrow card, and where the walk settles, it is the walk's. Assumes nothing.
use mathlib.Core.Path.{◌≡◌, ap}
use mathlib.Core.List.{List}
use Prim.Native.Nat.{ℕ}
use Rattle.card_entries.specs.declared.Slot.{Slot}
use Rattle.build_sequence.specs.Build.{Build}
use Rattle.build_sequence.specs.Verdict.{Verdict, Outcome, settled}
use Rattle.build_sequence.proofs.VerdictLaws.{tells_one}
use Rattle.span_theory.specs.Settling.{span_entries}
use Rattle.span_theory.specs.Settling as walking
use Rattle.span_layers.specs.Settling.{MeansNarrow, settles}

pub means_one : {l : ℕ} {es : List Slot} {o o' : Outcome} → MeansNarrow l es o → MeansNarrow l es o' → o ≡ o'
means_one {l} {es} (settles {v} p) (settles {v = v'} q) = ap (λ u. settled u 0) (tells_one (Build l (span_entries es)) v v' p q)

-- "Wherever build settles, the two agree in verdict and sequence."
pub means_agrees : {l k budget n : ℕ} {es : List Slot} {v v' : Verdict} → MeansNarrow l es (settled v k)
    → walking.MeansSpan l es budget (settled v' n)
    → v ≡ v'
means_agrees {l} {es} (settles {v} p) (walking.settles {v = v'} a b q) = tells_one (Build l (span_entries es)) v v' p q
