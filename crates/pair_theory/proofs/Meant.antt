-- What a pair card's answer means determines it, and on two cards, the second of which allows more, the answers are as demand 3 says.
-- Assumes nothing.
use mathlib.Core.Path.{◌≡◌, ap}
use mathlib.Core.List.{List}
use Prim.Native.Nat.{ℕ}
use Rattle.card_entries.specs.declared.Slot.{Slot}
use Rattle.base_lists.specs.Members.{Paired}
use Rattle.build_sequence.specs.Build.{Build}
use Rattle.build_sequence.specs.Verdict.{Verdict, Outcome, settled, Widens}
use Rattle.build_sequence.specs.Compared.{NoLater}
use Rattle.build_sequence.proofs.VerdictLaws.{tells_one}
use Rattle.build_sequence.proofs.WiderLaws.{verdict_wider}
use Rattle.pair_theory.specs.Settling.{pair_entries, MeansPair, settles}

-- two outcomes that are both true are one
pub means_one : {l : ℕ} {es : List Slot} {o o' : Outcome} → MeansPair l es o → MeansPair l es o' → o ≡ o'
means_one {l} {es} (settles {v} p) (settles {v = v'} q) =
    ap (λ (x : Verdict). settled x 0) (tells_one (Build l (pair_entries es)) v v' p q)

-- "a build on the first means one on the second, alphabetically no later; several stays several"
pub means_later : {l : ℕ} {es es' : List Slot} {v v' : Verdict} {n n' : ℕ} → Paired Widens (pair_entries es) (pair_entries es')
    → MeansPair l es (settled v n)
    → MeansPair l es' (settled v' n')
    → NoLater v v'
means_later {l} {v} {v'} pairs (settles p) (settles q) = verdict_wider l pairs v v' p q
