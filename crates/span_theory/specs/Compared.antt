-- What demand 3 says of two outcomes, the first of a card that allows less: what the laws of the walk say. The demands say it of answers.
--   NoLaterIf o o'           == where both settle, the verdicts do as demand 3 says
--   Narrowed o o'            == where the second is settled as sole or none, so is the first
-- Assumes nothing.
use Rattle.std.specs.Prelude.{◌≡◌, ◌⊎◌, ℕ, ◌≤◌}
use Rattle.build_sequence.specs.Verdict.{sole, several, no_build, Outcome, settled, unsettled}
use Rattle.build_sequence.specs.Compared.{NoLater}

-- "If both settle, a build on the first means one on the second, alphabetically no later; several stays several."
abbrev pub NoLaterIf : Outcome → Outcome → Type 0
NoLaterIf (settled v n) (settled v' n') = NoLater v v'
NoLaterIf (settled v n) (unsettled n') = Unit {0}
NoLaterIf (unsettled n) o = Unit {0}

-- "If a budget settles the second as sole or none, it settles the first in no more placements, as none or that same sole sequence."
abbrev pub Narrowed : Outcome → Outcome → Type 0
Narrowed o (settled (sole s) n) = (m : ℕ) × ((o ≡ settled no_build m) ⊎ (o ≡ settled (sole s) m)) × (m ≤ n)
Narrowed o (settled (several s) n) = Unit {0}
Narrowed o (settled no_build n) = (m : ℕ) × (o ≡ settled no_build m) × (m ≤ n)
Narrowed o (unsettled n) = Unit {0}
