-- Of two cards, the second of which allows more (demand 3), what their verdicts have to do with each other: what the laws of the walk and of the
-- method for pair cards say. The demands say it of answers.
--   NoLater v v'         == a build on the first means one on the second, no later, and several stays several
-- Assumes nothing.
use Rattle.std.specs.Prelude.{◌≡◌, ◌⊎◌}
use Rattle.build_sequence.specs.Verdict.{Before, Verdict, sole, several, no_build}

-- "a build on the first means one on the second, alphabetically no later; several stays several"
abbrev pub NoLater : Verdict → Verdict → Type 0
NoLater (sole s) (sole t) = t ≡ s
NoLater (sole s) (several t) = (t ≡ s) ⊎ Before t s
NoLater (sole s) no_build = ⊥
NoLater (several s) (sole t) = ⊥
NoLater (several s) (several t) = (t ≡ s) ⊎ Before t s
NoLater (several s) no_build = ⊥
NoLater no_build v = Unit {0}
