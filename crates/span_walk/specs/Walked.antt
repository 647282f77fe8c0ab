-- What a walk over lists promises.
--   Walks l es budget r ws         == the answer r is right, with the words ws where it gives a build
-- Assumes nothing.
use Rattle.std.specs.Prelude.{List, ℕ}
use Rattle.card_entries.specs.declared.Slot.{Slot}
use Rattle.span_theory.specs.Settling.{span_entries, MeansSpan}
use Rattle.build_method.specs.declared.MethodAnswer.{MethodAnswer}
use Rattle.build_method.specs.Method.{Right}

abbrev pub Walks : ℕ → List Slot → ℕ → MethodAnswer → List ℕ → Type 0
Walks l es budget r ws = Right l (span_entries es) (MeansSpan l es budget) r ws
