-- Settling has no budget to run out of: it never answers Unsettled, and its placements are 0. Assumes nothing.
use mathlib.Core.Path.{refl}
use mathlib.Core.List.{List}
use Prim.Native.Nat.{ℕ}
use Rattle.base_answers.specs.Answer.{Answer, given, Test}
use Rattle.card_entries.specs.declared.Slot.{Slot}
use Rattle.build_sequence.specs.Verdict.{sole, several, no_build, Outcome}
use Rattle.span_layers.specs.Settling.{MeansNarrow, settles}
use Rattle.build_card.specs.declared.BuildAnswer.{BuildAnswer}
use Rattle.build_card.specs.Building.{answer_of}
use Rattle.build_narrow.specs.Settling.{Settled, tells, refuses, SettlesInto, Unbudgeted}

means_unbudgeted : {l : ℕ} {es : List Slot} {o : Outcome} → MeansNarrow l es o → Unbudgeted (answer_of (given o))
means_unbudgeted (settles {v = sole s} _) = refl
means_unbudgeted (settles {v = several s} _) = refl
means_unbudgeted (settles {v = no_build} _) = refl

settled_unbudgeted : {ts : List Test} {kind l : ℕ} {es : List Slot} {a : Answer Outcome} → Settled ts kind l es a → Unbudgeted (answer_of a)
settled_unbudgeted (tells e m) = means_unbudgeted m
settled_unbudgeted (refuses e) = tt

pub settles_unbudgeted : {ts : List Test} {kind l : ℕ} {es : List Slot} {before after : List ℕ} {r : Answer BuildAnswer}
    → SettlesInto answer_of (Settled ts kind l es) before r after
    → Unbudgeted r
settles_unbudgeted c = rw c.answer (settled_unbudgeted c.says)
