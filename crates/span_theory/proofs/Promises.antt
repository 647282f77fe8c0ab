-- What is promised of the walk, over lists, for a reader: each statement is proved by a citation. What the words mean stands in specs/Walk
-- here, and in specs/Arrangement, specs/Build and specs/Verdict of `build_sequence`. Assumes nothing.
use mathlib.Core.List.{List, map}
use mathlib.Core.Logic.{◌↔◌}
use Prim.Native.Nat.{ℕ, ◌^◌, ◌<◌}
use lib.ListN.{length}
use Rattle.card_entries.specs.declared.Slot.{Slot}
use Rattle.base_lists.specs.Members.{In, Rising}
use Rattle.build_sequence.specs.Build.{spell, Build}
use Rattle.build_sequence.specs.Verdict.{Before}
use Rattle.span_theory.specs.Walk.{builds}
use Rattle.span_theory.specs.Settling.{span_entries}
use Rattle.span_theory.proofs.Paths.{path_build, build_path, paths_rising}

module _ (l : ℕ) (es : List Slot) where
  -- the completed paths of the walk spell exactly the builds, where there is an entry
  pub paths_are_builds : 0 < length es → (s : List ℕ) → In s (map (spell l) (builds l es)) ↔ Build l (span_entries es) s
  paths_are_builds some s = (path_build l es, build_path l es some)

  -- in alphabetical order, each once, where each word has l letters
  pub paths_rise : ((e : Slot) → In e es → e.word < 4 ^ l) → Rising Before (map (spell l) (builds l es))
  paths_rise fits = paths_rising l es fits
