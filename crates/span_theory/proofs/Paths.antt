-- The completed paths of the walk, as the sequences that they spell: they are the builds of the card, each once, in alphabetical order.
-- Assumes nothing.
use mathlib.Core.List.{List, [], ◌∷◌, map}
use Prim.Native.Nat.{ℕ, ◌^◌, ◌<◌}
use lib.ListN.{length}
use Rattle.card_entries.specs.declared.Slot.{Slot}
use Rattle.base_lists.specs.Members.{In, first, later, Rising, flat, rises}
use Rattle.build_sequence.specs.Build.{spell, Build}
use Rattle.build_sequence.specs.Verdict.{Before}
use Rattle.base_lists.proofs.ListLaws.{in_map, map_in}
use Rattle.span_theory.specs.Walk.{builds}
use Rattle.span_theory.specs.Settling.{span_entries}
use Rattle.span_theory.proofs.Builds.{Complete, build_complete, complete_build, builds_sound, builds_complete, builds_rising}
use Rattle.span_theory.proofs.Chains.{complete_before}

module _ (l : ℕ) (es : List Slot) where
  pub path_build : {s : List ℕ} → In s (map (spell l) (builds l es)) → Build l (span_entries es) s
  path_build h = let u = in_map (spell l) (builds l es) h in rw u.2 (complete_build (builds_sound l es u.1))

  pub build_path : {s : List ℕ} → 0 < length es → Build l (span_entries es) s → In s (map (spell l) (builds l es))
  build_path some b = let u = build_complete b in rw u.2 (map_in (spell l) (builds_complete l es some u.1))

module _ (l : ℕ) (es : List Slot) (fits : (e : Slot) → In e es → e.word < 4 ^ l) where
  spelled_rise : (bs : List (List ℕ)) → ((ws : List ℕ) → In ws bs → Complete l es ws) → Rising Before bs
      → Rising Before (map (spell l) bs)
  spelled_rise [] sound flat = flat
  spelled_rise (ws ∷ bs) sound (rises up r) =
      rises {x = spell l ws} (λ t h. let u = in_map (spell l) bs h in
      rw u.2 (complete_before fits (sound ws first) (sound u.0 (later u.1)) (up u.0 u.1)))
      (spelled_rise bs (λ vs h. sound vs (later h)) r)

  pub paths_rising : Rising Before (map (spell l) (builds l es))
  paths_rising = spelled_rise (builds l es) (λ ws h. builds_sound l es h) (builds_rising l es)
