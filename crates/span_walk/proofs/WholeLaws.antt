-- The whole walk: where every entry is left and no word stands yet, the run of the code is the run of the definition, and what it comes to
-- means what it says. Assumes nothing.
use mathlib.Core.Path.{◌≡◌, refl, sym, ap, ◌∙◌}
use mathlib.Core.Bool.{true≢false}
use mathlib.Core.List.{List, [], ◌∷◌, ◌++◌, map}
use mathlib.Core.Option.{none}
use Prim.Native.Nat.{ℕ, ◌+◌, ◌-◌, ◌^◌, ◌≤◌}
use native.Mathlib.Omega.{arith}
use lib.ListN.{length, get_or, replicate, length-replicate, get_or-replicate}
use borrow.Author.Tests.{eq-eqb}
use Rattle.base_lists.proofs.RowLaws.{length_row}
use Rattle.card_entries.specs.declared.Slot.{Slot}
use Rattle.card_entries.specs.Slot.{slot_from, entries_in}
use Rattle.build_sequence.specs.Worded.{Worded}
use Rattle.span_theory.specs.Walk.{walk, walked}
use Rattle.span_theory.specs.Settling.{span_entries, MeansSpan}
use Rattle.span_theory.specs.Run.{Run, searching, run, come_to}
use Rattle.span_theory.proofs.WalkLaws.{walked_is}
use Rattle.span_theory.proofs.Meant.{outcome_means}
use Rattle.span_theory.proofs.Runs.{Keeps, keeps_one, keeps_two, run_answers, run_worded}
use Rattle.span_memory.specs.declared.tally.Tally.{Tally}
use Rattle.card_entries.specs.KindLists.{SpanLists}
use Rattle.card_entries.proofs.HoldLaws.{hold_of_kind, few_entries}
use Rattle.span_tables.specs.Prepared.{Prepared}
use Rattle.span_walk.specs.Steps.{walked_at}
use Rattle.span_steps.specs.Steps.{walk_tables, left, Unmarked, at_first}
use Rattle.span_walk.specs.Going.{Noted, noted, Call, calling, Shows, none_yet, one_build, two_builds, stopped, Ready, WentOn}
use Rattle.span_walk.specs.Walked.{Walks}
use Rattle.span_steps.proofs.SpanLaws.{spans_rise}
use Rattle.span_steps.proofs.LeftLaws.{left_every}

-- ---- every entry is left

-- a list of zeros marks nothing
pub zeros_unmarked : (n : ℕ) → Unmarked (replicate n 0)
zeros_unmarked n = record {
  each = λ k h. eq-eqb (get_or (replicate n 0) k 0) 0 (get_or-replicate {A = ℕ} n k 0 0 (omega (arith, length-replicate {A = ℕ} n 0)));
}

pub map_none : (reached : List (List ℕ)) → map (λ ws. [] ++ ws) reached ≡ reached
map_none [] = refl
map_none (ws ∷ reached) = ap (λ r. ws ∷ r) (map_none reached)

-- ---- the start of the walk

module _ {l : ℕ} {words ones twos starts slots marks : List ℕ} (card : SpanLists l words ones twos)
    (prepared : Prepared words ones twos starts slots)
    (unmarked : Unmarked marks)
    (marks_room : length words ≤ length marks) where
  -- the call at the first place
  abbrev first_call : ℕ → ℕ → List ℕ → Call
  first_call mask budget kept =
      calling (walk_tables words twos starts slots)
      (record { i = 0; want = 0; mask = mask; budget = budget; tally = record { placed = 0; builds = 0 } }) (noted marks kept)

  pub ready_first : {kept : List ℕ} (mask budget : ℕ) → length kept ≡ length words → Ready (first_call mask budget kept)
  ready_first mask budget kept_all = record {
    ones = ones;
    prepared = prepared;
    spans = spans_rise card;
    twos_all = card.as_twos;
    marks_room = marks_room;
    firsts_all = kept_all;
    numbered = omega (arith, few_entries card);
    inside = omega arith;
    within = omega arith;
    few_builds = omega arith;
    going = λ h. omega arith;
    stands = record {
      past = λ k h g. omega arith;
      begun = λ h k below marked lasts. absurd (true≢false (sym (unmarked.each k (omega arith)) ∙ marked));
    };
  }

  abbrev es : List Slot
  es = entries_in words ones twos

  entries_length : length es ≡ length words
  entries_length = length_row (slot_from words ones twos) 0 (length words)

  -- the run from the first place on is the run of the definition
  whole_run : (budget : ℕ)
      → run (length words) budget (searching 0) (map (λ ws. [] ++ ws) (walk l (length words - 0) 0 none (left words ones twos marks)))
      ≡ run (length es) budget (searching 0) (walked l es)
  whole_run budget =
      ap (run (length words) budget (searching 0)) (map_none (walk l (length words - 0) 0 none (left words ones twos marks)))
      ∙ ap (λ left_is. run (length words) budget (searching 0) (walk l (length words - 0) 0 none left_is))
      (left_every words ones twos unmarked marks_room)
      ∙ ap (λ n. run (length words) budget (searching 0) (walk l n 0 none es)) same
      ∙ ap (λ n. run n budget (searching 0) (walk l (length es) 0 none es)) (sym entries_length)
      ∙ ap (run (length es) budget (searching 0)) (sym (walked_is l es))
    where
      same : length words - 0 ≡ length es
      same = omega (arith, entries_length)

  module _ {kept : List ℕ} {now : Noted} {mask budget : ℕ} {tally : Tally} (masks : mask + 1 ≡ 4 ^ (l - 1))
      (went : WentOn (first_call mask budget kept) now tally) where
    -- what is kept at the end shows it
    shown : Shows [] tally.placed tally.builds now.first (run (length es) budget (searching 0) (walked l es))
    shown = rw (whole_run budget) at
        (went.runs (record { l = l; ones = ones; previous = none; path = [] }) (searching 0)
        (record { card = card; prepared = prepared; masks = masks; wants = at_first; as_far = refl }) (none_yet refl))

    -- and what the code answers means what it says
    pub whole_walk : Walks l es budget (walked_at budget tally.placed tally.builds) now.first
    whole_walk = go shown (rw (← run_answers l es budget) at (outcome_means (hold_of_kind card.hold refl) budget)) (run_worded l es budget)
      where
        go : {n s : ℕ} {ws : List ℕ} {r : Run} → Shows [] n s ws r → MeansSpan l es budget (come_to l budget r)
            → Keeps (Worded l (span_entries es)) r
            → Walks l es budget (walked_at budget n s) ws
        go (none_yet e) m k = record { means = m; worded = λ none_is. absurd none_is }
        go one_build m (keeps_one w) = record { means = m; worded = λ some_is. w }
        go two_builds m (keeps_two w) = record { means = m; worded = λ some_is. w }
        go stopped m k = record { means = m; worded = λ none_is. absurd none_is }
