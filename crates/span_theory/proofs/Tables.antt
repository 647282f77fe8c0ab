-- S1 to S5 of 01, from the definitions through one statement over the list of tables: the verdicts are told by all arrangements, and the
-- placements are the walk's, all in a single computation. Assumes nothing.
use mathlib.Core.Path.{◌≡◌, refl, sym}
use mathlib.Core.List.{List, map, flat_map}
use native.Mathlib.Omega.{arith}
use Rattle.card_entries.specs.Entry.{places_of, entry_of}
use Rattle.build_sequence.specs.Arrangement.{overlaps}
use Rattle.build_sequence.specs.Verdict.{unsettled}
use Rattle.build_sequence.specs.Tables.{Table, stored_in, span_tables, Told, s1}
use Rattle.build_sequence.proofs.Tables.{map_agree, spans_told}
use Rattle.span_theory.specs.Walk.{placements}
use Rattle.span_theory.specs.Settling.{span_entries, MeansSpan, settles, goes_on}
use Rattle.span_theory.specs.Tables.{EachSettles}

-- tables of span entries whose verdicts are told settle with the placements of their walk
pub tables_settle : (ts : List Table) → map (λ t. span_entries (stored_in t)) ts ≡ map (λ t. t.entries) ts
    → map (λ t. placements 2 (stored_in t)) ts ≡ map (λ t. t.placements) ts
    → Told ts
    → EachSettles ts
tables_settle ts as_spans walks told t h =
    let same : span_entries (stored_in t) ≡ t.entries = map_agree (λ u. span_entries (stored_in u)) (λ u. u.entries) h as_spans in
    let count : placements 2 (stored_in t) ≡ t.placements = map_agree (λ u. placements 2 (stored_in u)) (λ u. u.placements) h walks in
    (same, λ budget g. settles {v = t.verdict} (sym count) g (rw same (told t h)))

spans_stored : map (λ t. span_entries (stored_in t)) span_tables ≡ map (λ t. t.entries) span_tables
unfolding entry_of places_of
spans_stored = refl

spans_walk : map (λ t. placements 2 (stored_in t)) span_tables ≡ map (λ t. t.placements) span_tables
unfolding placements flat_map overlaps
spans_walk = refl

pub spans_settle : EachSettles span_tables
spans_settle = tables_settle span_tables spans_stored spans_walk spans_told

-- "budget 7 gives Unsettled"
s1_walk : placements 2 (stored_in s1) ≡ 8
unfolding placements flat_map overlaps
s1_walk = refl

pub s1_unsettled : MeansSpan 2 (stored_in s1) 7 (unsettled 7)
s1_unsettled = goes_on refl (omega (arith, s1_walk))
