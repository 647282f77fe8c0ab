-- The span tables of 01 under a budget: "each S line at every budget not below its placements".
--   EachSettles ts    == each table in ts is a span table, and settles at every budget not below its placements, as it says
-- Assumes nothing.
use Rattle.std.specs.Prelude.{◌≡◌, List, ℕ, ◌≤◌}
use Rattle.base_lists.specs.Members.{In}
use Rattle.build_sequence.specs.Verdict.{settled}
use Rattle.build_sequence.specs.Tables.{Table, stored_in}
use Rattle.span_theory.specs.Settling.{span_entries, MeansSpan}

abbrev pub EachSettles : List Table → Type 0
EachSettles ts = (t : Table) → In t ts → (span_entries (stored_in t) ≡ t.entries)
    × ((budget : ℕ) → t.placements ≤ budget → MeansSpan 2 (stored_in t) budget (settled t.verdict t.placements))
