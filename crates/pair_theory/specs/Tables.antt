-- The pair tables of 01: "Each P line holds at every budget".
--   Holds ts          == each table in ts is a pair table, and its verdict, with its placements, is what is answered
-- Assumes nothing.
use Rattle.std.specs.Prelude.{◌≡◌, List}
use Rattle.base_lists.specs.Members.{In}
use Rattle.build_sequence.specs.Verdict.{settled}
use Rattle.build_sequence.specs.Tables.{Table, stored_in}
use Rattle.pair_theory.specs.Settling.{pair_entries, MeansPair}

abbrev pub Holds : List Table → Type 0
Holds ts = (t : Table) → In t ts → (pair_entries (stored_in t) ≡ t.entries) × MeansPair 2 (stored_in t) (settled t.verdict t.placements)
