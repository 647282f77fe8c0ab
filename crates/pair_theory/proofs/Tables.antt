-- P1 to P7 of 01, from the definitions through one statement over the list of tables: the verdicts are told by all arrangements. Assumes
-- nothing.
use mathlib.Core.Path.{◌≡◌, refl}
use mathlib.Core.List.{List, map}
use Rattle.card_entries.specs.Entry.{places_of, entry_of}
use Rattle.build_sequence.specs.Tables.{Table, stored_in, pair_tables, Told}
use Rattle.build_sequence.proofs.Tables.{map_agree, pairs_told}
use Rattle.pair_theory.specs.Settling.{pair_entries, settles}
use Rattle.pair_theory.specs.Tables.{Holds}

-- tables of pair entries, with no placements, whose verdicts are told hold
tables_hold : (ts : List Table) → map (λ t. pair_entries (stored_in t)) ts ≡ map (λ t. t.entries) ts
    → map (λ t. t.placements) ts ≡ map (λ t. 0) ts
    → Told ts
    → Holds ts
tables_hold ts as_pairs none told t h =
    let same : pair_entries (stored_in t) ≡ t.entries = map_agree (λ u. pair_entries (stored_in u)) (λ u. u.entries) h as_pairs in
    let zero : t.placements ≡ 0 = map_agree (λ u. u.placements) (λ u. 0) h none in
    (same, rw zero (settles {v = t.verdict} (rw same (told t h))))

pairs_stored : map (λ t. pair_entries (stored_in t)) pair_tables ≡ map (λ t. t.entries) pair_tables
unfolding entry_of places_of
pairs_stored = refl

pub pairs_hold : Holds pair_tables
pairs_hold = tables_hold pair_tables pairs_stored refl pairs_told
