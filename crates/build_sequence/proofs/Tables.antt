-- The tables of 01, proved from the definitions through one statement over the list: their arrangements are enumerated, all in a single
-- computation. Assumes nothing.
use mathlib.Core.Path.{◌≡◌, refl}
use mathlib.Core.List.{List, map}
use Rattle.base_lists.specs.Members.{In, first, later}
use Rattle.build_sequence.specs.Arrangement.{overlaps}
use Rattle.build_sequence.specs.Verdict.{Verdict}
use Rattle.build_sequence.specs.Tables.{Table, pair_tables, span_tables, tables, Told}
use Rattle.base_lists.proofs.ListLaws.{in_append_left, in_append_right}
use Rattle.build_sequence.proofs.Enumerator.{sequences}
use Rattle.build_sequence.proofs.VerdictOf.{verdict_of, enumerated}

-- the verdict on a table's entries, by computation
abbrev pub decided : Table → Verdict
decided t = verdict_of (sequences 2 t.entries)

-- two maps that are one agree on each member
pub map_agree : {A B : Type 0} (f g : A → B) {x : A} {l : List A} → In x l → map f l ≡ map g l → f x ≡ g x
map_agree f g first e = cc
map_agree f g (later {xs} h) e = let others : map f xs ≡ map g xs = cc in map_agree f g h others

-- where the computed verdicts are those of the tables, each table is told
pub tables_told : (ts : List Table) → map decided ts ≡ map (λ t. t.verdict) ts → Told ts
tables_told ts e t h = rw (map_agree decided (λ u. u.verdict) h e) at (enumerated 2 t.entries)

all_decided : map decided tables ≡ map (λ t. t.verdict) tables
unfolding verdict_of sequences overlaps
all_decided = refl

-- the twelve tables
pub all_told : Told tables
all_told = tables_told tables all_decided

-- P1 to P7
pub pairs_told : Told pair_tables
pairs_told t h = all_told t (in_append_left span_tables h)

-- S1 to S5
pub spans_told : Told span_tables
spans_told t h = all_told t (in_append_right pair_tables h)
