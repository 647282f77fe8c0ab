-- What a call of the recursive walk asks and promises: it makes the run over what the walk reaches from its place on, and undoes its marks.
--   Noted                                  == what the walk writes: the marks of the entries, and the words that stand, or those of the first
--                                             build
--   Call                                   == a call of the walk: what it reads, where it stands, and what is noted
--   Reader                                 == a reader of the definition: l, the first places, the word before, and the words before
--   Shows path placed state first r        == what the code keeps is the run r, after the words `path`
--   Stands tables marks i                  == before the place i is filled: no entry that is left ends before it, and each that is placed and
--                                             does not is in its list, so that those in its list tell which are placed
--   Ready call                             == a call is made where its entries stand so
--   Sought tables mask i want reader       == the card, the place and the words before it are those of the reader
--   reached tables reader marks i          == what the walk reaches from the place i on, to the reader
--   whole call reader r                    == the run r from the call on, to the reader
--   WentOn call now tally                  == what a call promises
-- Assumes nothing.
use Rattle.std.specs.Prelude.{◌≡◌, true, false, List, ◌++◌, map, ℕ, ◌+◌, ◌-◌, ◌^◌, ◌≤◌, ◌<◌, length, get_or, take}
use Rattle.std.proofs.Math.Option.{Option}
use Rattle.base_lists.specs.Members.{In}
use Rattle.span_theory.specs.Walk.{walk}
use Rattle.span_theory.specs.Run.{Run, searching, one, two, spent, out_of_budget, run}
use Rattle.span_memory.specs.declared.tally.Tally.{Tally}
use Rattle.card_entries.specs.KindLists.{SpanLists}
use Rattle.span_tables.specs.Spread.{most_numbered}
use Rattle.span_tables.specs.Prepared.{Prepared, list_at}
use Rattle.span_walk.specs.declared.Walking.{Walking}
use Rattle.span_steps.specs.Steps.{WalkTables, is_left, left, Wants}

pub record Noted : Type 0 where
  pub marks : List ℕ
  pub first : List ℕ

abbrev pub noted : List ℕ → List ℕ → Noted
noted marks first = record { marks = marks; first = first }

pub record Call : Type 0 where
  pub tables : WalkTables
  pub at : Walking
  pub notes : Noted

abbrev pub calling : WalkTables → Walking → Noted → Call
calling tables at notes = record { tables = tables; at = at; notes = notes }

pub record Reader : Type 0 where
  pub l : ℕ
  pub ones : List ℕ
  pub previous : Option ℕ
  pub path : List ℕ

-- the words that stand are kept while no build is complete, and then those of the first build
pub data Shows (path : List ℕ) : ℕ → ℕ → List ℕ → Run → Type 0 where
  none_yet : {n : ℕ} {first : List ℕ} → take (length path) first ≡ path → Shows path n 0 first (searching n)
  one_build : {n : ℕ} {first : List ℕ} → Shows path n 1 first (one first n)
  two_builds : {n : ℕ} {first : List ℕ} → Shows path n 2 first (two first n)
  stopped : {n : ℕ} {first : List ℕ} → Shows path n out_of_budget first spent

-- the same of what a reader knows and what is tallied
abbrev pub ShowsTo : Reader → Tally → List ℕ → Run → Type 0
ShowsTo reader tally first r = Shows reader.path tally.placed tally.builds first r

pub record Stands (tables : WalkTables) (marks : List ℕ) (i : ℕ) : Type 0 where
  pub past : (k : ℕ) → k < length tables.words → is_left marks k ≡ true → i ≤ get_or tables.twos k 0
  pub begun : i < length tables.words → (k : ℕ) → k < length tables.words → is_left marks k ≡ false → i ≤ get_or tables.twos k 0
      → In k (list_at tables.starts tables.slots i)

pub record Ready (call : Call) : Type 0 where
  pub ones : List ℕ
  pub prepared : Prepared call.tables.words ones call.tables.twos call.tables.starts call.tables.slots
  pub spans : (e : ℕ) → e < length call.tables.words → get_or ones e 0 ≤ get_or call.tables.twos e 0
  pub twos_all : length call.tables.twos ≡ length call.tables.words
  pub marks_room : length call.tables.words ≤ length call.notes.marks
  pub firsts_all : length call.notes.first ≡ length call.tables.words
  pub numbered : length call.tables.words < most_numbered
  pub inside : call.at.i ≤ length call.tables.words
  pub within : call.at.tally.placed ≤ call.at.budget
  pub few_builds : call.at.tally.builds ≤ 2
  pub going : call.at.i < length call.tables.words → call.at.tally.builds < 2
  pub stands : Stands call.tables call.notes.marks call.at.i

pub record Sought (tables : WalkTables) (mask i want : ℕ) (reader : Reader) : Type 0 where
  pub card : SpanLists reader.l tables.words reader.ones tables.twos
  pub prepared : Prepared tables.words reader.ones tables.twos tables.starts tables.slots
  pub masks : mask + 1 ≡ 4 ^ (reader.l - 1)
  pub wants : Wants reader.l i want reader.previous
  pub as_far : length reader.path ≡ i

abbrev pub SoughtBy : Call → Reader → Type 0
SoughtBy call reader = Sought call.tables call.at.mask call.at.i call.at.want reader

abbrev pub reached : WalkTables → Reader → List ℕ → ℕ → List (List ℕ)
reached tables reader marks i =
    walk reader.l (length tables.words - i) i reader.previous (left tables.words reader.ones tables.twos marks)

abbrev pub whole : Call → Reader → Run → Run
whole call reader r =
    run (length call.tables.words) call.at.budget r
    (map (λ ws. reader.path ++ ws) (reached call.tables reader call.notes.marks call.at.i))

pub record WentOn (call : Call) (now : Noted) (tally : Tally) : Type 0 where
  pub unmarked : now.marks ≡ call.notes.marks
  pub firsts : length now.first ≡ length call.notes.first
  pub within : tally.placed ≤ call.at.budget
  pub grows : call.at.tally.placed ≤ tally.placed
  pub runs : (reader : Reader) (r : Run) → SoughtBy call reader → ShowsTo reader call.at.tally call.notes.first r
      → ShowsTo reader tally now.first (whole call reader r)
