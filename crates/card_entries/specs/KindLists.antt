-- Lists that hold, of a card of either kind, as the methods take them: for inner contracts.
--   SpanLists l words ones twos      == the lists of a span card of words of l letters
--   PairLists l words ones twos      == the same of a pair card
-- Assumes nothing.
use Rattle.std.specs.Prelude.{List, ℕ}
use Rattle.card_entries.specs.Fault.{pair, span}
use Rattle.card_entries.specs.Bounds.{most_entries}
use Rattle.card_entries.specs.Hold.{format_for, ListsHold}

abbrev pub SpanLists : ℕ → List ℕ → List ℕ → List ℕ → Type 0
SpanLists l words ones twos = ListsHold most_entries (format_for span l words) words ones twos

abbrev pub PairLists : ℕ → List ℕ → List ℕ → List ℕ → Type 0
PairLists l words ones twos = ListsHold most_entries (format_for pair l words) words ones twos
