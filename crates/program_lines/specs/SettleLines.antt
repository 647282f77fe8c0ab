-- What the program `settle` prints: the lines that `build` has, with what settling the card says. `limit` is the most entries that a card may
-- have.
--   SettleReports limit card bytes
--                            == what is printed for the card
-- Assumes nothing.
use Rattle.std.specs.Prelude.{List, ℕ}
use Rattle.build_narrow.specs.Settling.{OfCard}
use Rattle.program_lines.specs.Lines.{letters_room, ReportsBy}

abbrev pub SettleReports : ℕ → List ℕ → List ℕ → Type 0
SettleReports limit card bytes = ReportsBy (OfCard limit card (letters_room limit)) card bytes
