-- Entries that hold: what the reader, the writer and whoever builds ask of a card's format and its entries, each by itself (01, rows 5 to 7, 10,
-- 11 and 13). `limit` is the most entries that a card may have.
--   Hold limit f es                      == kind, l and m of the format f are within their bounds, es are m entries, and no entry has a fault
--   format_for kind l xs                  == the format of a card that has an entry for each member of xs
--   ListsHold limit f words ones twos    == three lists of one length have the entries of a card of the format f, and these hold
-- Assumes nothing.
use Rattle.std.specs.Prelude.{◌≡◌, true, List, ℕ, length}
use Rattle.base_lists.specs.At.{At}
use Rattle.base_answers.specs.Answer.{given, sound, first}
use Rattle.card_entries.specs.declared.Format.{Format}
use Rattle.card_entries.specs.declared.Slot.{Slot}
use Rattle.card_entries.specs.Slot.{entries_in}
use Rattle.card_entries.specs.Fault.{least_length, most_length, entry_tests}
use Rattle.card_entries.specs.Bounds.{least_entries, is_within, is_kind}

pub record Hold (limit : ℕ) (f : Format) (es : List Slot) : Type 0 where
  pub a_kind : is_kind f.kind ≡ true
  pub letters : is_within least_length most_length f.l ≡ true
  pub count : is_within least_entries limit f.m ≡ true
  pub all : length es ≡ f.m
  pub each : (e : ℕ) (s : Slot) → At e s es → first (entry_tests f e s) sound ≡ given sound

abbrev pub format_for : {A : Type 0} → ℕ → ℕ → List A → Format
format_for kind l xs = record { kind = kind; l = l; m = length xs }

-- not "the writer's three lists differ in length"
pub record ListsHold (limit : ℕ) (f : Format) (words ones twos : List ℕ) : Type 0 where
  pub as_ones : length ones ≡ length words
  pub as_twos : length twos ≡ length words
  pub hold : Hold limit f (entries_in words ones twos)
