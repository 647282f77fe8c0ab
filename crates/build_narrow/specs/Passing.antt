-- Lists that settling refuses nothing of: what its inner functions ask. A reader of its contracts needs none of it.
--   PassesTests kind l words ones twos room == every test of settling these lists into an output of so many bytes holds
-- Assumes nothing.
use Rattle.std.specs.Prelude.{◌≡◌, List, ℕ}
use Rattle.base_answers.specs.Answer.{given, first, sound}
use Rattle.card_entries.specs.Slot.{entries_in}
use Rattle.card_entries.specs.Bounds.{most_entries}
use Rattle.build_narrow.specs.Settling.{lists_build_tests, settle_tests}

pub record PassesTests (kind l : ℕ) (words ones twos : List ℕ) (room : ℕ) : Type 0 where
  pub hold :
      first (settle_tests kind (entries_in words ones twos) (lists_build_tests most_entries kind l words ones twos room)) sound ≡ given sound
