-- What a build is in the client's own words (demand 2). That it is the same as `Build` is proved.
--   Matches l es s       == the words of the sequence s, in order, match the entries es one to one, each at an allowed place
-- Assumes nothing.
use Rattle.std.specs.Prelude.{◌≡◌, true, List, ℕ, ◌+◌, length, take, drop}
use Rattle.base_lists.specs.Members.{Reordered}
use Rattle.base_lists.specs.At.{At}
use Rattle.card_entries.specs.declared.Entry.{Entry}
use Rattle.card_entries.specs.Entry.{allows}
use Rattle.build_sequence.specs.Build.{letters_of}

-- "a sequence whose words, in order, can be matched one to one with the card's entries, each at an allowed place counted from 0". The word at
-- the place j of a sequence is its l letters from j on
pub record Matches (l : ℕ) (es : List Entry) (s : List ℕ) : Type 0 where
  pub order : List Entry
  pub one_to_one : Reordered es order
  pub letters : length s + 1 ≡ length es + l
  pub matched : (j : ℕ) (e : Entry) → At j e order → (take l (drop j s) ≡ letters_of l e.word) × (allows e.places j ≡ true)
