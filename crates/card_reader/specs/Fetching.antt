-- What admitting a card, fetching an entry and a step of the reading head answer (01, "What can come back" and "The card, block by block"),
-- and what the steps list. Assumes nothing.
use Rattle.std.specs.Prelude.{◌≡◌, ℕ, ◌+◌, cond, List, [], ◌∷◌, ◌++◌, ltb, Option, Some, None, Result}
use Rattle.base_answers.specs.Numbers.{Absent}
use Rattle.base_answers.specs.Answer.{Answer, given, test, first, says_as}
use Rattle.card_entries.specs.declared.Format.{Format}
use Rattle.card_entries.specs.declared.Entry.{Entry}
use Rattle.base_answers.specs.declared.Refusal.{Refusal}
use Rattle.card_reader.specs.declared.Head.{Head}
use Rattle.card_layout.specs.Layout.{told_by, entry_at}
use Rattle.card_reader.specs.Reading.{reading_order}

-- "Admitting a card answers kind, l and m"
unfoldable pub admission : ℕ → List ℕ → Answer Format
admission limit card = first (reading_order limit card) (told_by card)

-- "Fetching an entry admits the card first, then tests 14."
unfoldable pub entry_fetch : ℕ → List ℕ → ℕ → Answer Entry
entry_fetch limit card i = first (reading_order limit card ++ (test (ltb i (told_by card).m) Absent 0 ∷ [])) (entry_at card i)

-- "hands back the entry with the head moved one on, or says the end is reached"
pub data Next : Type 0 where
  more : Entry → ℕ → Next
  end : Next

-- "a head at m or beyond, however it was made, gets the end"
unfoldable pub next_at : List ℕ → ℕ → Next
next_at card at = cond (ltb at (told_by card).m) (more (entry_at card at) (at + 1)) end

-- "A step is given the card too and admits it first, with the reader's refusals"
unfoldable pub stepping : ℕ → List ℕ → ℕ → Answer Next
stepping limit card at = first (reading_order limit card) (next_at card at)

abbrev pub next_of : Option (Entry × Head) → Next
next_of (Some (e, h)) = more e h.at
next_of None = end

abbrev pub says_stepped : Result (Option (Entry × Head)) Refusal → Answer Next
says_stepped = says_as next_of

-- from the head `at` the steps give these entries, one after the other, and then the end
pub data Lists (limit : ℕ) (card : List ℕ) : ℕ → List Entry → Type 0 where
  ends : {at : ℕ} → stepping limit card at ≡ given end → Lists limit card at []
  goes : {at next : ℕ} {e : Entry} {es : List Entry} → stepping limit card at ≡ given (more e next) → Lists limit card next es
      → Lists limit card at (e ∷ es)
