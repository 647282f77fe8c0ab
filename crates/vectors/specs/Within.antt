-- A card that was written stands within its output.
--   CardWithin room w   == what the writer answers, w, is a card of at most `room` bytes, or no card
--   Within room r       == the same of what reading lists and writing them comes to, r
-- Assumes nothing.
use Rattle.std.specs.Prelude.{ℕ, ◌≤◌, Option, Result, IfOk, IfSome}
use Rattle.base_answers.specs.declared.Refusal.{Refusal}

abbrev pub CardWithin : ℕ → Result ℕ Refusal → Type 0
CardWithin room w = IfOk w (λ n. n ≤ room)

abbrev pub Within : ℕ → Option (Result ℕ Refusal) → Type 0
Within room r = IfSome r (CardWithin room)
