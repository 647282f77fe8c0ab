-- What exporting refuses: what the reader does, and then, by 12, an output that is shorter than the list. Assumes nothing.
use mathlib.Core.Path.{◌≡◌, sym, ◌∙◌}
use mathlib.Core.List.{List}
use Prim.Native.Nat.{ℕ, ◌<◌}
use lib.ListN.{length}
use Rattle.base_answers.specs.Numbers.{Room}
use Rattle.base_answers.specs.Answer.{Answer, given, refused}
use Rattle.card_entries.specs.declared.Format.{Format}
use Rattle.card_reader.specs.Fetching.{admission}
use Rattle.text_export.specs.Exporting.{list_of, Exports}
use Rattle.text_export.proofs.ExportLaws.{card_refused, list_no_room}

module _ {limit : ℕ} {card before after : List ℕ} {r : Answer ℕ} (did : Exports limit card before r after) where
  -- on a refusal no byte of the output differs
  pub untouched : {n p : ℕ} → r ≡ refused n p → after ≡ before
  untouched said = rw (sym did.answer ∙ said) at did.bytes

  -- the reader's refusals come first
  pub reader_first : {n p : ℕ} → admission limit card ≡ refused n p → r ≡ refused n p
  reader_first e = did.answer ∙ card_refused limit card (length before) e

  pub then_room : {f : Format} → admission limit card ≡ given f → length before < length (list_of card) → r ≡ refused Room 0
  then_room admitted h = did.answer ∙ list_no_room limit card admitted (length before) h
