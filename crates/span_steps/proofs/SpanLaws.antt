-- What a method needs of a card's lists: its spans rise, and its words are not the mark for no word. Assumes nothing.
use mathlib.Core.Path.{refl}
use mathlib.Core.List.{List}
use Prim.Native.Nat.{ℕ, ◌≤◌, ◌<◌}
use native.Mathlib.Omega.{arith}
use lib.ListN.{length, get_or}
use Rattle.card_entries.specs.Fault.{most_length}
use Rattle.build_sequence.proofs.LetterLaws.{words_bits}
use Rattle.card_entries.specs.KindLists.{SpanLists}
use Rattle.card_entries.proofs.HoldLaws.{few_letters, lists_fit, lists_spans}
use Rattle.card_entries.proofs.Laws.{span_says}
use Rattle.span_steps.specs.Steps.{no_word}

module _ {l : ℕ} {words ones twos : List ℕ} (card : SpanLists l words ones twos) where
  pub spans_rise : (e : ℕ) → e < length words → get_or ones e 0 ≤ get_or twos e 0
  spans_rise e h = (span_says (lists_spans card refl e h)).in_order

  pub words_below : (e : ℕ) → e < length words → get_or words e 0 < no_word
  words_below e h = omega (arith, lists_fit card e h, words_bits l most_length (few_letters card))
