-- Laws of lists that hold: they have no more words than a list of words that are found has room for, and as many words can be spelled.
-- Assumes nothing.
use mathlib.Core.Path.{◌≡◌}
use mathlib.Core.List.{List}
use Prim.Native.Nat.{ℕ, ◌≤◌}
use native.Mathlib.Omega.{arith}
use lib.ListN.{length, take}
use lib.Seq.{length-take-le}
use Rattle.card_entries.specs.declared.Format.{Format}
use Rattle.card_entries.specs.Bounds.{most_entries}
use Rattle.card_entries.specs.Hold.{ListsHold}
use Rattle.card_entries.proofs.HoldLaws.{hold_letters, hold_count, lists_count}
use Rattle.build_spelling.specs.Spelling.{Spells}

module _ {f : Format} {words ones twos : List ℕ} (h : ListsHold most_entries f words ones twos) where
  pub hold_few : length words ≤ most_entries
  hold_few = omega (arith, lists_count h, (hold_count h.hold).1)

  pub found_all : (found : List ℕ) → most_entries ≤ length found → length (take (length words) found) ≡ length words
  found_all found room = length-take-le _ _ (omega (arith, hold_few, room))

pub hold_spells : {f : Format} {words ones twos ws : List ℕ} → ListsHold most_entries f words ones twos → length ws ≡ length words
    → Spells f.l ws
hold_spells h e = record {
  some_letter = omega (arith, (hold_letters h.hold).0);
  few_letters = (hold_letters h.hold).1;
  some_word = omega (arith, e, lists_count h, (hold_count h.hold).0);
}
