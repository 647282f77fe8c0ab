-- The goals of `card_reader::listing::fill` that the check leaves open; Invariants.antt says how it is met. Assumes nothing.
use borrow.Author.Rules.{rules}
use mathlib.Core.Path.{ap}
use native.Mathlib.Omega.{arith}
use Rattle.card_entries.specs.declared.Slot.{Slot}
use Rattle.card_reader.proofs.ListingLaws.{filled_turn}
use Rattle.card_reader.proofs.listing.fill.Goals as goal

pub loop-e-preserved : goal.loop-e-preserved
loop-e-preserved c =
    let so_far = c.loop-e.invariant in
    record {
      in_words = filled_turn _ _ _ (omega arith) so_far.in_words (ap (λ (s : Slot). s.word) c.slot_of-s.ensures);
      in_ones = filled_turn _ _ _ (omega arith) so_far.in_ones (ap (λ (s : Slot). s.one) c.slot_of-s.ensures);
      in_twos = filled_turn _ _ _ (omega arith) so_far.in_twos (ap (λ (s : Slot). s.two) c.slot_of-s.ensures);
      words_length = search rules;
      ones-length = search rules;
      twos-length = search rules;
    }
