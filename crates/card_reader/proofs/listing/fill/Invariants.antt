-- `card_reader::listing::fill` meets its contract. The invariant: each list is filled with the entries that were read so far. Assumes nothing.
use mathlib.Core.Path.{◌≡◌}
use mathlib.Core.List.{List}
use Prim.Native.Nat.{ℕ}
use lib.ListN.{length}
use Rattle.card_layout.specs.Layout.{slot_of}
use Rattle.card_reader.specs.Listing.{filled}
use Rattle.card_reader.proofs.listing.fill.Given as goal

module _ (card : List ℕ) (words₀ ones₀ twos₀ : List ℕ) where
  -- the first e entries stand in the three lists
  pub record Reached (words ones twos : List ℕ) (e : ℕ) : Type 0 where
    pub in_words : words ≡ filled (λ i. (slot_of card i).word) e words₀
    pub in_ones : ones ≡ filled (λ i. (slot_of card i).one) e ones₀
    pub in_twos : twos ≡ filled (λ i. (slot_of card i).two) e twos₀
    pub words_length : length words ≡ length words₀
    pub ones-length : length ones ≡ length ones₀
    pub twos-length : length twos ≡ length twos₀

abbrev pub invariant-loop-e : goal.invariant-loop-e
invariant-loop-e l = Reached l.card l.initial.words l.initial.ones l.initial.twos l.words l.ones l.twos l.e
