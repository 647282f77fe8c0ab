-- Making the list of a card that the method reads. No reader has to believe these.
--   with_entry card e w p q          == card with the word w and the places p and q of entry e, and place e with an empty list
--   HasEntries words ones twos card == card has the words and places of the entries
--   Entered words ones twos card    == and the lists of the places are empty
--   Linked before after             == after is before with the list of each place
-- Assumes nothing.
use Rattle.std.specs.Prelude.{◌≡◌, List, ℕ, ◌+◌, ◌*◌, ◌<◌, length, set}
use Rattle.pair_following.specs.Following.{nth, place_in, word_in, last_in, Links}
use Rattle.pair_method.specs.PairMethod.{second_of}

abbrev pub with_entry : List ℕ → ℕ → ℕ → ℕ → ℕ → List ℕ
with_entry card e w p q = set (set (set (set card (6 * e) p) (6 * e + 2) w) (6 * e + 3) q) (6 * e + 5) 0

pub record HasEntries (words ones twos card : List ℕ) : Type 0 where
  pub size : length card ≡ 6 * length words
  pub one : (e : ℕ) → e < length words → place_in card (2 * e) ≡ nth ones e
  pub two : (e : ℕ) → e < length words → place_in card (2 * e + 1) ≡ second_of (nth ones e) (nth twos e)
  pub word : (e : ℕ) → e < length words → word_in card e ≡ nth words e

pub record Entered (words ones twos card : List ℕ) : Type 0 where
  pub has : HasEntries words ones twos card
  pub empty : (t : ℕ) → t < length words → last_in card t ≡ 0

pub record Linked (before after : List ℕ) : Type 0 where
  pub size : length after ≡ length before
  pub places : (x : ℕ) → place_in after x ≡ place_in before x
  pub words : (e : ℕ) → word_in after e ≡ word_in before e
  pub links : Links after
