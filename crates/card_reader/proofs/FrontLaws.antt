-- Bytes that are more than the longest card has: the first of them, one more than it has, are refused as all of them are. The tests before
-- 9 read block 0 alone, and where they hold 9 is due for both. Assumes nothing.
use mathlib.Core.Path.{◌≡◌, refl, sym, ap, ◌∙◌}
use mathlib.Core.Logic.{⊎_elim}
use mathlib.Core.List.{List, ◌++◌}
use Prim.Native.Nat.{ℕ, ◌+◌, ◌-◌, ◌<◌}
use native.Mathlib.Nat.{eq-zero-or-pos}
use native.Mathlib.Omega.{arith}
use lib.ListN.{length, take}
use lib.Seq.{take_all, length-take-le}
use borrow.Author.Tests.{le-leb}
use Rattle.base_answers.specs.Numbers.{Size}
use Rattle.base_answers.specs.Answer.{Answer, given, refused, Sound, sound, first}
use Rattle.base_answers.proofs.Laws.{first_pass}
use Rattle.card_block.specs.Block.{block_bytes, block_at, block_tests}
use Rattle.card_block.proofs.Laws.{block_front}
use Rattle.card_layout.specs.Layout.{format_of, told_by, size_of}
use Rattle.card_reader.specs.Reading.{field_tests, head_tests, reading_order}
use Rattle.card_reader.proofs.ReadingLaws.{head_has, reading_stops, size_wrong}

-- ---- more bytes than any card has

-- the refusal, by what block 0 gets
abbrev refusal_of : Answer Sound → Answer Sound
refusal_of (given s) = refused Size 0
refusal_of (refused n p) = refused n p

module _ (limit : ℕ) (card : List ℕ) (long : size_of limit < length card) where
  long_refused : first (reading_order limit card) sound ≡ refusal_of (first (head_tests limit card) sound)
  long_refused = go (first (head_tests limit card) sound) refl
    where
      go : (a : Answer Sound) → first (head_tests limit card) sound ≡ a → first (reading_order limit card) sound ≡ refusal_of a
      go (given sound) e = let few = (head_has limit card e).most in size_wrong limit card e (λ same. omega arith)
      go (refused n p) e = reading_stops limit card e

  -- 1, and block 0
  head_tests_lem : first (head_tests limit card) sound ≡ first (block_tests (block_at card 0) 0 ++ field_tests limit (block_at card 0)) sound
  unfolding head_tests
  head_tests_lem = first_pass _ _ _ _ _ (le-leb block_bytes (length card) (omega arith))

-- ---- bytes, and the first of them

-- the reader refuses both alike, and block 0 is the same
pub record Alike (limit : ℕ) (card other : List ℕ) : Type 0 where
  pub number : ℕ
  pub place : ℕ
  pub here : first (reading_order limit card) sound ≡ refused number place
  pub there : first (reading_order limit other) sound ≡ refused number place
  pub block : block_at other 0 ≡ block_at card 0

-- so that both tell the same format
pub alike_told : {limit : ℕ} {card other : List ℕ} → Alike limit card other → told_by card ≡ told_by other
alike_told a = ap format_of (sym a.block)

turned : {limit : ℕ} {card other : List ℕ} → Alike limit card other → Alike limit other card
turned a = record { number = a.number; place = a.place; here = a.there; there = a.here; block = sym a.block }

module _ (limit : ℕ) (card : List ℕ) where
  abbrev pub front : List ℕ
  front = take (size_of limit + 1) card

  module _ (long : size_of limit < length card) where
    front_long : size_of limit < length front
    front_long = omega (arith, length-take-le (size_of limit + 1) card (omega arith))

    same_block : block_at front 0 ≡ block_at card 0
    same_block = block_front (size_of limit + 1) card (omega arith)

    same_head : first (head_tests limit front) sound ≡ first (head_tests limit card) sound
    same_head =
        head_tests_lem limit front front_long
        ∙ ap (λ (b : List ℕ). first (block_tests b 0 ++ field_tests limit b) sound) same_block
        ∙ sym (head_tests_lem limit card long)

    same_order : first (reading_order limit front) sound ≡ first (reading_order limit card) sound
    same_order = long_refused limit front front_long ∙ ap refusal_of same_head ∙ sym (long_refused limit card long)

    front_alike : Alike limit card front
    front_alike = go (first (head_tests limit card) sound) (long_refused limit card long)
      where
        go : (a : Answer Sound) → first (reading_order limit card) sound ≡ refusal_of a → Alike limit card front
        go (given s) e = record { number = Size; place = 0; here = e; there = same_order ∙ e; block = same_block }
        go (refused n p) e = record { number = n; place = p; here = e; there = same_order ∙ e; block = same_block }

-- bytes of any number: what is so of the one of two that are alike is so of the first of them exactly if it is so of all of them
module _ (limit : ℕ) {Is : List ℕ → Type 0} (too : (card other : List ℕ) → Alike limit card other → Is card → Is other)
    (card : List ℕ) where
  pub enough : Is (front limit card) → Is card
  enough is =
      ⊎_elim (λ short. rw (take_all (size_of limit + 1) card (omega arith)) at is)
      (λ long. too (front limit card) card (turned (front_alike limit card (omega arith))) is) (eq-zero-or-pos (length card - size_of limit))

  pub needed : Is card → Is (front limit card)
  needed is =
      ⊎_elim (λ short. rw (take_all (size_of limit + 1) card (omega arith)) is)
      (λ long. too card (front limit card) (front_alike limit card (omega arith)) is) (eq-zero-or-pos (length card - size_of limit))
