-- The laws of the blocks that this crate's proofs and the crates above cite. No contract cites this file. Assumes nothing.
use mathlib.Core.Path.{◌≡◌, refl, sym, ap, ◌∙◌}
use mathlib.Core.Logic.{◌↔◌}
use mathlib.Core.Bool.{true}
use mathlib.Core.List.{List, [], ◌∷◌, ◌++◌}
use Prim.Native.Nat.{ℕ, zero, suc, ◌+◌, ◌*◌, ◌-◌, ◌≤◌, ◌<◌}
use native.Mathlib.Nat.{add-sub_cancel_left}
use native.Mathlib.Omega.{arith}
use lib.ListN.{length, take, drop, length-take, length-drop, take-append-drop, drop_of_length-le}
use lib.Seq.{take_at, take-take, drop_at, drop-drop, get_or-drop}
use lib.Dec.{eqb}
use borrow.Author.Tests.{le-leb, lt-leb, leb-true, eq-eqb}
use Rattle.base_answers.specs.Numbers.{Check, Index, Absent}
use Rattle.base_answers.specs.Answer.{Answer, given, refused, Sound, sound, Test, test, first}
use Rattle.base_lists.specs.Row.{in_turn}
use Rattle.base_answers.proofs.Laws.{first_pass, first_fail, first_last, first_passed, first_holds, first_refused, first_given_any, first_refused_any}
use Rattle.base_answers.proofs.Only.{Only, Numbered, none, also}
use Rattle.base_lists.proofs.RowLaws.{turns_none, turns_first}
use Rattle.card_block.specs.Bytes.{AreBytes}
use Rattle.card_block.specs.Check.{checks}
use Rattle.card_block.specs.Block.{block_bytes, block_at, index_of, block_tests, fetch_tests, part_of, fetch_of, place_of, start_of, offset_of}

-- ---- a block

module _ (b : List ℕ) (k : ℕ) where
  pub block_sound : checks b ≡ true → index_of b ≡ k → first (block_tests b k) sound ≡ given sound
  unfolding block_tests
  block_sound h i =
      first_pass (checks b) Check k (test (eqb (index_of b) k) Index k ∷ []) sound h
      ∙ first_last (eqb (index_of b) k) Index k sound (eq-eqb (index_of b) k i)

  -- by which numbers they refuse
  pub block_only : {P : ℕ → Type 0} → P Check → P Index → Only P (block_tests b k)
  unfolding block_tests
  block_only check index = also check (also index none)

-- the block of a card put together from parts
pub block_in_place : (p b q : List ℕ) (k : ℕ) → length p ≡ block_bytes * k → length b ≡ block_bytes → block_at (p ++ (b ++ q)) k ≡ b
unfolding block_at
block_in_place p b q k hp hb = rw (drop_at p (b ++ q) (block_bytes * k) hp, take_at b q block_bytes hb)

-- block 0 is of the first bytes of a card
pub block_front : (n : ℕ) (card : List ℕ) → block_bytes ≤ n → block_at (take n card) 0 ≡ block_at card 0
unfolding block_at
block_front n card h = take-take block_bytes n card h

-- the first of some bytes are bytes
pub take_bytes : (n : ℕ) (xs : List ℕ) → AreBytes xs → AreBytes (take n xs)
take_bytes zero xs bytes i = omega arith
take_bytes (suc n) [] bytes i = omega arith
take_bytes (suc n) (x ∷ xs) bytes zero = bytes 0
take_bytes (suc n) (x ∷ xs) bytes (suc i) = take_bytes n xs (λ j. bytes (suc j)) i

-- a card's blocks are its bytes
module _ (card : List ℕ) where
  -- a block, and what stands after it
  block_then_rest : (k : ℕ) → block_at card k ++ drop (block_bytes * suc k) card ≡ drop (block_bytes * k) card
  unfolding block_at
  block_then_rest k =
      let next : block_bytes * suc k ≡ block_bytes * k + block_bytes = omega arith in
      rw next (ap (λ (xs : List ℕ). block_at card k ++ xs) (sym (drop-drop block_bytes (block_bytes * k) card)))
      ∙ take-append-drop block_bytes (drop (block_bytes * k) card)

  blocks_from : (n k : ℕ) → length card ≡ block_bytes * (k + n) → in_turn (block_at card) k n ≡ drop (block_bytes * k) card
  blocks_from zero k h = turns_none (block_at card) k ∙ sym (drop_of_length-le card {i = block_bytes * k} (omega arith))
  blocks_from (suc n) k h =
      turns_first (block_at card) k n
      ∙ ap (λ (xs : List ℕ). block_at card k ++ xs) (blocks_from n (suc k) (omega arith))
      ∙ block_then_rest k

  pub blocks_all : (n : ℕ) → length card ≡ block_bytes * n → in_turn (block_at card) 0 n ≡ card
  blocks_all n h = blocks_from n 0 (omega arith)

  -- every byte of a block is below 256 where every byte of the card is
  pub block_bytes_lem : AreBytes card → (k : ℕ) → AreBytes (block_at card k)
  unfolding block_at
  block_bytes_lem bytes k =
      let at : ℕ = block_bytes * k in
      take_bytes block_bytes (drop at card) (λ i. rw (get_or-drop at card i 0) (bytes (at + i)))

-- ---- a block of a card

module _ (card : List ℕ) (k : ℕ) where
  -- a block that is not all there
  pub absent : length card < block_bytes * k + block_bytes → first (fetch_tests card k) sound ≡ refused Absent 0
  unfolding fetch_tests
  absent h = first_fail _ _ _ _ _ (lt-leb _ _ h)

  -- of one that is, the answer is the block's own
  pub present : {A : Type 0} (a : A) → block_bytes * k + block_bytes ≤ length card
      → first (fetch_tests card k) a ≡ first (block_tests (block_at card k) k) a
  unfolding fetch_tests
  present a h = first_pass _ _ _ _ _ (le-leb _ _ h)

  -- each test refuses by a number above 0
  pub fetch_numbered : Numbered (fetch_tests card k)
  unfolding fetch_tests
  fetch_numbered = also {n = Absent} (omega arith) (block_only (block_at card k) k (omega arith) (omega arith))

  -- a block that holds is all there
  pub holds_there : {A : Type 0} (a b : A) → first (fetch_tests card k) a ≡ given b → block_bytes * k + block_bytes ≤ length card
  unfolding fetch_tests
  holds_there a b e = leb-true _ _ (first_passed _ _ _ _ _ _ e).0

  -- a block that is all there has 512 bytes
  pub block_length : block_bytes * k + block_bytes ≤ length card → length (block_at card k) ≡ block_bytes
  unfolding block_at
  block_length h = simp (length-take, length-drop) (omega arith)

  -- the part from 512 k to 512 k + 512, as the code takes it
  pub part_is : take (block_bytes * k + block_bytes - block_bytes * k) (drop (block_bytes * k) card) ≡ block_at card k
  unfolding block_at
  part_is = rw (add-sub_cancel_left (block_bytes * k) block_bytes)

  -- ---- what a fetch hands back

  -- the block where the companion's tests hold
  pub fetch_holds : first (fetch_tests card k) sound ≡ given sound → fetch_of card k ≡ block_at card k
  unfolding fetch_of
  fetch_holds e = ap part_of (first_given_any (fetch_tests card k) sound sound (block_at card k) e)

  -- which is 512 bytes long
  pub fetch_length : first (fetch_tests card k) sound ≡ given sound → length (fetch_of card k) ≡ block_bytes
  fetch_length e = ap length (fetch_holds e) ∙ block_length (holds_there sound sound e)

  -- nothing where it is refused
  pub fetch_refused : {n p : ℕ} → first (fetch_tests card k) sound ≡ refused n p → fetch_of card k ≡ []
  unfolding fetch_of
  fetch_refused e = ap part_of (first_refused_any (fetch_tests card k) sound (block_at card k) e)

  -- where the part stands: the block's own place, or the card's where there is none
  pub place_holds : (p : ℕ × ℕ) → first (fetch_tests card k) sound ≡ given sound → place_of p card k ≡ start_of p (block_bytes * k)
  unfolding place_of
  place_holds p e = ap (λ r. start_of p (offset_of r)) (first_given_any (fetch_tests card k) sound sound (block_bytes * k) e)

  pub place_refused : (p : ℕ × ℕ) {n q : ℕ} → first (fetch_tests card k) sound ≡ refused n q → place_of p card k ≡ p
  unfolding place_of
  place_refused p e =
      let z : 0 + p.1 ≡ p.1 = omega arith in
      ap (λ r. start_of p (offset_of r)) (first_refused_any (fetch_tests card k) sound (block_bytes * k) e) ∙ ap (λ (at : ℕ). (p.0, at)) z

  -- "the part is empty exactly when the companion refuses"
  pub empty_refused : (fetch_of card k ≡ []) ↔ (first (fetch_tests card k) sound ≡ given sound → ⊥)
  empty_refused = (λ e h. omega (arith, ap length e, fetch_length h), λ h. go h (first (fetch_tests card k) sound) refl)
    where
      go : (first (fetch_tests card k) sound ≡ given sound → ⊥) → (r : Answer Sound) → first (fetch_tests card k) sound ≡ r
          → fetch_of card k ≡ []
      go h (given sound) q = absurd (h q)
      go h (refused n p) q = fetch_refused q

  -- ---- a part that was fetched, by its length

  module _ {part : List ℕ} (e : part ≡ fetch_of card k) where
    -- where it is empty the companion refuses
    pub part_none : length part ≡ 0 → first (fetch_tests card k) sound ≡ given sound → ⊥
    part_none z h = omega (arith, ap length e, fetch_length h)

    module _ (some : length part ≡ 0 → ⊥) where
      -- where it is not the companion holds
      pub part_holds : first (fetch_tests card k) sound ≡ given sound
      part_holds = go (first (fetch_tests card k) sound) refl
        where
          go : (r : Answer Sound) → first (fetch_tests card k) sound ≡ r → first (fetch_tests card k) sound ≡ given sound
          go (given sound) q = q
          go (refused n p) q = absurd (some (ap length (e ∙ fetch_refused q)))

      -- and it is the block, all 512 bytes of it
      pub part_block : part ≡ block_at card k
      part_block = e ∙ fetch_holds part_holds

      pub part_length : length part ≡ block_bytes
      part_length = ap length e ∙ fetch_length part_holds

  -- ---- the tests of a block that is all there, before other tests `more`

  module _ (there : block_bytes * k + block_bytes ≤ length card) (more : List Test) where
    -- where the companion refuses, its refusal is the answer
    pub block_refused : (first (fetch_tests card k) sound ≡ given sound → ⊥)
        → first (block_tests (block_at card k) k ++ more) sound ≡ first (fetch_tests card k) sound
    block_refused refuses = go (first (fetch_tests card k) sound) refl
      where
        go : (r : Answer Sound) → first (fetch_tests card k) sound ≡ r → first (block_tests (block_at card k) k ++ more) sound ≡ r
        go (given sound) q = absurd (refuses q)
        go (refused n p) q = first_refused more sound (block_tests (block_at card k) k) (sym (present sound there) ∙ q)

    -- where it holds the later tests answer
    pub block_held : {A : Type 0} (a : A) → first (fetch_tests card k) sound ≡ given sound
        → first (block_tests (block_at card k) k ++ more) a ≡ first more a
    block_held a e = first_holds more a (block_tests (block_at card k) k) (sym (present sound there) ∙ e)
