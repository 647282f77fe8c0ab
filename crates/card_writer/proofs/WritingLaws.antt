-- The laws of the writer's answers that this crate's proofs and the crates above cite. No contract cites this file. Assumes nothing.
use mathlib.Core.Path.{◌≡◌, refl, sym, ap, ◌∙◌}
use mathlib.Core.List.{List, [], ◌∷◌, ◌++◌}
use Prim.Native.Nat.{ℕ, ◌≤◌, ◌<◌}
use native.Mathlib.Omega.{arith}
use lib.ListN.{length, drop}
use lib.Dec.{leb}
use borrow.Author.Tests.{le-leb, lt-leb, leb-true}
use Rattle.base_answers.specs.Numbers.{Room}
use Rattle.base_answers.specs.Answer.{Answer, given, refused, sound, test, first}
use Rattle.base_answers.proofs.Laws.{first_fail, first_last, first_passed, first_holds, first_refused, first_both, first_value, told_holds, told_refused}
use Rattle.card_entries.specs.Slot.{slot_from}
use Rattle.card_layout.specs.Layout.{size_of}
use Rattle.card_layout.specs.Card.{card_of}
use Rattle.card_layout.proofs.CardLaws.{length_card}
use Rattle.card_lists.specs.Lists.{lists_tests}
use Rattle.card_entries.specs.Hold.{format_for, ListsHold}
use Rattle.card_lists.proofs.Laws.{lists_held, held_lists}
use Rattle.card_writer.specs.Writing.{writing, Writes}

-- ---- the three outcomes

module _ (limit kind l : ℕ) (words ones twos : List ℕ) (room : ℕ) where
  -- the tests of the lists answer, and then that of the room
  pub writing_is : writing limit kind l words ones twos room
      ≡ first (lists_tests limit kind l words ones twos ++ (test (leb (size_of (length words)) room) Room 0 ∷ [])) (size_of (length words))
  unfolding writing
  writing_is = refl

  -- lists that are refused are not written
  pub lists_stop : {n p : ℕ} → first (lists_tests limit kind l words ones twos) sound ≡ refused n p
      → writing limit kind l words ones twos room ≡ refused n p
  lists_stop e = writing_is ∙ first_refused _ _ (lists_tests limit kind l words ones twos) e

-- what the writer answers of lists that are accepted
module _ {limit kind l : ℕ} {words ones twos : List ℕ} (room : ℕ) (has : ListsHold limit (format_for kind l words) words ones twos) where
  room_refused : room < size_of (length words) → writing limit kind l words ones twos room ≡ refused Room 0
  unfolding writing
  room_refused h = first_holds _ _ (lists_tests limit kind l words ones twos) (held_lists has) ∙ first_fail _ _ _ _ _ (lt-leb _ _ h)

  pub card_given : size_of (length words) ≤ room → writing limit kind l words ones twos room ≡ given (size_of (length words))
  unfolding writing
  card_given h = first_holds _ _ (lists_tests limit kind l words ones twos) (held_lists has) ∙ first_last _ _ _ _ (le-leb _ _ h)

-- and what it leaves in the output
module _ {limit kind l : ℕ} {words ones twos before : List ℕ} where
  -- nothing is written where the answer is a refusal
  untouched : {n p : ℕ} → writing limit kind l words ones twos (length before) ≡ refused n p
      → Writes limit kind l words ones twos before (refused n p) before
  untouched e = record { answer = sym e; bytes = rw e }

  pub lists_refused : {n p : ℕ} → first (lists_tests limit kind l words ones twos) sound ≡ refused n p
      → Writes limit kind l words ones twos before (refused n p) before
  lists_refused e = untouched (lists_stop limit kind l words ones twos (length before) e)

  module _ (has : ListsHold limit (format_for kind l words) words ones twos) where
    pub no_room : length before < size_of (length words)
        → Writes limit kind l words ones twos before (refused Room 0) before
    no_room h = untouched (room_refused (length before) has h)

    pub card_written : {n : ℕ} {after : List ℕ} → n ≡ size_of (length words) → n ≤ length before
        → after ≡ card_of (format_for kind l words) (slot_from words ones twos) ++ drop n before
        → Writes limit kind l words ones twos before (given n) after
    card_written {n} {after} size h e =
        let says : writing limit kind l words ones twos (length before) ≡ given n =
        card_given (length before) has (omega arith) ∙ ap given (sym size) in
        let card = card_of (format_for kind l words) (slot_from words ones twos) in
        let long : n ≡ length card = size ∙ sym (length_card (format_for kind l words) (slot_from words ones twos)) in
        record { answer = sym says; bytes = rw says (e ∙ ap (λ (k : ℕ). card ++ drop k before) long) }

-- ---- what an answer says

module _ {limit kind l : ℕ} {words ones twos before after : List ℕ} {r : Answer ℕ} {n : ℕ}
    (did : Writes limit kind l words ones twos before r after) (said : r ≡ given n) where
  writing_said : writing limit kind l words ones twos (length before) ≡ given n
  writing_said = sym did.answer ∙ said

  pub wrote_accepted : ListsHold limit (format_for kind l words) words ones twos
  unfolding writing
  wrote_accepted =
      lists_held (first_both _ _ (lists_tests limit kind l words ones twos) _ writing_said).0

  pub wrote_room : size_of (length words) ≤ length before
  unfolding writing
  wrote_room = leb-true _ _ (first_passed _ _ _ _ _ _ (first_both _ _ (lists_tests limit kind l words ones twos) _ writing_said).1).0

  pub wrote_size : size_of (length words) ≡ n
  unfolding writing
  wrote_size = first_value _ (size_of (length words)) n writing_said

  pub wrote_bytes : after
      ≡ card_of (format_for kind l words) (slot_from words ones twos)
      ++ drop (length (card_of (format_for kind l words) (slot_from words ones twos))) before
  wrote_bytes = rw writing_said at did.bytes

-- of lists that are accepted: the room decides
module _ {limit kind l : ℕ} {words ones twos before after : List ℕ} {r : Answer ℕ}
    (did : Writes limit kind l words ones twos before r after) (has : ListsHold limit (format_for kind l words) words ones twos) where
  pub wrote_card : size_of (length words) ≤ length before
      → (r ≡ given (size_of (length words)))
      × (after
      ≡ card_of (format_for kind l words) (slot_from words ones twos)
      ++ drop (length (card_of (format_for kind l words) (slot_from words ones twos))) before)
  wrote_card h =
      let said = card_given (length before) has h in
      (did.answer ∙ said, rw said at did.bytes)

  pub wrote_nothing : length before < size_of (length words) → (r ≡ refused Room 0) × (after ≡ before)
  wrote_nothing h =
      let said = room_refused (length before) has h in
      (did.answer ∙ said, rw said at did.bytes)

-- ---- what the check applies by itself, to what the tests of the lists tell

pub ruleset tells = (told_holds, told_refused, lists_held, lists_refused, no_room, card_written)
