-- The laws of the lists' tests that this crate's proofs and the crates above cite: what each test that fails answers, what lists that hold
-- have (`ListsHold`, in both directions), and that no refusal has the number 0. No contract cites this file. Assumes nothing.
use mathlib.Core.Path.{◌≡◌, sym, ◌∙◌}
use mathlib.Core.Bool.{true, false}
use mathlib.Core.List.{List}
use Prim.Native.Nat.{ℕ, ◌+◌, ◌^◌, ◌<◌}
use native.Mathlib.Omega.{arith}
use lib.ListN.{length}
use lib.Dec.{eqb}
use borrow.Author.Tests.{eq-eqb, eqb-true}
use Rattle.base_answers.specs.Numbers.{Kind, WordLength, Lists, Count, Word, Places}
use Rattle.base_answers.specs.Answer.{given, refused, sound, first}
use Rattle.base_lists.specs.Row.{in_turn}
use Rattle.base_answers.proofs.Laws.{first_pass, first_fail, first_passed, turns_hold, turns_held}
use Rattle.base_answers.proofs.Only.{Only, Numbered, also, holds, only_turns, only_within}
use Rattle.base_lists.proofs.TestLaws.{both}
use Rattle.card_entries.specs.Slot.{slot_from}
use Rattle.card_entries.specs.Fault.{least_length, most_length, entry_tests}
use Rattle.card_entries.proofs.Laws.{entry_only, fit_only as entry-fit}
use Rattle.card_entries.specs.Bounds.{least_entries, is_within, is_kind}
use Rattle.card_entries.specs.Hold.{format_for, ListsHold}
use Rattle.card_entries.proofs.HoldLaws.{row_holds, lists_each}
use Rattle.card_lists.specs.Lists.{same_length, lists_tests}

-- ---- three lengths

module _ (words ones twos : List ℕ) where
  -- what holds where they are the same
  pub lengths_same : same_length words ones twos ≡ true → (length words ≡ length ones) × (length words ≡ length twos)
  lengths_same h =
      let parts = both (eqb (length words) (length ones)) (eqb (length words) (length twos)) h in
      (eqb-true (length words) (length ones) parts.0, eqb-true (length words) (length twos) parts.1)

-- ---- the lists

module _ (limit kind l : ℕ) (words ones twos : List ℕ) where
  pub kind_wrong : is_kind kind ≡ false → first (lists_tests limit kind l words ones twos) sound ≡ refused Kind 0
  unfolding lists_tests
  kind_wrong h = first_fail _ _ _ _ _ h

  module _ (Kind-ok : is_kind kind ≡ true) where
    pub length_wrong : is_within least_length most_length l ≡ false → first (lists_tests limit kind l words ones twos) sound ≡ refused WordLength 0
    unfolding lists_tests
    length_wrong h = first_pass _ _ _ _ _ Kind-ok ∙ first_fail _ _ _ _ _ h

    module _ (letters : is_within least_length most_length l ≡ true) where
      pub lists_wrong : same_length words ones twos ≡ false → first (lists_tests limit kind l words ones twos) sound ≡ refused Lists 0
      unfolding lists_tests
      lists_wrong h = first_pass _ _ _ _ _ Kind-ok ∙ first_pass _ _ _ _ _ letters ∙ first_fail _ _ _ _ _ h

      module _ (same : same_length words ones twos ≡ true) where
        pub count_wrong : is_within least_entries limit (length words) ≡ false
            → first (lists_tests limit kind l words ones twos) sound ≡ refused Count 0
        unfolding lists_tests
        count_wrong h =
            first_pass _ _ _ _ _ Kind-ok ∙ first_pass _ _ _ _ _ letters ∙ first_pass _ _ _ _ _ same ∙ first_fail _ _ _ _ _ h

        -- then the entries answer
        pub lists_go_on : is_within least_entries limit (length words) ≡ true
            → first (in_turn (λ e. entry_tests (format_for kind l words) e (slot_from words ones twos e)) 0 (length words)) sound
            ≡ first (lists_tests limit kind l words ones twos) sound
        unfolding lists_tests
        lists_go_on h =
            sym
            (first_pass _ _ _ _ _ Kind-ok ∙ first_pass _ _ _ _ _ letters ∙ first_pass _ _ _ _ _ same ∙ first_pass _ _ _ _ _ h)

-- the tests hold exactly where the lists do
module _ {limit kind l : ℕ} {words ones twos : List ℕ} where
  pub lists_held : first (lists_tests limit kind l words ones twos) sound ≡ given sound
      → ListsHold limit (format_for kind l words) words ones twos
  unfolding lists_tests
  lists_held e =
      let a_kind = first_passed _ _ _ _ _ _ e in
      let letters = first_passed _ _ _ _ _ _ a_kind.1 in
      let lists = first_passed _ _ _ _ _ _ letters.1 in
      let count = first_passed _ _ _ _ _ _ lists.1 in
      let same = lengths_same words ones twos lists.0 in
      record {
        as_ones = sym same.0;
        as_twos = sym same.1;
        hold = row_holds (format_for kind l words) (slot_from words ones twos) a_kind.0 letters.0 count.0 (λ i h.
            let here : 0 + i ≡ i = omega arith in
            rw here at (turns_held (λ j. entry_tests (format_for kind l words) j (slot_from words ones twos j)) (length words) 0 i
            count.1 h));
      }

  pub held_lists : ListsHold limit (format_for kind l words) words ones twos
      → first (lists_tests limit kind l words ones twos) sound ≡ given sound
  held_lists has =
      let same : same_length words ones twos ≡ true =
      rw (eq-eqb (length words) (length ones) (sym has.as_ones)) (eq-eqb (length words) (length twos) (sym has.as_twos)) in
      sym (lists_go_on limit kind l words ones twos has.hold.a_kind has.hold.letters same has.hold.count)
      ∙ turns_hold (λ j. entry_tests (format_for kind l words) j (slot_from words ones twos j)) (length words) 0 (λ i h.
      let here : 0 + i ≡ i = omega arith in
      rw here (lists_each has i h))

-- ---- the numbers

module _ (limit kind l : ℕ) (words ones twos : List ℕ) where
  -- by which numbers lists are refused
  pub lists_only : {P : ℕ → Type 0} → P Kind → P WordLength → P Lists → P Count → P Word → P Places → Only P (lists_tests limit kind l words ones twos)
  unfolding lists_tests
  lists_only kinds letters lists count word places =
      also kinds (also letters (also lists (also count
      (only_turns (λ e. entry_only (format_for kind l words) e (slot_from words ones twos e) word places) 0 (length words)))))

  -- lists of a kind, of one length and of words that fit are refused by fewer
  pub fit_only : {P : ℕ → Type 0} → is_kind kind ≡ true → same_length words ones twos ≡ true
      → ((e : ℕ) → e < length words → (slot_from words ones twos e).word < 4 ^ l)
      → P WordLength → P Count → P Places → Only P (lists_tests limit kind l words ones twos)
  unfolding lists_tests
  fit_only a_kind same fits letters count places =
      holds a_kind (also letters (holds same (also count
      (only_within 0 (length words) (λ e h. entry-fit (format_for kind l words) e (slot_from words ones twos e) (fits e (omega arith)) places)))))

  -- each is above 0
  pub lists_numbered : Numbered (lists_tests limit kind l words ones twos)
  lists_numbered = lists_only (omega arith) (omega arith) (omega arith) (omega arith) (omega arith) (omega arith)
