-- By which numbers the writer refuses: those of the lists' tests, each of which is above 0, and 12, but not where there is room for every
-- card. Assumes nothing.
use mathlib.Core.Path.{◌≡◌, refl, sym, ◌∙◌}
use mathlib.Core.List.{List}
use Prim.Native.Nat.{ℕ, ◌≤◌, ◌<◌}
use native.Mathlib.Omega.{arith}
use lib.ListN.{length}
use Rattle.base_answers.specs.Numbers.{Room}
use Rattle.base_answers.specs.Answer.{Answer, given, refused, Sound, sound, first}
use Rattle.base_answers.proofs.Laws.{given_not_refused}
use Rattle.base_answers.proofs.Only.{Only, none, also, only_append, only_refused}
use Rattle.card_entries.specs.Bounds.{least_entries}
use Rattle.card_layout.specs.Layout.{size_of}
use Rattle.card_entries.proofs.Laws.{within_both}
use Rattle.card_lists.specs.Lists.{lists_tests}
use Rattle.card_lists.proofs.Laws.{lists_held, lists_only, lists_numbered}
use Rattle.card_writer.specs.Writing.{writing}
use Rattle.card_writer.proofs.WritingLaws.{lists_stop, card_given}

module _ (limit kind l : ℕ) (words ones twos : List ℕ) (room : ℕ) where
  pub writing_only : {P : ℕ → Type 0} → Only P (lists_tests limit kind l words ones twos) → P Room → {n p : ℕ}
      → writing limit kind l words ones twos room ≡ refused n p → P n
  unfolding writing
  writing_only lists twelve e = only_refused (only_append lists (also twelve none)) _ e

  pub writing_number : {n p : ℕ} → writing limit kind l words ones twos room ≡ refused n p → 0 < n
  writing_number e = writing_only (lists_numbered limit kind l words ones twos) (omega arith) e

  -- with room for the longest card 12 never comes
  pub writing_never : size_of limit ≤ room → {p : ℕ} → writing limit kind l words ones twos room ≡ refused Room p → ⊥
  writing_never enough {p} e = go (first (lists_tests limit kind l words ones twos) sound) refl
    where
      go : (a : Answer Sound) → first (lists_tests limit kind l words ones twos) sound ≡ a → ⊥
      go (given sound) held =
          let has = lists_held held in
          let few = (within_both least_entries limit (length words) has.hold.count).1 in
          given_not_refused (sym (card_given room has (omega arith)) ∙ e)
      go (refused k q) stops =
          let same : k ≡ Room = cc (lists_stop limit kind l words ones twos room stops) in
          only_refused
          (lists_only limit kind l words ones twos {P = λ n. n ≡ Room → ⊥} (λ z. omega arith) (λ z. omega arith) (λ z. omega arith)
          (λ z. omega arith) (λ z. omega arith) (λ z. omega arith)) sound stops same
