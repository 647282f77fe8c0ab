-- Laws of the entries that are left: as numbers, once one is marked, and where none is. Assumes nothing.
use mathlib.Core.Path.{◌≡◌, refl, sym, ap, ◌∙◌}
use mathlib.Core.Bool.{Bool, true, false, ◌&&◌, not}
use mathlib.Core.List.{List, ◌∷◌, map}
use Prim.Native.Nat.{ℕ, zero, suc, ◌+◌, ◌≤◌, ◌<◌}
use native.Mathlib.Omega.{arith}
use lib.ListN.{length, set}
use lib.Seq.{get_or-set_same, get_or-set_other}
use lib.Dec.{eqb}
use borrow.Author.Tests.{eqb-true, eqb-false}
use Rattle.base_lists.specs.Members.{keep}
use Rattle.base_lists.specs.Row.{row}
use Rattle.base_lists.specs.Numbers.{numbers}
use Rattle.base_lists.proofs.RowLaws.{row_none, row_first}
use Rattle.base_lists.proofs.TestLaws.{and_false, and_true}
use Rattle.base_lists.proofs.KeepLaws.{keep_same}
use Rattle.card_entries.specs.Slot.{slot_from, entries_in}
use Rattle.card_entries.proofs.SlotLaws.{slot_from_lem}
use Rattle.span_steps.specs.Steps.{is_left, span_at, left, Unmarked}

-- ---- as numbers, and once one is marked

pub left_is : (words ones twos marks : List ℕ)
    → left words ones twos marks ≡ map (span_at words ones twos) (keep (is_left marks) (numbers 0 (length words)))
unfolding left
left_is words ones twos marks = refl

-- one that is marked is no longer left
pub left_set : (marks : List ℕ) (e k : ℕ) → e < length marks → is_left (set marks e 1) k ≡ (is_left marks k && not (eqb k e))
left_set marks e k h = go (eqb k e) refl
  where
    go : (t : Bool) → eqb k e ≡ t → is_left (set marks e 1) k ≡ (is_left marks k && not t)
    go true q = rw (eqb-true k e q, get_or-set_same marks e 1 0 h) (sym (and_false (is_left marks e)))
    go false q = rw (get_or-set_other marks e k 1 0 (eqb-false k e q)) (sym (and_true (is_left marks k)))

pub left_marked : (words ones twos marks : List ℕ) (e : ℕ) → e < length marks
    → left words ones twos (set marks e 1)
    ≡ map (span_at words ones twos) (keep (λ k. is_left marks k && not (eqb k e)) (numbers 0 (length words)))
left_marked words ones twos marks e h =
    left_is words ones twos (set marks e 1)
    ∙ ap (map (span_at words ones twos)) (keep_same (is_left (set marks e 1)) _ (numbers 0 (length words)) (λ k m. left_set marks e k h))

-- ---- where none is marked, they are the entries of the lists

keep_all : (marks : List ℕ) → Unmarked marks → (i n : ℕ) → i + n ≤ length marks → keep (is_left marks) (numbers i n) ≡ numbers i n
keep_all marks u i zero h = refl
keep_all marks u i (suc n) h = rw (u.each i (omega arith)) (ap (λ l. i ∷ l) (keep_all marks u (suc i) n (omega arith)))

pub numbers_row : (words ones twos : List ℕ) (i n : ℕ) → map (span_at words ones twos) (numbers i n) ≡ row (slot_from words ones twos) i n
numbers_row words ones twos i zero = sym (row_none (slot_from words ones twos) i)
numbers_row words ones twos i (suc n) =
    let e = slot_from_lem words ones twos i in
    let f = numbers_row words ones twos (suc i) n in
    let g = row_first (slot_from words ones twos) i n in
    cc

pub left_every : (words ones twos : List ℕ) {marks : List ℕ} → Unmarked marks → length words ≤ length marks
    → left words ones twos marks ≡ entries_in words ones twos
unfolding left
left_every words ones twos {marks} u h =
    ap (map (span_at words ones twos)) (keep_all marks u 0 (length words) (omega arith)) ∙ numbers_row words ones twos 0 (length words)

pub left_all : (words ones twos : List ℕ) {marks : List ℕ} → Unmarked marks → length marks ≡ length words
    → left words ones twos marks ≡ entries_in words ones twos
left_all words ones twos u e = left_every words ones twos u (omega arith)
