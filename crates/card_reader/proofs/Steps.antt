-- A reading head lists a card: from head 0 the steps give the entries in order and then the end, exactly m of them, and nothing else can be
-- listed. Assumes nothing.
use mathlib.Core.Path.{◌≡◌, refl, ap, ◌∙◌}
use mathlib.Core.List.{List}
use Prim.Native.Nat.{ℕ, zero, suc, ◌+◌}
use native.Mathlib.Numerals.{add-one}
use native.Mathlib.Omega.{arith}
use lib.ListN.{length}
use Rattle.base_answers.specs.Answer.{given}
use Rattle.base_lists.specs.Row.{row}
use Rattle.base_lists.proofs.RowLaws.{length_row, row_none, row_first}
use Rattle.card_entries.specs.declared.Format.{Format}
use Rattle.card_entries.specs.declared.Entry.{Entry}
use Rattle.card_layout.specs.Layout.{entry_at}
use Rattle.card_reader.specs.Fetching.{admission, Lists, ends, goes}
use Rattle.card_reader.proofs.FetchingLaws.{Admits, admission_admits, step_more, step_end}

module _ (limit : ℕ) (card : List ℕ) where
  module _ {f : Format} (has : Admits limit card f) where
    -- from the head k, with n entries to come
    lists_from : (n k : ℕ) → k + n ≡ f.m → Lists limit card k (row (entry_at card) k n)
    lists_from zero k h = rw (row_none (entry_at card) k) (ends (step_end limit card has k (omega arith)))
    lists_from (suc n) k h =
        let rest : Lists limit card (k + 1) (row (entry_at card) (suc k) n) = rw (add-one k) (lists_from n (suc k) (omega arith)) in
        rw (row_first (entry_at card) k n) (goes (step_more limit card has k (omega arith)) rest)

  -- "From head 0": all m entries, in order
  pub lists_all : {f : Format} → admission limit card ≡ given f → Lists limit card 0 (row (entry_at card) 0 f.m)
  lists_all {f} e = lists_from (admission_admits limit card e) f.m 0 (omega arith)

  -- and no other list
  lists_same : {at to : ℕ} {es ds : List Entry} → at ≡ to → Lists limit card at es → Lists limit card to ds → es ≡ ds
  lists_same h (ends e) (ends d) = refl
  lists_same h (ends e) (goes d ds) = let z : ◌≡◌ {A = ℕ} 0 1 = cc in absurd (omega arith)
  lists_same h (goes e es) (ends d) = let z : ◌≡◌ {A = ℕ} 0 1 = cc in absurd (omega arith)
  lists_same h (goes e es) (goes d ds) = let rest = lists_same (cc) es ds in cc

  pub lists_one : {at : ℕ} {es ds : List Entry} → Lists limit card at es → Lists limit card at ds → es ≡ ds
  lists_one = lists_same refl

  -- exactly m of them
  pub lists_m : {f : Format} {es : List Entry} → admission limit card ≡ given f → Lists limit card 0 es → length es ≡ f.m
  lists_m {f} e l = ap length (lists_one l (lists_all e)) ∙ length_row (entry_at card) 0 f.m
