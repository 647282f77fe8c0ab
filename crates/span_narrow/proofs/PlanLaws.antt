-- The first place whose list has an entry is where its span begins: the lists of the places tell the first places. Assumes nothing.
use mathlib.Core.Path.{◌≡◌, refl, sym, ap, ◌∙◌}
use mathlib.Core.Logic.{⊎_elim}
use mathlib.Core.Bool.{Bool, true, false, true≢false}
use mathlib.Core.List.{List, [], ◌∷◌}
use Prim.Native.Nat.{ℕ, zero, suc, ◌+◌, ◌≤◌, ◌<◌}
use native.Mathlib.Omega.{arith}
use lib.Dec.{eqb}
use lib.ListN.{length, get_or}
use lib.Seq.{ext_get_or}
use borrow.Author.Tests.{eqb-true, eq-eqb}
use Rattle.card_entries.proofs.HoldLaws.{lists_spans}
use Rattle.base_lists.proofs.RowLaws.{length_row, row_at}
use Rattle.card_entries.proofs.Laws.{span_says}
use Rattle.base_lists.specs.Members.{In, first, keep}
use Rattle.base_lists.proofs.ListLaws.{not_in_nil, in_cast, in_keep, keep_in}
use Rattle.base_lists.proofs.TestLaws.{is_true, true_is, never}
use Rattle.base_lists.proofs.FillingLaws.{same_or_not}
use Rattle.span_layers.specs.Narrow.{most_over}
use Rattle.span_layers.specs.Completed.{is_some}
use Rattle.card_entries.specs.KindLists.{SpanLists}
use Rattle.span_tables.specs.Prepared.{Prepared, list_at}
use Rattle.span_steps.proofs.SpanLaws.{spans_rise}
use Rattle.span_narrow.specs.Plan.{first_with, is_listed, first_places, plan_of, Planned}

-- the first number for which a test holds is found
first_with_lem : (test : ℕ → Bool) (n i at : ℕ) → i ≤ at → at < i + n → test at ≡ true → ((k : ℕ) → k < at → test k ≡ false) → first_with test n i ≡ at
unfolding first_with
first_with_lem test zero i at h g e none = absurd (omega arith)
first_with_lem test (suc n) i at h g e none = ⊎_elim
    (λ q. rw q (rw e))
    (λ q. rw (none i (omega arith)) (first_with_lem test n (suc i) at (omega arith) (omega arith) e none)) (same_or_not i at)

-- a member of a list is found in it
some_in : {A : Type 0} {x : A} (l : List A) → In x l → is_some l ≡ true
some_in [] m = absurd (not_in_nil m)
some_in (y ∷ l) m = refl

in_some : {A : Type 0} (l : List A) → is_some l ≡ true → (x : A) × In x l
in_some [] e = absurd (true≢false (sym e))
in_some (x ∷ l) e = (x, first)

module _ {l : ℕ} {words ones twos starts slots : List ℕ} (card : SpanLists l words ones twos) (prepared : Prepared words ones twos starts slots) where
  listed_is : (j i : ℕ) → In j (list_at starts slots i) → is_listed starts slots j i ≡ true
  listed_is j i m = some_in (keep (λ k. eqb k j) (list_at starts slots i)) (keep_in (λ k. eqb k j) m (true_is _ (eq-eqb j j refl)))

  is_listed_lem : (j i : ℕ) → is_listed starts slots j i ≡ true → In j (list_at starts slots i)
  is_listed_lem j i e =
      let x = in_some (keep (λ k. eqb k j) (list_at starts slots i)) e in
      let m = in_keep (λ k. eqb k j) (list_at starts slots i) x.1 in
      in_cast (sym (eqb-true x.0 j (is_true _ m.1))) m.0

  -- an entry is in the list of its first place, and of none before it
  begins_first : (j : ℕ) → j < length words → first_with (is_listed starts slots j) (length words) 0 ≡ get_or ones j 0
  begins_first j h =
      let rise = spans_rise card j h in
      let end = (span_says (lists_spans card refl j h)).below in
      first_with_lem (is_listed starts slots j) (length words) 0 (get_or ones j 0) (omega arith) (omega (arith, rise, end))
      (listed_is j (get_or ones j 0) (prepared.there (get_or ones j 0) j (omega (arith, rise, end)) h (omega arith) rise))
      (λ k g. never (is_listed starts slots j k)
      (λ e. omega (arith, (prepared.here k j (omega (arith, rise, end)) (is_listed_lem j k e)).1)))

  pub first_places_told : first_places starts slots (length words) ≡ ones
  unfolding first_places
  first_places_told =
      let begins : ℕ → ℕ = λ j. first_with (is_listed starts slots j) (length words) 0 in
      ext_get_or 0 _ ones (length_row begins 0 (length words) ∙ sym card.as_ones)
      (λ k h. let low : k < length words = omega (arith, length_row begins 0 (length words)) in
      let here : 0 + k ≡ k = omega arith in
      row_at begins 0 0 (length words) k low ∙ ap begins here ∙ begins_first k low)

  -- so what is laid out is planned
  pub told_planned : ((i : ℕ) → i < length words → get_or starts (suc i) 0 ≤ get_or starts i 0 + most_over) → Planned (plan_of l words twos starts slots)
  told_planned few = record { card = rw first_places_told card; prepared = rw first_places_told prepared; few = few }
