-- Laws of the marks around a place: what spreading a number over its list leaves of them, and where a sweep begins and ends. Assumes nothing.
use mathlib.Core.Path.{◌≡◌, refl, sym, ap, ◌∙◌}
use mathlib.Core.Logic.{◌⊎◌, inl, inr, ⊎_elim}
use mathlib.Core.Bool.{Bool, true, false}
use mathlib.Core.List.{List}
use Prim.Native.Nat.{ℕ, ◌+◌, ◌≤◌, ◌<◌}
use native.Mathlib.Omega.{arith}
use lib.ListN.{length, get_or, replicate}
use Rattle.std.proofs.lemmas.List.{get_or-replicate, length-replicate}
use lib.Dec.{eqb, leb}
use borrow.Author.Tests.{eqb-true, eq-eqb, leb-true, leb-false}
use Rattle.card_entries.proofs.HoldLaws.{lists_spans}
use Rattle.card_entries.proofs.Laws.{span_says}
use Rattle.base_lists.specs.Members.{In}
use Rattle.base_lists.proofs.FillingLaws.{same_or_not}
use Rattle.span_steps.specs.Steps.{is_left, Unmarked}
use Rattle.span_steps.proofs.OrderLaws.{sooner_apart, rising_each}
use Rattle.span_steps.proofs.SpanLaws.{spans_rise}
use Rattle.span_narrow.specs.Digits.{Apart, MarkedBy, MarkedWith}
use Rattle.span_narrow.specs.Plan.{Plan, list_on, Planned}
use Rattle.span_narrow.specs.States.{Sides}

-- ---- the list of a place

module _ {plan : Plan} {i : ℕ} (planned : Planned plan) (inside : i < length plan.words) where
  abbrev table : List ℕ
  table = list_on plan i

  pub list_apart : Apart table
  list_apart = record { each = rising_each (λ j k. sooner_apart plan.words plan.twos j k) (planned.prepared.sorted i inside) }

  -- an entry is in the list or it is not
  listed_or_not : (k : ℕ) → k < length plan.words → In k table ⊎ (In k table → ⊥)
  listed_or_not k h = go (leb (get_or plan.ones k 0) i) refl (leb i (get_or plan.twos k 0)) refl
    where
      go : (a : Bool) → leb (get_or plan.ones k 0) i ≡ a → (b : Bool) → leb i (get_or plan.twos k 0) ≡ b → In k table ⊎ (In k table → ⊥)
      go true e true f = inl (planned.prepared.there i k inside h (leb-true _ _ e) (leb-true _ _ f))
      go true e false f = inr (λ m. omega (arith, leb-false i (get_or plan.twos k 0) f, (planned.prepared.here i k inside m).2))
      go false e b f = inr (λ m. omega (arith, leb-false (get_or plan.ones k 0) i e, (planned.prepared.here i k inside m).1))

  module _ {marks marks' : List ℕ} {b : ℕ} (sides : Sides plan marks i (i + 1)) (did : MarkedBy table marks b marks') where
    same_left : (k : ℕ) → (In k table → ⊥) → is_left marks' k ≡ is_left marks k
    same_left k n = ap (λ x. eqb x 0) (did.others k n)

    -- the marks are those of a state again
    pub sides_spread : Sides plan marks' i (i + 1)
    sides_spread = record {
      marks_all = did.all ∙ sides.marks_all;
      digits = λ k h. ⊎_elim (λ m. did.small k m) (λ n. rw (did.others k n) (sides.digits k h)) (listed_or_not k h);
      past = λ k h g. ⊎_elim (λ m. (planned.prepared.here i k inside m).2) (λ n. sides.past k h (sym (same_left k n) ∙ g)) (listed_or_not k h);
      ahead = λ k h g. ⊎_elim (λ m. absurd (omega (arith, (planned.prepared.here i k inside m).1))) (λ n. same_left k n ∙ sides.ahead k h g)
          (listed_or_not k h);
    }

  module _ {marks marks' : List ℕ} {v : ℕ} (sides : Sides plan marks i (i + 1)) (did : MarkedWith table marks v marks') (small : v ≤ 1) where
    other_left : (k : ℕ) → (In k table → ⊥) → is_left marks' k ≡ is_left marks k
    other_left k n = ap (λ x. eqb x 0) (did.others k n)

    marked_digits : (k : ℕ) → k < length plan.words → get_or marks' k 0 ≤ 1
    marked_digits k h = ⊎_elim (λ m. rw (did.each k m) small) (λ n. rw (did.others k n) (sides.digits k h)) (listed_or_not k h)

    -- where its entries are left, the marks are those of a state before the place
    pub sides_cleared : v ≡ 0 → Sides plan marks' i i
    sides_cleared e = record {
      marks_all = did.all ∙ sides.marks_all;
      digits = marked_digits;
      past = λ k h g. ⊎_elim (λ m. (planned.prepared.here i k inside m).2) (λ n. sides.past k h (sym (other_left k n) ∙ g)) (listed_or_not k h);
      ahead = λ k h g. ⊎_elim (λ m. eq-eqb (get_or marks' k 0) 0 (did.each k m ∙ e))
          (λ n. other_left k n ∙ sides.ahead k h (later_than k h n g)) (listed_or_not k h);
    }
      where
        later_than : (k : ℕ) → k < length plan.words → (In k table → ⊥) → i ≤ get_or plan.ones k 0 → i + 1 ≤ get_or plan.ones k 0
        later_than k h n g = ⊎_elim
            (λ q. absurd (n (planned.prepared.there i k inside h (omega (arith, q)) (omega (arith, q, spans_rise planned.card k h)))))
            (λ q. omega arith) (same_or_not (get_or plan.ones k 0) i)

    -- and where they are placed, those of a state at the next one
    pub sides_filled : v ≡ 1 → Sides plan marks' (i + 1) (i + 1 + 1)
    sides_filled e = record {
      marks_all = did.all ∙ sides.marks_all;
      digits = marked_digits;
      past = λ k h g. ⊎_elim (λ m. absurd (omega (arith, did.each k m, eqb-true (get_or marks' k 0) 0 g)))
          (λ n. sooner_than k h n (sides.past k h (sym (other_left k n) ∙ g))) (listed_or_not k h);
      ahead = λ k h g. ⊎_elim (λ m. absurd (omega (arith, (planned.prepared.here i k inside m).1)))
          (λ n. other_left k n ∙ sides.ahead k h (omega arith)) (listed_or_not k h);
    }
      where
        sooner_than : (k : ℕ) → k < length plan.words → (In k table → ⊥) → i ≤ get_or plan.twos k 0 → i + 1 ≤ get_or plan.twos k 0
        sooner_than k h n g = ⊎_elim
            (λ q. absurd (n (planned.prepared.there i k inside h (omega (arith, q, spans_rise planned.card k h)) (omega (arith, q)))))
            (λ q. omega arith) (same_or_not (get_or plan.twos k 0) i)

-- ---- the ends of a sweep

-- each of n numbers is v
filled_each : {n v k : ℕ} {xs : List ℕ} → xs ≡ replicate n v → k < n → get_or xs k 0 ≡ v
filled_each {n} {v} {k} e h = rw e (get_or-replicate n k v 0 h)

filled_all : {n : ℕ} (v : ℕ) {xs : List ℕ} → xs ≡ replicate n v → length xs ≡ n
filled_all {n} v e = rw e (length-replicate n v)

pub sides_marked : {plan : Plan} {n : ℕ} {marks : List ℕ} → Planned plan → n ≡ length plan.words → marks ≡ replicate n 1
    → Sides plan marks (length plan.words) (length plan.words)
sides_marked {marks = marks} planned all m = record {
  marks_all = filled_all _ m ∙ all;
  digits = λ k h. omega (arith, filled_each {k = k} m (omega arith));
  past = λ k h g. absurd (omega (arith, filled_each {k = k} m (omega arith), eqb-true (get_or marks k 0) 0 g));
  ahead = λ k h g. absurd (omega (arith, spans_rise planned.card k h, (span_says (lists_spans planned.card refl k h)).below));
}

pub sides_back : {plan : Plan} {marks : List ℕ} {i : ℕ} → Sides plan marks (i + 1) (i + 1) → Sides plan marks i (i + 1)
sides_back s = record { marks_all = s.marks_all; digits = s.digits; past = λ k h g. omega (arith, s.past k h g); ahead = s.ahead }

pub sides_all : {plan : Plan} {marks : List ℕ} → Sides plan marks 0 0 → Unmarked marks
sides_all s = record { each = λ k h. s.ahead k (omega (arith, s.marks_all)) (omega arith) }

pub sides_first : {plan : Plan} {marks : List ℕ} → Sides plan marks 0 0 → Sides plan marks 0 1
sides_first s = record { marks_all = s.marks_all; digits = s.digits; past = s.past; ahead = λ k h g. s.ahead k h (omega arith) }
