-- The line of a sound entry is fine, and stands for the entry. Assumes nothing.
use mathlib.Core.Path.{◌≡◌, refl, sym}
use mathlib.Core.Logic.{◌⊎◌, inl, inr, ⊎_elim}
use mathlib.Core.Bool.{true, false}
use mathlib.Core.List.{List, [], ◌∷◌, ◌++◌}
use Prim.Native.Nat.{ℕ, zero, suc, ◌+◌, ◌-◌, ◌/◌, ◌%◌, ◌≤◌, ◌<◌}
use native.Mathlib.Omega.{arith}
use lib.Dec.{leb, ltb, eqb}
use borrow.Author.Tests.{le-leb, lt-ltb, eq-eqb, ne_eqb}
use Rattle.base_lists.proofs.TestLaws.{both}
use Rattle.base_letters.specs.Letters.{codes}
use Rattle.card_entries.specs.declared.Slot.{Slot}
use Rattle.card_entries.specs.Fault.{pair, span, no_place, pair_holds, span_holds}
use Rattle.card_entries.proofs.Laws.{pair_says, span_says}
use Rattle.build_sequence.specs.Build.{letters_of}
use Rattle.text_probes.specs.declared.line.Marked.{Marked}
use Rattle.text_probes.specs.declared.line.Marked.TheVariants.{Bare, Two, Run}
use Rattle.text_probes.specs.Line.{most_number, are_codes, is_small}
use Rattle.text_probes.specs.Testing.{mark_of, has_zero}
use Rattle.text_probes.specs.Listing.{one_of, two_of}
use Rattle.text_export.specs.Exporting.{listed_for}

-- ---- a word

codes_joined : (xs ys : List ℕ) → are_codes xs ≡ true → are_codes ys ≡ true → are_codes (xs ++ ys) ≡ true
codes_joined [] ys e h = h
codes_joined (x ∷ xs) ys e h = let parts = both (ltb x codes) (are_codes xs) e in rw parts.0 (codes_joined xs ys parts.1 h)

pub codes_letters : (l w : ℕ) → are_codes (letters_of l w) ≡ true
codes_letters zero w = refl
codes_letters (suc l) w =
    codes_joined (letters_of l (w / 4)) (w % 4 ∷ []) (codes_letters l (w / 4)) (rw (lt-ltb (w % 4) codes (omega arith)))

-- ---- the places

-- what is listed of an entry: no place 0, numbers that may be listed, the mark of its kind, and the two places as they are stored
pub record Back (kind : ℕ) (s : Slot) (y : Marked) : Type 0 where
  pub small : is_small y ≡ true
  pub no_zero : has_zero y ≡ false
  pub mark : (mark_of y ≡ 0) ⊎ (mark_of y ≡ kind)
  pub spanned : kind ≡ span → mark_of y ≡ span
  pub one : one_of y ≡ s.one
  pub two : two_of kind y ≡ s.two

small_one : (p : ℕ) → p < most_number → leb (p + 1) most_number ≡ true
small_one p h = le-leb (p + 1) most_number (omega arith)

zero_one : (p : ℕ) → eqb (p + 1) 0 ≡ false
zero_one p = ne_eqb (p + 1) 0 (λ e. omega arith)

less_one : (p : ℕ) → p + 1 - 1 ≡ p
less_one p = omega arith

back_span : (s : Slot) → s.one < most_number → s.two < most_number → Back span s (Run (s.one + 1) (s.two + 1))
back_span s g h = record {
  small = rw (small_one s.one g) (small_one s.two h);
  no_zero = rw (zero_one s.one) (zero_one s.two);
  mark = inr refl;
  spanned = λ e. refl;
  one = less_one s.one;
  two = less_one s.two;
}

back_two : (s : Slot) → s.one < most_number → s.two < most_number → Back pair s (Two (s.one + 1) (s.two + 1))
back_two s g h = record {
  small = rw (small_one s.one g) (small_one s.two h);
  no_zero = rw (zero_one s.one) (zero_one s.two);
  mark = inr refl;
  spanned = λ e. absurd (omega arith);
  one = less_one s.one;
  two = less_one s.two;
}

back_one : (s : Slot) → s.one < most_number → s.two ≡ no_place → Back pair s (Bare (s.one + 1))
back_one s g e = record {
  small = small_one s.one g;
  no_zero = zero_one s.one;
  mark = inl refl;
  spanned = λ e. absurd (omega arith);
  one = less_one s.one;
  two = sym e;
}

module _ (m : ℕ) (few : m ≤ most_number) (s : Slot) where
  pub span_back : span_holds m s.one s.two ≡ true → Back span s (listed_for span s)
  unfolding listed_for
  span_back h = let says = span_says h in back_span s (omega (arith, says.in_order, says.below)) (omega (arith, says.below))

  pub pair_back : pair_holds m s.one s.two ≡ true → Back pair s (listed_for pair s)
  unfolding listed_for
  pair_back h =
      let says = pair_says h in
      let first : s.one < most_number = omega (arith, says.0) in
      ⊎_elim (λ e. rw (eq-eqb s.two no_place e) (back_one s first e))
      (λ e. rw (ne_eqb s.two no_place (λ q. omega (arith, q, e.1))) (back_two s first (omega (arith, e.1))))
      says.1
