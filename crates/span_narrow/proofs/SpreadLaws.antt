-- Laws of marking a list by the digits of a number, which is taken apart from its end. Assumes nothing.
use mathlib.Core.Path.{◌≡◌, refl, sym, ap, ◌∙◌}
use mathlib.Core.Logic.{⊎_elim}
use mathlib.Core.Bool.{cond}
use mathlib.Core.List.{List, [], ◌∷◌, foldl}
use Prim.Native.Nat.{ℕ, zero, suc, ◌-◌, ◌*◌, ◌/◌, ◌%◌, ◌^◌, ◌≤◌, ◌<◌}
use native.Mathlib.Omega.{arith}
use native.Mathlib.Nat.{pow-suc, pow-zero}
use lib.Dec.{eqb}
use lib.ListN.{length, get_or, set, drop, length-set}
use lib.Seq.{drop-cons, drop-length, get_or-set_same, get_or-set_other}
use Rattle.base_lists.specs.Members.{In, first, later, Rising, rises, flat}
use Rattle.base_lists.proofs.ListLaws.{not_in_nil, in_cons}
use Rattle.base_lists.proofs.FillingLaws.{get_d_in}
use Rattle.span_memory.specs.Memory.{mark_of, with_mark}
use Rattle.span_memory.proofs.KeyLaws.{bits_is}
use Rattle.span_narrow.specs.Digits.{Apart, MarkedBy}

-- marks that a list has in common give the same digits
fold_marks : (marks marks' : List ℕ) (b : ℕ) (js : List ℕ) → ((j : ℕ) → In j js → get_or marks j 0 ≡ get_or marks' j 0)
    → foldl (with_mark marks) b js ≡ foldl (with_mark marks') b js
fold_marks marks marks' b [] h = refl
fold_marks marks marks' b (j ∷ js) h =
    rw (h j first) (fold_marks marks marks' (with_mark marks' b j) js (λ k m. h k (later m)))

mark_digit : (marks : List ℕ) (j : ℕ) → get_or marks j 0 ≤ 1 → mark_of marks j ≡ get_or marks j 0
mark_digit marks j h = go (get_or marks j 0) h
  where
    go : (x : ℕ) → x ≤ 1 → cond (eqb x 0) 0 1 ≡ x
    go zero g = refl
    go (suc zero) g = refl
    go (suc (suc x)) g = absurd (omega arith)

rising_drop : {R : ℕ → ℕ → Type 0} {js : List ℕ} (k : ℕ) → Rising R js → Rising R (drop k js)
rising_drop zero r = r
rising_drop (suc k) flat = flat
rising_drop (suc k) (rises up r) = rising_drop k r

module _ (list marks₀ : List ℕ) (b : ℕ) where
  -- the entries from the slot k on are marked, by all digits but those of `rest`
  pub record MarkingBy (k rest : ℕ) (marks : List ℕ) : Type 0 where
    pub within : k ≤ length list
    pub all : length marks ≡ length marks₀
    pub few : rest < 2 ^ k
    pub digits : foldl (with_mark marks) rest (drop k list) ≡ b
    pub small : (j : ℕ) → In j (drop k list) → get_or marks j 0 ≤ 1
    pub others : (j : ℕ) → (In j list → ⊥) → get_or marks j 0 ≡ get_or marks₀ j 0

  pub marking_by_none : b < 2 ^ length list → MarkingBy (length list) b marks₀
  marking_by_none h = record {
    within = omega arith;
    all = refl;
    few = h;
    digits = rw (drop-length list);
    small = λ j m. absurd (not_in_nil (rw (drop-length list) at m));
    others = λ j n. refl;
  }

  module _ {k rest : ℕ} {marks : List ℕ} (s : MarkingBy k rest marks) where
    abbrev own : ℕ
    own = get_or list (k - 1) 0

    -- one more of the list, which is not in the rest of it
    one_more : 0 < k → drop (k - 1) list ≡ own ∷ drop k list
    one_more some =
        let next : suc (k - 1) ≡ k = omega arith in
        drop-cons list (k - 1) 0 (omega (arith, s.within)) ∙ ap (λ n. own ∷ drop n list) next

    not_behind : Apart list → 0 < k → (j : ℕ) → In j (drop k list) → j ≡ own → ⊥
    not_behind apart some = go (rw (one_more some) at (rising_drop (k - 1) apart.each))
      where
        go : Rising (λ x y. x ≡ y → ⊥) (own ∷ drop k list) → (j : ℕ) → In j (drop k list) → j ≡ own → ⊥
        go (rises up r) j m e = up j m (sym e)

    pub marking_by_turn : Apart list → 0 < k → own < length marks → {x : ℕ} → x ≡ rest % 2 → MarkingBy (k - 1) (rest / 2) (set marks own x)
    marking_by_turn apart some there {x} is = record {
      within = omega (arith, s.within);
      all = length-set marks own x ∙ s.all;
      few = let next : suc (k - 1) ≡ k = omega arith in
          let whole : rest < 2 ^ (k - 1) * 2 = rw (pow-suc 2 (k - 1)) at (rw (← next) at s.few) in
          omega arith;
      digits = rw (one_more some) (ap (λ n. foldl (with_mark (set marks own x)) n (drop k list)) again
          ∙ fold_marks (set marks own x) marks rest (drop k list)
          (λ j m. get_or-set_other marks own j x 0 (not_behind apart some j m)) ∙ s.digits);
      small = λ j m. ⊎_elim (λ e. rw e (rw own_mark low)) (λ n. rw (get_or-set_other marks own j x 0 (not_behind apart some j n)) (s.small j n))
          (in_cons (rw (one_more some) at m));
      others = λ j n. get_or-set_other marks own j x 0 (λ e. n (rw e (get_d_in list (k - 1) (omega (arith, s.within))))) ∙ s.others j n;
    }
      where
        own_mark : get_or (set marks own x) own 0 ≡ x
        own_mark = get_or-set_same marks own x 0 there

        low : x ≤ 1
        low = omega arith

        again : with_mark (set marks own x) (rest / 2) own ≡ rest
        again = let e = mark_digit (set marks own x) own (rw own_mark low) ∙ own_mark in omega arith

    pub marking_by_all : k ≤ 0 → MarkedBy list marks₀ b marks
    marking_by_all h =
        let none : k ≡ 0 = omega arith in
        let no-rest : rest ≡ 0 = omega (arith, rw none at s.few, pow-zero 2) in
        let whole : foldl (with_mark marks) 0 list ≡ b = rw (none, no-rest) at s.digits in
        record { all = s.all; digits = bits_is marks list ∙ whole; small = λ j m. s.small j (rw none m); others = s.others }
