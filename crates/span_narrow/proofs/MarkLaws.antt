-- Laws of marking the entries of a list, one after the other. Assumes nothing.
use mathlib.Core.Path.{◌≡◌, ◌∙◌}
use mathlib.Core.Logic.{◌⊎◌, inl, inr, ⊎_elim}
use mathlib.Core.List.{List}
use Prim.Native.Nat.{ℕ, ◌+◌, ◌≤◌, ◌<◌}
use native.Mathlib.Omega.{arith}
use native.Mathlib.Numerals.{add-one}
use lib.ListN.{length, get_or, set, drop, length-set, drop_of_length-le}
use lib.Seq.{drop-cons, get_or-set_same, get_or-set_other}
use Rattle.base_lists.specs.Members.{In}
use Rattle.base_lists.proofs.ListLaws.{not_in_nil, in_cons}
use Rattle.base_lists.proofs.FillingLaws.{same_or_not, get_d_in}
use Rattle.span_narrow.specs.Digits.{MarkedWith}

module _ (list marks₀ : List ℕ) (v : ℕ) where
  -- the entries before the slot k are marked
  pub record Marking (k : ℕ) (marks : List ℕ) : Type 0 where
    pub within : k ≤ length list
    pub all : length marks ≡ length marks₀
    pub each : (j : ℕ) → In j list → In j (drop k list) ⊎ (get_or marks j 0 ≡ v)
    pub others : (j : ℕ) → (In j list → ⊥) → get_or marks j 0 ≡ get_or marks₀ j 0

  module _ {k : ℕ} {marks : List ℕ} (s : Marking k marks) where
    pub marking_turn : k < length list → get_or list k 0 < length marks → Marking (k + 1) (set marks (get_or list k 0) v)
    marking_turn h there = record {
      within = omega arith;
      all = length-set marks own v ∙ s.all;
      each = λ j m. ⊎_elim (λ e. inr (rw e (get_or-set_same marks own v 0 there)))
          (λ n. ⊎_elim (λ q. ⊎_elim (λ e. absurd (n e)) (λ g. inl (rw (add-one k) g)) (in_cons (rw (drop-cons list k 0 h) at q)))
          (λ q. inr (get_or-set_other marks own j v 0 n ∙ q)) (s.each j m)) (same_or_not j own);
      others = λ j n. get_or-set_other marks own j v 0 (λ e. n (rw e (get_d_in list k h))) ∙ s.others j n;
    }
      where
        own : ℕ
        own = get_or list k 0

    pub marking_all : length list ≤ k → MarkedWith list marks₀ v marks
    marking_all h = record {
      all = s.all;
      each = λ j m. ⊎_elim (λ q. absurd (not_in_nil (rw (drop_of_length-le list {i = k} h) at q))) (λ q. q) (s.each j m);
      others = s.others;
    }
