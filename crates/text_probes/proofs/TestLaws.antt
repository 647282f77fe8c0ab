-- Laws of the tests of a line, one for each outcome, and of a line more. Assumes nothing.
use mathlib.Core.Path.{◌≡◌, refl, ap, ◌∙◌}
use mathlib.Core.Logic.{◌⊎◌, inl}
use mathlib.Core.Bool.{Bool, true, false, not, cond}
use mathlib.Core.List.{List, [], ◌∷◌, ◌++◌}
use Prim.Native.Nat.{ℕ, zero, suc, ◌+◌, ◌<◌}
use native.Mathlib.Omega.{arith}
use lib.ListN.{length, get_or, length-append}
use lib.Dec.{eqb}
use borrow.Author.Tests.{ne_eqb}
use Rattle.base_answers.specs.Numbers.{Text, Mixed, Uneven, Zero}
use Rattle.base_answers.specs.Answer.{given, refused, first}
use Rattle.base_answers.proofs.Laws.{first_pass, first_fail, first_last}
use Rattle.text_probes.specs.declared.line.Marked.{Marked}
use Rattle.text_probes.specs.declared.scanning.Outline.{Outline}
use Rattle.text_probes.specs.Line.{Line}
use Rattle.text_probes.specs.Lines.{is_line, line_of}
use Rattle.text_probes.specs.Testing.{mark_of, has_zero, line_mark, line_letters, known, outline_of, agree, said_tests, line_tests}
use Rattle.text_probes.specs.Says.{next_outline}

-- ---- one line

module _ (s : Outline) (letters : ℕ) (y : Marked) {A : Type 0} (a : A) where
  pub later_mixed : agree s.mark (mark_of y) ≡ false → first (said_tests s letters y) a ≡ refused Mixed (s.m + 1)
  unfolding said_tests
  later_mixed e = first_fail _ _ _ _ _ e

  module _ (one-mark : agree s.mark (mark_of y) ≡ true) where
    pub later_uneven : agree s.l letters ≡ false → first (said_tests s letters y) a ≡ refused Uneven (s.m + 1)
    unfolding said_tests
    later_uneven e = first_pass _ _ _ _ _ one-mark ∙ first_fail _ _ _ _ _ e

    module _ (even : agree s.l letters ≡ true) where
      pub later_zero : has_zero y ≡ true → first (said_tests s letters y) a ≡ refused Zero (s.m + 1)
      unfolding said_tests
      later_zero e = first_pass _ _ _ _ _ one-mark ∙ first_pass _ _ _ _ _ even ∙ first_fail _ _ _ _ _ (ap not e)

      pub later_sound : has_zero y ≡ false → first (said_tests s letters y) a ≡ given a
      unfolding said_tests
      later_sound e = first_pass _ _ _ _ _ one-mark ∙ first_pass _ _ _ _ _ even ∙ first_last _ _ _ _ (ap not e)

-- with its text
module _ (s : Outline) (bs : List ℕ) {A : Type 0} (a : A) where
  pub line_no_text : is_line bs ≡ false → first (line_tests s bs) a ≡ refused Text (s.m + 1)
  unfolding line_tests
  line_no_text e = first_fail _ _ _ _ _ e

  pub line_later : is_line bs ≡ true → first (line_tests s bs) a ≡ first (said_tests s (line_letters (line_of bs)) (line_of bs).listed) a
  unfolding line_tests
  line_later e = first_pass _ _ _ _ _ e

-- ---- what is known of lines

-- where each line has k, or nothing, so has what is known of them
pub known_in : (f : Line → ℕ) (k : ℕ) (xs : List Line)
    → ((i : ℕ) → i < length xs → (f (get_or xs i (line_of [])) ≡ 0) ⊎ (f (get_or xs i (line_of [])) ≡ k))
    → (known f xs ≡ 0) ⊎ (known f xs ≡ k)
unfolding known
known_in f k [] each = inl refl
known_in f k (x ∷ xs) each = go (known_in f k xs (λ i h. each (suc i) (omega arith))) (eqb (f x) 0) (each 0 (omega arith))
  where
    go : (known f xs ≡ 0) ⊎ (known f xs ≡ k) → (t : Bool) → (f x ≡ 0) ⊎ (f x ≡ k) → (cond t (known f xs) (f x) ≡ 0) ⊎ (cond t (known f xs) (f x) ≡ k)
    go later true own = later
    go later false own = own

-- ---- a line more

pub known_more : (f : Line → ℕ) (xs : List Line) (x : Line) → known f (xs ++ (x ∷ [])) ≡ cond (eqb (known f xs) 0) (f x) (known f xs)
unfolding known
known_more f [] x = go (f x)
  where
    go : (n : ℕ) → cond (eqb n 0) 0 n ≡ n
    go zero = refl
    go (suc n) = rw (ne_eqb (suc n) 0 (λ e. omega arith))
known_more f (y ∷ ys) x = go (known_more f ys x) (f y)
  where
    go : known f (ys ++ (x ∷ [])) ≡ cond (eqb (known f ys) 0) (f x) (known f ys) → (n : ℕ)
        → cond (eqb n 0) (known f (ys ++ (x ∷ []))) n
        ≡ cond (eqb (cond (eqb n 0) (known f ys) n) 0) (f x) (cond (eqb n 0) (known f ys) n)
    go later zero = later
    go later (suc n) =
        let other : eqb (suc n) 0 ≡ false = ne_eqb (suc n) 0 (λ e. omega arith) in
        rw other (rw other refl)

pub outline_more : (xs : List Line) (x : Line) → outline_of (xs ++ (x ∷ [])) ≡ next_outline (outline_of xs) x
outline_more xs x =
    λ i. record { mark = known_more line_mark xs x i; l = known_more line_letters xs x i; m = length-append xs (x ∷ []) i }
