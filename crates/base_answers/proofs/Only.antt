-- Tests that refuse only by numbers of which P holds, such as those above 0, those below a bound, or the few that an operation has. Assumes nothing.
use mathlib.Core.Path.{◌≡◌}
use mathlib.Core.Bool.{Bool, true, false}
use mathlib.Core.List.{List, [], ◌∷◌, ◌++◌}
use Prim.Native.Nat.{ℕ, zero, suc, ◌+◌, ◌<◌}
use native.Mathlib.Omega.{arith}
use Rattle.base_lists.proofs.RowLaws.{turns_none, turns_first}
use Rattle.base_answers.specs.Answer.{Test, test, refused, first}
use Rattle.base_lists.specs.Row.{in_turn}

-- each of these tests refuses by such a number, or holds
pub data Only (P : ℕ → Type 0) : List Test → Type 0 where
  none : Only P []
  also : {ok : Bool} {n p : ℕ} {ts : List Test} → P n → Only P ts → Only P (test ok n p ∷ ts)
  holds : {ok : Bool} {n p : ℕ} {ts : List Test} → ok ≡ true → Only P ts → Only P (test ok n p ∷ ts)

module _ {P : ℕ → Type 0} where
  pub only_append : {xs ys : List Test} → Only P xs → Only P ys → Only P (xs ++ ys)
  only_append none more = more
  only_append (also h rest) more = also h (only_append rest more)
  only_append (holds h rest) more = holds h (only_append rest more)

  -- in turn, where f has them in the turns that are asked for
  pub only_within : {f : ℕ → List Test} (k n : ℕ) → ((e : ℕ) → e < k + n → Only P (f e)) → Only P (in_turn f k n)
  only_within {f} k zero each = rw (turns_none f k) none
  only_within {f} k (suc n) each =
      rw (turns_first f k n) (only_append (each k (omega arith)) (only_within (suc k) n (λ e h. each e (omega arith))))

  pub only_turns : {f : ℕ → List Test} → ((k : ℕ) → Only P (f k)) → (k n : ℕ) → Only P (in_turn f k n)
  only_turns each k n = only_within k n (λ e h. each e)

  -- so of what they refuse by it holds
  pub only_refused : {A : Type 0} {ts : List Test} → Only P ts → (a : A) {n p : ℕ} → first ts a ≡ refused n p → P n
  unfolding first
  only_refused none a e = let z : ◌≡◌ {A = ℕ} 0 1 = cc in absurd (omega arith)
  only_refused (also {ok = true} h rest) a e = only_refused rest a e
  only_refused (also {ok = false} {n = k} h rest) a {n} e = let same : k ≡ n = cc in rw same at h
  only_refused (holds {ok = true} h rest) a e = only_refused rest a e
  only_refused (holds {ok = false} h rest) a e = let z : ◌≡◌ {A = ℕ} 0 1 = cc in absurd (omega arith)

-- No refusal has the number 0: an answer of numbers can say by 0 that nothing was refused.
abbrev pub Numbered : List Test → Type 0
Numbered ts = Only (λ n. 0 < n) ts
