-- Which of some tests, and of some lists of tests in turn, refuses. Assumes nothing.
use mathlib.Core.Path.{◌≡◌, refl, sym, ap, ◌∙◌}
use mathlib.Core.Logic.{◌⊎◌, inl, inr}
use mathlib.Core.Bool.{Bool, true, false}
use mathlib.Core.List.{List, [], ◌∷◌, ◌++◌}
use Prim.Native.Nat.{ℕ, zero, suc, ◌+◌, ◌<◌}
use native.Mathlib.Omega.{arith}
use Rattle.base_answers.specs.Answer.{Answer, given, refused, Sound, sound, Test, test, first}
use Rattle.base_lists.specs.Row.{in_turn}
use Rattle.base_answers.proofs.Laws.{first_holds, first_refused, turns_hold, given_not_refused}
use Rattle.base_lists.proofs.RowLaws.{turns_none, turns_first, turns_at}

-- a test that fails, or one that is passed
pub first_cases : {A : Type 0} (ok : Bool) (n p : ℕ) (ts : List Test) (a : A) {q r : ℕ} → first (test ok n p ∷ ts) a ≡ refused q r
    → ((ok ≡ false) × (n ≡ q) × (p ≡ r)) ⊎ ((ok ≡ true) × (first ts a ≡ refused q r))
unfolding first
first_cases true n p ts a e = inr (refl, e)
first_cases false n p ts a e = inl (refl, cc, cc)

pub none_refuse : {q r : ℕ} → first [] sound ≡ refused q r → ⊥
unfolding first
none_refuse e = given_not_refused e

-- ---- lists of tests in turn

-- the first of them that refuses
pub record FirstFault (f : ℕ → List Test) (k n q p : ℕ) : Type 0 where
  pub at : ℕ
  pub within : at < n
  pub before : (i : ℕ) → i < at → first (f (k + i)) sound ≡ given sound
  pub fails : first (f (k + at)) sound ≡ refused q p

pub turns_fault : (f : ℕ → List Test) (k n : ℕ) {q p : ℕ} → first (in_turn f k n) sound ≡ refused q p → FirstFault f k n q p
unfolding first
turns_fault f k zero e = absurd (given_not_refused (rw (turns_none f k) at e))
turns_fault f k (suc n) {q} {p} e =
    go (first (f k) sound) refl (λ holds. turns_fault f (suc k) n (sym (first_holds (in_turn f (suc k) n) sound (f k) holds) ∙ in_turn_lem))
  where
    in_turn_lem : first (f k ++ in_turn f (suc k) n) sound ≡ refused q p
    in_turn_lem = rw (turns_first f k n) at e

    go : (a : Answer Sound) → first (f k) sound ≡ a → (first (f k) sound ≡ given sound → FirstFault f (suc k) n q p) → FirstFault f k (suc n) q p
    go (refused q' p') own later =
        let here : k + 0 ≡ k = omega arith in
        let same : refused q' p' ≡ refused q p = sym (first_refused (in_turn f (suc k) n) sound (f k) own) ∙ in_turn_lem in
        record { at = 0; within = omega arith; before = λ i h. absurd (omega arith); fails = rw here (own ∙ same) }
    go (given sound) own later =
        let rest = later own in
        let next : k + suc rest.at ≡ suc k + rest.at = omega arith in
        record { at = suc rest.at; within = omega (arith, rest.within); before = before_it rest.before; fails = rw next rest.fails }
      where
        before_it : {at : ℕ} → ((i : ℕ) → i < at → first (f (suc k + i)) sound ≡ given sound)
            → (i : ℕ) → i < suc at → first (f (k + i)) sound ≡ given sound
        before_it each zero h = let here : k + 0 ≡ k = omega arith in rw here own
        before_it each (suc i) h = let next : k + suc i ≡ suc k + i = omega arith in rw next (each i (omega arith))

pub fault_turns : {f : ℕ → List Test} {k n q p : ℕ} → FirstFault f k n q p → first (in_turn f k n) sound ≡ refused q p
fault_turns {f} {k} {n} x =
    ap (λ (ts : List Test). first ts sound) (turns_at f k n x.at x.within)
    ∙ first_holds _ _ (in_turn f k x.at) (turns_hold f x.at k x.before)
    ∙ first_refused _ _ (f (k + x.at)) x.fails
