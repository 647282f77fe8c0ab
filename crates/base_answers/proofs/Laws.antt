-- The laws of `first` and `in_turn`, by which every crate above meets an order of tests. No contract cites this file. Assumes nothing.
use mathlib.Core.Path.{◌≡◌, refl, sym, ap, ◌∙◌}
use mathlib.Core.Bool.{Bool, true, false, cond}
use mathlib.Core.List.{List, [], ◌∷◌, ◌++◌}
use Prim.Native.Nat.{ℕ, zero, suc, ◌+◌, ◌-◌, ◌≤◌, ◌<◌}
use native.Mathlib.Numerals.{add-one}
use native.Mathlib.Omega.{arith}
use Rattle.base_lists.proofs.RowLaws.{turns_none, turns_first}
use Rattle.base_answers.specs.declared.Refusal.{Refusal}
use Rattle.std.specs.Prelude.{Result, Ok, Err, eqb}
use Rattle.base_answers.specs.declared.Refusal.TheVariants as is
use Rattle.base_answers.specs.Answer.{Answer, given, refused, Sound, sound, Test, test, first, number_of, place_of, says_as, says, says_held}
use Rattle.base_lists.specs.Row.{in_turn}

-- ---- one test

module _ {A : Type 0} (ok : Bool) (n p : ℕ) (ts : List Test) (a : A) where
  -- a test that holds is passed
  pub first_pass : ok ≡ true → first (test ok n p ∷ ts) a ≡ first ts a
  unfolding first
  first_pass h = rw h

  -- one that fails is the answer
  pub first_fail : ok ≡ false → first (test ok n p ∷ ts) a ≡ refused n p
  unfolding first
  first_fail h = rw h

-- where the last test holds the value is given
pub first_last : {A : Type 0} (ok : Bool) (n p : ℕ) (a : A) → ok ≡ true → first (test ok n p ∷ []) a ≡ given a
unfolding first
first_last ok n p a h = rw h

-- a test that is passed, that fails, or that is the last
pub ruleset first_tests = (first_pass, first_fail, first_last)

-- what is given passed the first test
pub first_passed : {A : Type 0} (ok : Bool) (n p : ℕ) (ts : List Test) (a b : A)
    → first (test ok n p ∷ ts) a ≡ given b → (ok ≡ true) × (first ts a ≡ given b)
unfolding first
first_passed true n p ts a b e = (refl, e)
first_passed false n p ts a b e = let z : ◌≡◌ {A = ℕ} 0 1 = cc in absurd (omega arith)

-- ---- tests before other tests

module _ {A : Type 0} (ys : List Test) (a : A) where
  -- where the earlier ones hold the later ones answer
  pub first_holds : (xs : List Test) → first xs sound ≡ given sound → first (xs ++ ys) a ≡ first ys a
  unfolding first
  first_holds [] e = refl
  first_holds (test true n p ∷ xs) e = first_holds xs e
  first_holds (test false n p ∷ xs) e = let z : ◌≡◌ {A = ℕ} 0 1 = cc in absurd (omega arith)

  -- where one of the earlier ones fails it answers
  pub first_refused : (xs : List Test) {n p : ℕ} → first xs sound ≡ refused n p → first (xs ++ ys) a ≡ refused n p
  unfolding first
  first_refused [] e = let z : ◌≡◌ {A = ℕ} 0 1 = cc in absurd (omega arith)
  first_refused (test true n p ∷ xs) e = first_refused xs e
  first_refused (test false n p ∷ xs) e = cc

  -- what is given passed both
  pub first_both : (xs : List Test) (b : A) → first (xs ++ ys) a ≡ given b → (first xs sound ≡ given sound) × (first ys a ≡ given b)
  unfolding first
  first_both [] b e = (refl, e)
  first_both (test true n p ∷ xs) b e = first_both xs b e
  first_both (test false n p ∷ xs) b e = let z : ◌≡◌ {A = ℕ} 0 1 = cc in absurd (omega arith)

-- what is given is the value
pub first_value : {A : Type 0} (xs : List Test) (a b : A) → first xs a ≡ given b → a ≡ b
unfolding first
first_value [] a b e = cc
first_value (test true n p ∷ xs) a b e = first_value xs a b e
first_value (test false n p ∷ xs) a b e = let z : ◌≡◌ {A = ℕ} 0 1 = cc in absurd (omega arith)

-- the value has no part in a refusal
pub first_refused_any : {A B : Type 0} (xs : List Test) (a : A) (b : B) {n p : ℕ} → first xs a ≡ refused n p → first xs b ≡ refused n p
unfolding first
first_refused_any [] a b e = let z : ◌≡◌ {A = ℕ} 0 1 = cc in absurd (omega arith)
first_refused_any (test true n p ∷ xs) a b e = first_refused_any xs a b e
first_refused_any (test false n p ∷ xs) a b e = cc

-- nor in what holds
pub first_given_any : {A B : Type 0} (xs : List Test) (a a' : A) (b : B) → first xs a ≡ given a' → first xs b ≡ given b
unfolding first
first_given_any [] a a' b e = refl
first_given_any (test true n p ∷ xs) a a' b e = first_given_any xs a a' b e
first_given_any (test false n p ∷ xs) a a' b e = let z : ◌≡◌ {A = ℕ} 0 1 = cc in absurd (omega arith)

-- ---- tests in turn

module _ (f : ℕ → List Test) (n i : ℕ) where
  -- one turn more
  in_turn_more : i < n → in_turn f i (n - i) ≡ f i ++ in_turn f (i + 1) (n - (i + 1))
  in_turn_more h = let e : n - i ≡ suc (n - (i + 1)) = omega arith in rw (e, add-one) (turns_first f i (n - suc i))

  pub turn_holds : {A : Type 0} (a : A) → i < n → first (f i) sound ≡ given sound
      → first (in_turn f (i + 1) (n - (i + 1))) a ≡ first (in_turn f i (n - i)) a
  turn_holds a h e = sym (rw (in_turn_more h) (first_holds (in_turn f (i + 1) (n - (i + 1))) a (f i) e))

  pub turn_refused : {A : Type 0} (a : A) {q p : ℕ} → i < n → first (f i) sound ≡ refused q p
      → first (in_turn f i (n - i)) a ≡ refused q p
  turn_refused a h e = rw (in_turn_more h) (first_refused (in_turn f (i + 1) (n - (i + 1))) a (f i) e)

  pub turns_end : {A : Type 0} (a : A) → n ≤ i → first (in_turn f i (n - i)) a ≡ given a
  unfolding first
  turns_end a h = let e : n - i ≡ 0 = omega arith in rw (e, turns_none f i)

-- they hold exactly where each does
module _ (f : ℕ → List Test) where
  pub turns_hold : (n k : ℕ) → ((i : ℕ) → i < n → first (f (k + i)) sound ≡ given sound) → first (in_turn f k n) sound ≡ given sound
  unfolding first
  turns_hold zero k each = rw (turns_none f k)
  turns_hold (suc n) k each =
      let z : k + 0 ≡ k = omega arith in
      let later : (i : ℕ) → i < n → first (f (suc k + i)) sound ≡ given sound =
      λ i h. let next : k + suc i ≡ suc k + i = omega arith in rw next at (each (suc i) (omega arith)) in
      rw (turns_first f k n)
      (first_holds (in_turn f (suc k) n) sound (f k) (rw z at (each 0 (omega arith))) ∙ turns_hold n (suc k) later)

  pub turns_held : (n k i : ℕ) → first (in_turn f k n) sound ≡ given sound → i < n → first (f (k + i)) sound ≡ given sound
  turns_held zero k i e h = absurd (omega arith)
  turns_held (suc n) k zero e h =
      let z : k + 0 ≡ k = omega arith in
      rw z (first_both (in_turn f (suc k) n) sound (f k) sound (rw (turns_first f k n) at e)).0
  turns_held (suc n) k (suc i) e h =
      let next : k + suc i ≡ suc k + i = omega arith in
      rw next (turns_held n (suc k) i (first_both (in_turn f (suc k) n) sound (f k) sound (rw (turns_first f k n) at e)).1 (omega arith))

-- ---- what is given is not refused

pub given_not_refused : {A : Type 0} {a : A} {n p : ℕ} → given a ≡ refused n p → ⊥
given_not_refused e = let z : ◌≡◌ {A = ℕ} 0 1 = cc in absurd (omega arith)

-- a refusal is the same whatever would have been given
pub refusal_same : {A B : Type 0} {n p m q : ℕ} → ◌≡◌ {A = Answer A} (refused n p) (refused m q)
    → ◌≡◌ {A = Answer B} (refused n p) (refused m q)
refusal_same {A} {B} e = ap back e
  where
    back : Answer A → Answer B
    back (given a) = refused 0 0
    back (refused n p) = refused n p

-- ---- enums that say an answer

-- an enum that can be had back from what it says: two that say the same are one
pub says_one : {E T : Type 0} (says : E → T) (back : T → E) → ((r : E) → back (says r) ≡ r) → (r s : E) → says r ≡ says s → r ≡ s
says_one says back had r s e = sym (had r) ∙ ap back e ∙ had s

-- the refusal by a number, of these refusals, at a place
refusal_of : List (ℕ → Refusal) → ℕ → ℕ → Refusal
refusal_of [] n p = is.Short
refusal_of (r ∷ rs) n p = cond (eqb (number_of (r p)) n) (r p) (refusal_of rs n p)

refusals : List (ℕ → Refusal)
refusals =
    (λ _. is.Short) ∷ is.Check ∷ is.Index ∷ (λ _. is.Form) ∷ (λ _. is.Kind) ∷ (λ _. is.WordLength) ∷ (λ _. is.Count) ∷ is.Spare ∷
    (λ _. is.Size) ∷ is.Word ∷ is.Places ∷ (λ _. is.Room) ∷ (λ _. is.Lists) ∷ (λ _. is.Absent) ∷ (λ _. is.Name) ∷ is.Letter ∷ (λ _. is.Line) ∷
    is.Text ∷ is.Mixed ∷ is.Uneven ∷ is.Zero ∷ is.Wider ∷ []

refusal_back : (r : Refusal) → refusal_of refusals (number_of r) (place_of r) ≡ r
unfolding refusals refusal_of
refusal_back is.Short = refl
refusal_back (is.Check p) = refl
refusal_back (is.Index p) = refl
refusal_back is.Form = refl
refusal_back is.Kind = refl
refusal_back is.WordLength = refl
refusal_back is.Count = refl
refusal_back (is.Spare p) = refl
refusal_back is.Size = refl
refusal_back (is.Word p) = refl
refusal_back (is.Places p) = refl
refusal_back is.Room = refl
refusal_back is.Lists = refl
refusal_back is.Absent = refl
refusal_back is.Name = refl
refusal_back (is.Letter p) = refl
refusal_back is.Line = refl
refusal_back (is.Text p) = refl
refusal_back (is.Mixed p) = refl
refusal_back (is.Uneven p) = refl
refusal_back (is.Zero p) = refl
refusal_back (is.Wider p) = refl

-- what is said can be had back where what is given can
module _ {A B : Type 0} (view : A → B) (back : B → A) (had : (a : A) → back (view a) ≡ a) where
  result_back : Answer B → Result A Refusal
  result_back (given b) = Ok (back b)
  result_back (refused n p) = Err (refusal_of refusals n p)

  result_back_lem : (r : Result A Refusal) → result_back (says_as view r) ≡ r
  unfolding result_back
  result_back_lem (Ok a) = ap Ok (had a)
  result_back_lem (Err r) = ap Err (refusal_back r)

  pub says_as_same : (r s : Result A Refusal) → says_as view r ≡ says_as view s → r ≡ s
  says_as_same = says_one (says_as view) result_back result_back_lem

-- two results that say the same are one
pub says_same : {A : Type 0} (r s : Result A Refusal) → says r ≡ says s → r ≡ s
says_same = says_as_same (λ a. a) (λ a. a) (λ _. refl)

pub held_one : (h k : Result (Unit {0}) Refusal) → says_held h ≡ says_held k → h ≡ k
held_one = says_as_same (λ _. sound) (λ _. tt) (λ _. refl)

-- what a result says of the answer that it speaks for
module _ {A B : Type 0} (view : A → B) {t : Answer B} {h : Result A Refusal} (e : says_as view h ≡ t) where
  pub said_given : {a : A} → h ≡ Ok a → t ≡ given (view a)
  said_given q = sym e ∙ ap (says_as view) q

  pub said_refused : {r : Refusal} → h ≡ Err r → t ≡ refused (number_of r) (place_of r)
  said_refused q = sym e ∙ ap (says_as view) q

-- and of the tests, where nothing is given but that they hold
module _ {t : Answer Sound} {h : Result (Unit {0}) Refusal} (e : says_held h ≡ t) where
  pub told_holds : {u : Unit {0}} → h ≡ Ok u → t ≡ given sound
  told_holds = said_given (λ _. sound) e

  pub told_refused : {r : Refusal} → h ≡ Err r → t ≡ refused (number_of r) (place_of r)
  told_refused = said_refused (λ _. sound) e
