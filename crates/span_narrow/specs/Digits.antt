-- Some of a list's entries as a number: a binary digit for each entry of the list, the first most significant, as `bits_of` of `span_memory` has
-- the marks of a list.
--   bit b                          == 1 or 0
--   picked c js                    == those of the list js whose digit in c is 1
--   trial_digits ok leads word c w js
--                                  == c, and after it a digit for each of js: 1 for one that is tried and leads on, where w was the last word
--                                     tried
--   FirstIs ks p                   == p is the first of ks, and says whether there is another
--   FirstOf ks r                   == r is none where ks has none, or that of ks
--   Apart js                       == no entry is twice in the list
--   MarkedBy list marks b marks'   == the digits of b are the marks of the list, and the other marks are as they were
--   MarkedWith list marks v marks' == each entry of the list is marked with v, and the other marks are as they were
-- Assumes nothing.
use Rattle.std.specs.Prelude.{◌≡◌, Bool, cond, Option, None, Some, ◌&&◌, not, List, [], ◌∷◌, ℕ, ◌+◌, ◌*◌, ◌/◌, ◌%◌, ◌^◌, ◌≤◌, eqb, length, get_or}
use Rattle.base_lists.specs.Members.{In, Rising}
use Rattle.span_layers.specs.Completed.{is_some}
use Rattle.span_memory.specs.Memory.{bits_of}
use Rattle.span_narrow.specs.declared.digits.Pick.{Pick}

abbrev pub bit : Bool → ℕ
bit b = cond b 1 0

unfoldable pub picked : ℕ → List ℕ → List ℕ
picked c [] = []
picked c (j ∷ js) = cond (eqb (c / 2 ^ length js % 2) 1) (j ∷ picked c js) (picked c js)

unfoldable pub trial_digits : (ℕ → Bool) → (ℕ → Bool) → (ℕ → ℕ) → ℕ → ℕ → List ℕ → ℕ
trial_digits ok leads word c w [] = c
trial_digits ok leads word c w (j ∷ js) =
    cond (ok j && not (eqb (word j) w)) (trial_digits ok leads word (2 * c + bit (leads j)) (word j) js) (trial_digits ok leads word (2 * c) w js)

pub record FirstIs (ks : List ℕ) (p : Pick) : Type 0 where
  pub rest : List ℕ
  pub split : ks ≡ p.e ∷ rest
  pub more_is : p.more ≡ is_some rest

pub data FirstOf (ks : List ℕ) (r : Option Pick) : Type 0 where
  nobody : r ≡ None → ks ≡ [] → FirstOf ks r
  somebody : {p : Pick} → r ≡ Some p → FirstIs ks p → FirstOf ks r

pub record Apart (js : List ℕ) : Type 0 where
  pub each : Rising (λ j k. j ≡ k → ⊥) js

pub record MarkedBy (list marks : List ℕ) (b : ℕ) (marks' : List ℕ) : Type 0 where
  pub all : length marks' ≡ length marks
  pub digits : bits_of marks' list ≡ b
  pub small : (j : ℕ) → In j list → get_or marks' j 0 ≤ 1
  pub others : (j : ℕ) → (In j list → ⊥) → get_or marks' j 0 ≡ get_or marks j 0

pub record MarkedWith (list marks : List ℕ) (v : ℕ) (marks' : List ℕ) : Type 0 where
  pub all : length marks' ≡ length marks
  pub each : (j : ℕ) → In j list → get_or marks' j 0 ≡ v
  pub others : (j : ℕ) → (In j list → ⊥) → get_or marks' j 0 ≡ get_or marks j 0
