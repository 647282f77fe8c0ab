-- Laws of digits: those that are tried and lead on are picked by the digits that were told. Assumes nothing.
use mathlib.Core.Path.{◌≡◌, refl, sym, ap, ◌∙◌}
use mathlib.Core.Bool.{Bool, true, false, cond, ◌&&◌, not}
use mathlib.Core.List.{List, [], ◌∷◌}
use Prim.Native.Nat.{ℕ, suc, ◌+◌, ◌*◌, ◌/◌, ◌%◌, ◌^◌}
use native.Mathlib.Omega.{arith}
use native.Mathlib.Nat.{pow-suc, pow-zero, div-one, div-div-eq-div-mul}
use lib.Dec.{eqb}
use lib.ListN.{length}
use Rattle.base_lists.specs.Members.{keep}
use Rattle.span_steps.specs.Steps.{tries}
use Rattle.span_steps.proofs.TriedLaws.{tries_none, tries_skip, tries_take}
use Rattle.span_narrow.specs.Digits.{bit, picked, trial_digits}

-- ---- a digit

last_digit : (b : Bool) (c : ℕ) → (2 * c + bit b) % 2 ≡ bit b
last_digit true c = omega arith
last_digit false c = omega arith

front_digits : (b : Bool) (c : ℕ) → (2 * c + bit b) / 2 ≡ c
front_digits true c = omega arith
front_digits false c = omega arith

is_digit : (b : Bool) → eqb (bit b) 1 ≡ b
is_digit true = refl
is_digit false = refl

-- ---- what is told

module _ (ok leads : ℕ → Bool) (word : ℕ → ℕ) where
  -- the digits after c leave c
  told_front : (c w : ℕ) (js : List ℕ) → trial_digits ok leads word c w js / 2 ^ length js ≡ c
  unfolding trial_digits
  told_front c w [] = ap (λ n. c / n) (pow-zero 2) ∙ div-one c
  told_front c w (j ∷ js) = go (ok j && not (eqb (word j) w)) (told_front (2 * c + bit (leads j)) (word j) js) (told_front (2 * c) w js)
    where
      less : (x b : ℕ) → b / 2 ≡ c → x / 2 ^ length js ≡ b → x / 2 ^ suc (length js) ≡ c
      less x b h e =
          ap (λ n. x / n) (pow-suc 2 (length js)) ∙ sym (div-div-eq-div-mul x (2 ^ length js) 2) ∙ ap (λ n. n / 2) e ∙ h

      go : (t : Bool) → trial_digits ok leads word (2 * c + bit (leads j)) (word j) js / 2 ^ length js ≡ 2 * c + bit (leads j)
          → trial_digits ok leads word (2 * c) w js / 2 ^ length js ≡ 2 * c
          → cond t (trial_digits ok leads word (2 * c + bit (leads j)) (word j) js) (trial_digits ok leads word (2 * c) w js) / 2 ^ suc (length js) ≡ c
      go true e f = less _ _ (front_digits (leads j) c) e
      go false e f = less _ _ (omega arith) f

  -- those that are tried and lead on are picked
  pub told_picked : (c w : ℕ) (js : List ℕ) → picked (trial_digits ok leads word c w js) js ≡ keep leads (tries ok word w js)
  unfolding trial_digits picked
  told_picked c w [] = rw (tries_none ok word w)
  told_picked c w (j ∷ js) =
      go (ok j && not (eqb (word j) w)) refl (told_picked (2 * c + bit (leads j)) (word j) js) (told_picked (2 * c) w js)
    where
      new : (x : ℕ) → x / 2 ^ length js ≡ 2 * c + bit (leads j) → picked x js ≡ keep leads (tries ok word (word j) js)
          → cond (eqb (x / 2 ^ length js % 2) 1) (j ∷ picked x js) (picked x js) ≡ keep leads (j ∷ tries ok word (word j) js)
      new x front more = rw (front, last_digit (leads j) c, is_digit (leads j), more)

      old : (x : ℕ) → x / 2 ^ length js ≡ 2 * c → picked x js ≡ keep leads (tries ok word w js)
          → cond (eqb (x / 2 ^ length js % 2) 1) (j ∷ picked x js) (picked x js) ≡ keep leads (tries ok word w js)
      old x front more = let even : 2 * c % 2 ≡ 0 = omega arith in rw (front, even, more)

      go : (t : Bool) → ok j && not (eqb (word j) w) ≡ t
          → picked (trial_digits ok leads word (2 * c + bit (leads j)) (word j) js) js ≡ keep leads (tries ok word (word j) js)
          → picked (trial_digits ok leads word (2 * c) w js) js ≡ keep leads (tries ok word w js)
          → picked (cond t (trial_digits ok leads word (2 * c + bit (leads j)) (word j) js) (trial_digits ok leads word (2 * c) w js)) (j ∷ js)
          ≡ keep leads (tries ok word w (j ∷ js))
      go true q e f = rw (tries_take ok word w j js q) (new _ (told_front (2 * c + bit (leads j)) (word j) js) e)
      go false q e f = rw (tries_skip ok word w j js q) (old _ (told_front (2 * c) w js) f)
