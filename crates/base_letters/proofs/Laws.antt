-- The laws of the table. No contract cites this file. Assumes nothing.
use mathlib.Core.Path.{◌≡◌, refl, sym, ◌∙◌}
use mathlib.Core.Bool.{Bool, true, false, ◌||◌, cond, not}
use mathlib.Core.List.{[], ◌∷◌}
use Prim.Native.Nat.{ℕ, ◌+◌}
use Rattle.std.specs.Prelude.{Some, None}
use Rattle.std.specs.List.{position}
use lib.Dec.{eqb, ltb}
use borrow.Author.Tests.{eqb-true, eqb-false, eq-eqb, ne_eqb}
use Rattle.base_letters.specs.Letters.{letters, code, no_letter, searched, code_of, is_code, is_letter, says_code}

-- the search of the letters, by std's word
pub position_code : (b : ℕ) → says_code (position (λ x. eqb x b) (65 ∷ 67 ∷ 71 ∷ 84 ∷ [])) ≡ code_of b
unfolding code_of searched letters
position_code b = go (eqb 65 b) (eqb 67 b) (eqb 71 b) (eqb 84 b)
  where
    passed : Bool → Bool → Bool → Bool → ℕ
    passed t u v w = cond (not t) (1 + cond (not u) (1 + cond (not v) (1 + cond (not w) (1 + 0) 0) 0) 0) 0

    go : (t u v w : Bool)
        → says_code (cond (ltb (passed t u v w) 4) (Some (passed t u v w)) None)
        ≡ cond t (code 0) (cond u (code 1) (cond v (code 2) (cond w (code 3) no_letter)))
    go true u v w = refl
    go false true v w = refl
    go false false true w = refl
    go false false false true = refl
    go false false false false = refl

-- a byte is a letter where it is one of the table
pub letter_compared : (b : ℕ) → (((eqb b 65 || eqb b 67) || eqb b 71) || eqb b 84) ≡ is_letter b
unfolding code_of searched letters
letter_compared b = rw (eqb_turned 65 b, eqb_turned 67 b, eqb_turned 71 b, eqb_turned 84 b) (go (eqb b 65) (eqb b 67) (eqb b 71) (eqb b 84))
  where
    eqb_turned : (a b : ℕ) → eqb a b ≡ eqb b a
    eqb_turned a b = turned (eqb b a) refl
      where
        turned : (t : Bool) → eqb b a ≡ t → eqb a b ≡ eqb b a
        turned true q = eq-eqb a b (sym (eqb-true b a q)) ∙ sym q
        turned false q = ne_eqb a b (λ e. eqb-false b a q (sym e)) ∙ sym q

    go : (t u v w : Bool) → (((t || u) || v) || w) ≡ is_code (cond t (code 0) (cond u (code 1) (cond v (code 2) (cond w (code 3) no_letter))))
    go true u v w = refl
    go false true v w = refl
    go false false true w = refl
    go false false false true = refl
    go false false false false = refl
