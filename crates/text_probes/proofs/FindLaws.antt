-- Where a byte first stands. Assumes nothing.
use mathlib.Core.Path.{◌≡◌, refl, ap, ◌∙◌}
use mathlib.Core.Bool.{Bool, true, false, cond}
use mathlib.Core.List.{List, [], ◌∷◌, ◌++◌}
use Prim.Native.Nat.{ℕ, suc, ◌+◌}
use native.Mathlib.Omega.{arith}
use lib.ListN.{length, length-append}
use lib.Dec.{eqb}
use borrow.Author.Tests.{eq-eqb, ne_eqb}

-- where the byte b first stands in xs; as many as xs has where it does not
unfoldable pub first_at : ℕ → List ℕ → ℕ
first_at b [] = 0
first_at b (x ∷ xs) = cond (eqb x b) 0 (suc (first_at b xs))

module _ (b : ℕ) where
  -- the first byte is b, or it is not
  at_here : (x : ℕ) (xs : List ℕ) → x ≡ b → first_at b (x ∷ xs) ≡ 0
  unfolding first_at
  at_here x xs e = rw (eq-eqb x b e)

  at_later : (x : ℕ) (xs : List ℕ) → (x ≡ b → ⊥) → first_at b (x ∷ xs) ≡ suc (first_at b xs)
  unfolding first_at
  at_later x xs n = rw (ne_eqb x b n)

  -- what stands after bytes that have no b
  pub at_after : (xs ys : List ℕ) → first_at b xs ≡ length xs → first_at b (xs ++ ys) ≡ length xs + first_at b ys
  unfolding first_at
  at_after [] ys e = omega arith
  at_after (x ∷ xs) ys e = go (at_after xs ys) (eqb x b) e
    where
      go : (first_at b xs ≡ length xs → first_at b (xs ++ ys) ≡ length xs + first_at b ys) → (t : Bool)
          → cond t 0 (suc (first_at b xs)) ≡ suc (length xs)
          → cond t 0 (suc (first_at b (xs ++ ys))) ≡ suc (length xs) + first_at b ys
      go rest true e = absurd (omega arith)
      go rest false e = omega (arith, rest (omega arith))

  pub at_mark : (xs ys : List ℕ) → first_at b xs ≡ length xs → first_at b (xs ++ (b ∷ ys)) ≡ length xs
  at_mark xs ys e = omega (arith, at_after xs (b ∷ ys) e, at_here b ys refl)

  -- bytes that have no b, joined
  pub lack_joined : (xs ys : List ℕ) → first_at b xs ≡ length xs → first_at b ys ≡ length ys → first_at b (xs ++ ys) ≡ length (xs ++ ys)
  lack_joined xs ys e h = at_after xs ys e ∙ omega (arith, length-append xs ys)

  pub lack_one : (x : ℕ) (xs : List ℕ) → (x ≡ b → ⊥) → first_at b xs ≡ length xs → first_at b (x ∷ xs) ≡ suc (length xs)
  lack_one x xs n e = at_later x xs n ∙ ap suc e
