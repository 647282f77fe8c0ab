-- The laws of `row` and `in_turn`. Assumes nothing.
use mathlib.Core.Path.{◌≡◌, refl, sym, ap, ◌∙◌}
use mathlib.Core.List.{List, [], ◌∷◌, ◌++◌, map, append_assoc, append-nil}
use Prim.Native.Nat.{ℕ, zero, suc, ◌+◌, ◌*◌, ◌-◌, ◌<◌}
use native.Mathlib.Omega.{arith}
use lib.ListN.{length, get_or, length-append}
use lib.Seq.{ext_get_or}
use Rattle.base_lists.specs.Row.{row, in_turn}

module _ {A : Type 0} (f : ℕ → A) where
  pub row_none : (k : ℕ) → row f k 0 ≡ []
  unfolding row
  row_none k = refl

  pub row_first : (k n : ℕ) → row f k (suc n) ≡ f k ∷ row f (suc k) n
  unfolding row
  row_first k n = refl

  pub length_row : (k n : ℕ) → length (row f k n) ≡ n
  unfolding row
  length_row k zero = refl
  length_row k (suc n) = ap suc (length_row (suc k) n)

  -- the element at i
  pub row_at : (d : A) (k n i : ℕ) → i < n → get_or (row f k n) i d ≡ f (k + i)
  unfolding row
  row_at d k zero i h = absurd (omega arith)
  row_at d k (suc n) zero h = ap f (omega arith)
  row_at d k (suc n) (suc i) h = row_at d (suc k) n i (omega arith) ∙ ap f (omega arith)

  -- one more at the end
  pub row_more : (k n : ℕ) → row f k (suc n) ≡ row f k n ++ (f (k + n) ∷ [])
  unfolding row
  row_more k zero = ap (λ (x : A). x ∷ []) (ap f (omega arith))
  row_more k (suc n) =
      ap (λ (xs : List A). f k ∷ xs) (row_more (suc k) n ∙ ap (λ (x : A). row f (suc k) n ++ (x ∷ [])) (ap f (omega arith)))

  -- elements that are the same one by one
  pub row_same : (g : ℕ → A) (k n : ℕ) → ((i : ℕ) → i < n → f (k + i) ≡ g (k + i)) → row f k n ≡ row g k n
  unfolding row
  row_same g k zero each = refl
  row_same g k (suc n) each =
      let z : k + 0 ≡ k = omega arith in
      let here : f k ≡ g k = rw z at (each 0 (omega arith)) in
      let later : (i : ℕ) → i < n → f (suc k + i) ≡ g (suc k + i) =
      λ i h. let next : k + suc i ≡ suc k + i = omega arith in rw next at (each (suc i) (omega arith)) in
      ap (λ (x : A). x ∷ row f (suc k) n) here ∙ ap (λ (xs : List A). g k ∷ xs) (row_same g (suc k) n later)

-- a row of which each element is changed
pub map_row : {A B : Type 0} (g : A → B) (f : ℕ → A) (k n : ℕ) → map g (row f k n) ≡ row (λ i. g (f i)) k n
unfolding row
map_row g f k zero = refl
map_row {B} g f k (suc n) = ap (λ (xs : List B). g (f k) ∷ xs) (map_row g f (suc k) n)

-- a list is the row of its elements
pub row_of : {A : Type 0} (d : A) (xs : List A) → row (λ i. get_or xs i d) 0 (length xs) ≡ xs
row_of d xs =
    let n : ℕ = length xs in
    ext_get_or d (row (λ i. get_or xs i d) 0 n) xs (length_row (λ i. get_or xs i d) 0 n) (λ i h.
    let here : 0 + i ≡ i = omega arith in
    rw here at (row_at (λ j. get_or xs j d) d 0 n i (omega (arith, length_row (λ j. get_or xs j d) 0 n))))

-- ---- lists in turn

module _ {A : Type 0} (f : ℕ → List A) where
  pub turns_none : (k : ℕ) → in_turn f k 0 ≡ []
  unfolding in_turn
  turns_none k = refl

  pub turns_first : (k n : ℕ) → in_turn f k (suc n) ≡ f k ++ in_turn f (suc k) n
  unfolding in_turn
  turns_first k n = refl

  -- one more at the end
  pub turns_more : (k n : ℕ) → in_turn f k (suc n) ≡ in_turn f k n ++ f (k + n)
  unfolding in_turn
  turns_more k zero = let z : k + 0 ≡ k = omega arith in rw z (append-nil (f k))
  turns_more k (suc n) =
      let next : k + suc n ≡ suc k + n = omega arith in
      ap (λ (xs : List A). f k ++ xs) (turns_more (suc k) n)
      ∙ sym (append_assoc (f k) (in_turn f (suc k) n) (f (suc k + n)))
      ∙ rw next refl

  -- where each has as many elements
  pub length_turns : (w : ℕ) → ((k : ℕ) → length (f k) ≡ w) → (k n : ℕ) → length (in_turn f k n) ≡ w * n
  unfolding in_turn
  length_turns w each k zero = omega arith
  length_turns w each k (suc n) = omega (arith, length-append (f k) (in_turn f (suc k) n), each k, length_turns w each (suc k) n)

  -- the list at i, with those before it and those after it
  pub turns_at : (k n i : ℕ) → i < n → in_turn f k n ≡ in_turn f k i ++ (f (k + i) ++ in_turn f (k + i + 1) (n - (i + 1)))
  unfolding in_turn
  turns_at k zero i h = absurd (omega arith)
  turns_at k (suc n) zero h =
      let here : k + 0 ≡ k = omega arith in
      let next : k + 1 ≡ suc k = omega arith in
      let rest : suc n - 1 ≡ n = omega arith in
      rw (here, next, rest)
  turns_at k (suc n) (suc i) h =
      let here : k + suc i ≡ suc k + i = omega arith in
      let rest : suc n - (suc i + 1) ≡ n - (i + 1) = omega arith in
      rw (here, rest)
      (ap (λ (xs : List A). f k ++ xs) (turns_at (suc k) n i (omega arith))
      ∙ sym (append_assoc (f k) (in_turn f (suc k) i) (f (suc k + i) ++ in_turn f (suc k + i + 1) (n - (i + 1)))))

-- lists that are the same one by one
pub turns_same : {A : Type 0} (f g : ℕ → List A) (k j n : ℕ) → ((i : ℕ) → i < n → f (k + i) ≡ g (j + i)) → in_turn f k n ≡ in_turn g j n
unfolding in_turn
turns_same f g k j zero each = refl
turns_same {A} f g k j (suc n) each =
    let k-here : k + 0 ≡ k = omega arith in
    let j-here : j + 0 ≡ j = omega arith in
    let here : f k ≡ g j = rw (k-here, j-here) at (each 0 (omega arith)) in
    let later : (i : ℕ) → i < n → f (suc k + i) ≡ g (suc j + i) =
    λ i h.
    let k-next : k + suc i ≡ suc k + i = omega arith in
    let j-next : j + suc i ≡ suc j + i = omega arith in
    rw (k-next, j-next) at (each (suc i) (omega arith)) in
    ap (λ (xs : List A). xs ++ in_turn f (suc k) n) here ∙ ap (λ (xs : List A). g j ++ xs) (turns_same f g (suc k) (suc j) n later)
