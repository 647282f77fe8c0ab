-- The laws of a part put into a list, and of a list that is written from front to back. Assumes nothing.
use mathlib.Core.Path.{◌≡◌, sym, ap, ◌∙◌}
use mathlib.Core.List.{List, [], ◌∷◌, ◌++◌, append_assoc, append-nil}
use Prim.Native.Nat.{ℕ, suc, ◌+◌, ◌≤◌, ◌<◌}
use native.Mathlib.Numerals.{add-one}
use native.Mathlib.Omega.{arith}
use lib.ListN.{length, take, drop, set, length-append, length-drop, take-append-drop}
use lib.Seq.{set_split, drop-length, drop-drop, take_at, drop_at, length-take-le, append_snoc}
use Rattle.base_lists.specs.Parts.{put_at}

-- ---- bytes put into a buffer

module _ (l : List ℕ) where
  pub put_none : (at : ℕ) → put_at [] at l ≡ l
  unfolding put_at
  put_none at =
      let z : at + 0 ≡ at = omega arith in
      rw z (ap (λ (xs : List ℕ). xs ++ drop at l) (append-nil (take at l)) ∙ take-append-drop at l)

  -- one byte
  pub put_one : (at x : ℕ) → at < length l → set l at x ≡ put_at (x ∷ []) at l
  unfolding put_at
  put_one at x h = rw (add-one at) (set_split l at x h ∙ sym (append_snoc (take at l) x (drop (suc at) l)))

  module _ (xs : List ℕ) (at : ℕ) (fits : at + length xs ≤ length l) where
    -- the bytes up to the end of what was put
    length_front : length (take at l ++ xs) ≡ at + length xs
    length_front = omega (arith, length-append (take at l) xs, length-take-le at l (omega arith))

    pub put_length : length (put_at xs at l) ≡ length l
    unfolding put_at
    put_length =
        omega (arith, length-append (take at l ++ xs) (drop (at + length xs) l), length_front, length-drop (at + length xs) l)

    -- more bytes, right after them
    pub put_more : (ys : List ℕ) → put_at ys (at + length xs) (put_at xs at l) ≡ put_at (xs ++ ys) at l
    unfolding put_at
    put_more ys =
        let n = at + length xs in
        let front : take n (take at l ++ xs ++ drop n l) ≡ take at l ++ xs = take_at (take at l ++ xs) (drop n l) n length_front in
        let back : drop (n + length ys) (take at l ++ xs ++ drop n l) ≡ drop (n + length ys) l =
        sym (drop-drop (length ys) n (take at l ++ xs ++ drop n l))
        ∙ ap (drop (length ys)) (drop_at (take at l ++ xs) (drop n l) n length_front)
        ∙ drop-drop (length ys) n l in
        let whole : n + length ys ≡ at + length (xs ++ ys) = omega (arith, length-append xs ys) in
        rw (front, back, whole, append_assoc (take at l) xs ys)

  -- as a part that was lent comes back
  pub put_part : (xs : List ℕ) (at n : ℕ) → length xs ≡ n → take at l ++ (xs ++ drop n (drop at l)) ≡ put_at xs at l
  unfolding put_at
  put_part xs at n h =
      let rest : drop n (drop at l) ≡ drop (at + length xs) l = drop-drop n at l ∙ ap (λ (i : ℕ). drop (at + i) l) (sym h) in
      ap (λ (ys : List ℕ). take at l ++ (xs ++ ys)) rest ∙ sym (append_assoc (take at l) xs (drop (at + length xs) l))

  -- at the start
  pub put_start : (xs : List ℕ) → put_at xs 0 l ≡ xs ++ drop (length xs) l
  unfolding put_at
  put_start xs = let z : 0 + length xs ≡ length xs = omega arith in rw z

  -- over all of it
  pub put_whole : (xs : List ℕ) → length xs ≡ length l → put_at xs 0 l ≡ xs
  put_whole xs h = put_start xs ∙ ap (λ (i : ℕ). xs ++ drop i l) h ∙ ap (λ (ys : List ℕ). xs ++ ys) (drop-length l) ∙ append-nil xs

  -- what stands at the start was put there
  pub put_own : (n : ℕ) → n ≤ length l → put_at (take n l) 0 l ≡ l
  unfolding put_at
  put_own n h = let z : 0 + length (take n l) ≡ n = omega (arith, length-take-le n l h) in rw z (take-append-drop n l)

-- ---- a buffer that is written from front to back: the bytes xs from `at` on stand in it, and the next are put after them

module _ (l : List ℕ) (at : ℕ) (xs : List ℕ) {l' : List ℕ} {to : ℕ} (stands : l' ≡ put_at xs at l) (next : to ≡ at + length xs) where
  pub put_on : (ys : List ℕ) → to + length ys ≤ length l → put_at ys to l' ≡ put_at (xs ++ ys) at l
  put_on ys h = rw (stands, next) (put_more l xs at (omega arith) ys)

  pub put_next : (x : ℕ) → to < length l → set l' to x ≡ put_at (xs ++ (x ∷ [])) at l
  put_next x h =
      let same : length l' ≡ length l = rw stands (put_length l xs at (omega arith)) in
      put_one l' to x (omega arith) ∙ put_on (x ∷ []) (omega arith)
