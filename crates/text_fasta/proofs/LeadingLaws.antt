-- Laws of how many stand before the first that is not ok, and of whether all are. Assumes nothing.
use mathlib.Core.Path.{◌≡◌, refl, sym, ap, ◌∙◌}
use mathlib.Core.Bool.{Bool, true, false, ◌&&◌, cond, and_assoc, and-true}
use mathlib.Core.List.{List, [], ◌∷◌, ◌++◌}
use Prim.Native.Nat.{ℕ, zero, suc, ◌+◌, ◌*◌, ◌≤◌, ◌<◌}
use native.Mathlib.Numerals.{add-one}
use native.Mathlib.Omega.{arith}
use lib.ListN.{length, get_or, take, drop, drop_of_length-le, take-append-drop}
use lib.Seq.{drop-cons, drop-drop}
use lib.Dec.{eqb}
use borrow.Author.Tests.{eqb-true, eqb-false, eq-eqb, ne_eqb}
use Rattle.std.specs.Simd.{first_chunks}
use Rattle.std.specs.List.{AllWithin, HoldsAt}
use Rattle.std.specs.Prelude.{Option, Some, None}
use Rattle.std.specs.Option.{MatchOption, unwrap_or}
use Rattle.base_lists.proofs.Fold.{all_turn, all_end}
use Rattle.text_fasta.specs.Record.{leading, are_all}

module _ (ok : ℕ → Bool) where
  leading_on : (x : ℕ) (xs : List ℕ) → ok x ≡ true → leading ok (x ∷ xs) ≡ suc (leading ok xs)
  unfolding leading
  leading_on x xs e = rw e

  leading_off : (x : ℕ) (xs : List ℕ) → ok x ≡ false → leading ok (x ∷ xs) ≡ 0
  unfolding leading
  leading_off x xs e = rw e

  pub leading_few : (xs : List ℕ) → leading ok xs ≤ length xs
  unfolding leading
  leading_few [] = omega arith
  leading_few (x ∷ xs) = go (leading_few xs) (ok x)
    where
      go : leading ok xs ≤ length xs → (t : Bool) → cond t (suc (leading ok xs)) 0 ≤ suc (length xs)
      go later true = omega arith
      go later false = omega arith

  -- the first that is not ok
  pub leading_next : (xs : List ℕ) → leading ok xs < length xs → ok (get_or xs (leading ok xs) 0) ≡ false
  unfolding leading
  leading_next [] h = absurd (omega arith)
  leading_next (x ∷ xs) h = go (leading_next xs) (ok x) refl h
    where
      go : (leading ok xs < length xs → ok (get_or xs (leading ok xs) 0) ≡ false) → (t : Bool) → ok x ≡ t
          → cond t (suc (leading ok xs)) 0 < suc (length xs)
          → ok (get_or (x ∷ xs) (cond t (suc (leading ok xs)) 0) 0) ≡ false
      go later true q h = later (omega arith)
      go later false q h = q

  -- of the first k
  pub leading_take : (k : ℕ) (xs : List ℕ) → leading ok (take k xs) < k → leading ok (take k xs) ≡ leading ok xs
  unfolding leading
  leading_take zero xs h = absurd (omega arith)
  leading_take (suc k) [] h = refl
  leading_take (suc k) (x ∷ xs) h = go (leading_take k xs) (ok x) h
    where
      go : (leading ok (take k xs) < k → leading ok (take k xs) ≡ leading ok xs) → (t : Bool)
          → cond t (suc (leading ok (take k xs))) 0 < suc k → cond t (suc (leading ok (take k xs))) 0 ≡ cond t (suc (leading ok xs)) 0
      go later true h = ap suc (later (omega arith))
      go later false h = refl

  pub leading_take_few : (k : ℕ) (xs : List ℕ) → leading ok (take k xs) ≤ leading ok xs
  unfolding leading
  leading_take_few zero xs = omega arith
  leading_take_few (suc k) [] = omega arith
  leading_take_few (suc k) (x ∷ xs) = go (leading_take_few k xs) (ok x)
    where
      go : leading ok (take k xs) ≤ leading ok xs → (t : Bool) → cond t (suc (leading ok (take k xs))) 0 ≤ cond t (suc (leading ok xs)) 0
      go later true = omega arith
      go later false = omega arith

  -- of some that are ok, and then one that is not
  pub leading_up_to : (xs : List ℕ) (y : ℕ) (ys : List ℕ) → leading ok xs ≡ length xs → ok y ≡ false → leading ok (xs ++ (y ∷ ys)) ≡ length xs
  unfolding leading
  leading_up_to [] y ys all off = rw off
  leading_up_to (x ∷ xs) y ys all off = go (λ e. leading_up_to xs y ys e off) (ok x) all
    where
      go : (leading ok xs ≡ length xs → leading ok (xs ++ (y ∷ ys)) ≡ length xs) → (t : Bool)
          → cond t (suc (leading ok xs)) 0 ≡ suc (length xs) → cond t (suc (leading ok (xs ++ (y ∷ ys)))) 0 ≡ suc (length xs)
      go later true e = ap suc (later (omega arith))
      go later false e = absurd (omega arith)

  -- those before it are ok
  pub leading_own : (xs : List ℕ) → leading ok (take (leading ok xs) xs) ≡ leading ok xs
  unfolding leading
  leading_own [] = refl
  leading_own (x ∷ xs) = go (leading_own xs) (ok x) refl
    where
      go : leading ok (take (leading ok xs) xs) ≡ leading ok xs → (t : Bool) → ok x ≡ t
          → leading ok (take (cond t (suc (leading ok xs)) 0) (x ∷ xs)) ≡ cond t (suc (leading ok xs)) 0
      go later true q = rw q (ap suc later)
      go later false q = refl

-- where all are ok, all are whatever each ok one is
pub leading_also : (ok also : ℕ → Bool) → ((b : ℕ) → ok b ≡ true → also b ≡ true) → (xs : List ℕ) → leading ok xs ≡ length xs
    → leading also xs ≡ length xs
unfolding leading
leading_also ok also each [] e = refl
leading_also ok also each (x ∷ xs) e = go (leading_also ok also each xs) (ok x) refl e
  where
    go : (leading ok xs ≡ length xs → leading also xs ≡ length xs) → (t : Bool) → ok x ≡ t → cond t (suc (leading ok xs)) 0 ≡ suc (length xs)
        → cond (also x) (suc (leading also xs)) 0 ≡ suc (length xs)
    go later true q e = rw (each x q) (ap suc (later (omega arith)))
    go later false q e = absurd (omega arith)

-- ---- looking at one after the other

-- the first i are ok
record Led (ok : ℕ → Bool) (xs : List ℕ) (i : ℕ) : Type 0 where
  pub within : i ≤ length xs
  pub so_far : leading ok xs ≡ i + leading ok (drop i xs)

module _ {ok : ℕ → Bool} {xs : List ℕ} where
  module _ {i : ℕ} (led : Led ok xs i) where
    led_turn : i < length xs → ok (get_or xs i 0) ≡ true → Led ok xs (i + 1)
    led_turn h e =
        let more : leading ok (drop i xs) ≡ suc (leading ok (drop (i + 1) xs)) =
        rw (add-one i, drop-cons xs i 0 h) (leading_on ok (get_or xs i 0) (drop (suc i) xs) e) in
        record { within = omega arith; so_far = omega (arith, led.so_far, more) }

    led_stop : i < length xs → ok (get_or xs i 0) ≡ false → i ≡ leading ok xs
    led_stop h e =
        let none : leading ok (drop i xs) ≡ 0 = rw (drop-cons xs i 0 h) (leading_off ok (get_or xs i 0) (drop (suc i) xs) e) in
        omega (arith, led.so_far, none)

    led_all : length xs ≤ i → length xs ≡ leading ok xs
    unfolding leading
    led_all h =
        let none : leading ok (drop i xs) ≡ 0 = rw (drop_of_length-le xs h) refl in
        omega (arith, led.within, led.so_far, none)

-- the byte b, if it is one, is ok or not
abbrev pub IsByte : (ℕ → Bool) → Bool → ℕ → Type 0
IsByte ok t b = b < 256 → ok b ≡ t

-- the first that is not ok, as `position` answers
module _ (ok : ℕ → Bool) (xs : List ℕ) (bytes : (i : ℕ) → get_or xs i 0 < 256) where
  led_to : (i : ℕ) → i ≤ length xs → AllWithin (IsByte ok true) xs 0 i → Led ok xs i
  led_to zero h each = record { within = omega arith; so_far = omega arith }
  led_to (suc i) h each =
      let before : Led ok xs i = led_to i (omega arith) (λ k d l m. each k d l (omega arith)) in
      rw (sym (add-one i)) (led_turn before (omega arith) (each i 0 (omega arith) (omega arith) (bytes i)))

  pub led_found : (r : Option ℕ)
      → MatchOption r (AllWithin (IsByte ok true) xs 0 (length xs))
      (λ i. (i < length xs) × HoldsAt (IsByte ok false) xs i × AllWithin (IsByte ok true) xs 0 i)
      → unwrap_or r (length xs) ≡ leading ok xs
  led_found None found = led_all (led_to (length xs) (omega arith) found) (omega arith)
  led_found (Some i) found = led_stop (led_to i (omega (arith, found.0)) found.2) found.0 (found.1 0 (bytes i))

-- ---- whether all are ok

module _ (ok : ℕ → Bool) where
  pub all_none : are_all ok [] ≡ true
  unfolding leading
  all_none = refl

  pub all_first : (x : ℕ) (xs : List ℕ) → are_all ok (x ∷ xs) ≡ (ok x && are_all ok xs)
  unfolding leading
  all_first x xs = go (ok x) (eqb (leading ok xs) (length xs)) refl
    where
      go : (t u : Bool) → eqb (leading ok xs) (length xs) ≡ u → eqb (cond t (suc (leading ok xs)) 0) (suc (length xs)) ≡ (t && u)
      go true true q = eq-eqb (suc (leading ok xs)) (suc (length xs)) (ap suc (eqb-true (leading ok xs) (length xs) q))
      go true false q = ne_eqb (suc (leading ok xs)) (suc (length xs)) (λ e. eqb-false (leading ok xs) (length xs) q (omega arith))
      go false u q = ne_eqb 0 (suc (length xs)) (λ e. omega arith)

  pub all_joined : (xs ys : List ℕ) → are_all ok (xs ++ ys) ≡ (are_all ok xs && are_all ok ys)
  all_joined [] ys = rw all_none refl
  all_joined (x ∷ xs) ys =
      all_first x (xs ++ ys)
      ∙ ap (λ (t : Bool). ok x && t) (all_joined xs ys)
      ∙ sym (and_assoc (ok x) (are_all ok xs) (are_all ok ys))
      ∙ ap (λ (t : Bool). t && are_all ok ys) (sym (all_first x xs))

-- a loop that looks at all of them: t is whether the first i are ok
pub record Seen (ok : ℕ → Bool) (xs : List ℕ) (t : Bool) (i : ℕ) : Type 0 where
  pub so_far : (t && are_all ok (drop i xs)) ≡ are_all ok xs

module _ {ok : ℕ → Bool} {xs : List ℕ} where
  module _ {t : Bool} {i : ℕ} (seen : Seen ok xs t i) where
    pub seen_turn : i < length xs → {u : Bool} → u ≡ ok (get_or xs i 0) → Seen ok xs (t && u) (i + 1)
    seen_turn h {u} e =
        record { so_far = all_turn ok (are_all ok) (all_none ok) (all_first ok) xs i t (are_all ok xs) seen.so_far h u e }

    pub seen_all : length xs ≤ i → t ≡ are_all ok xs
    seen_all h = all_end ok (are_all ok) (all_none ok) (all_first ok) xs i t (are_all ok xs) seen.so_far h

-- ---- whether all of some pieces are ok

module _ (ok : ℕ → Bool) where
  unfoldable pub all_pieces : List (List ℕ) → Bool
  all_pieces [] = true
  all_pieces (x ∷ xs) = are_all ok x && all_pieces xs

  module _ (xs : List (List ℕ)) (t : Bool) {i : ℕ} (so_far : (t && all_pieces (drop i xs)) ≡ all_pieces xs) where
    pub pieces_turn : i < length xs → {u : Bool} → u ≡ are_all ok (get_or xs i []) → ((t && u) && all_pieces (drop (i + 1) xs)) ≡ all_pieces xs
    unfolding all_pieces
    pieces_turn h {u} e =
        let left : all_pieces (drop i xs) ≡ (u && all_pieces (drop (i + 1) xs)) = rw (add-one i, drop-cons xs i [] h, e) refl in
        and_assoc t u (all_pieces (drop (i + 1) xs)) ∙ ap (λ (v : Bool). t && v) (sym left) ∙ so_far

    pub pieces_all : length xs ≤ i → t ≡ all_pieces xs
    unfolding all_pieces
    pieces_all h =
        let left : all_pieces (drop i xs) ≡ true = rw (drop_of_length-le xs h) refl in
        sym (and-true t) ∙ ap (λ (v : Bool). t && v) (sym left) ∙ so_far

  -- k pieces of n, and what is left after them
  pub pieces_join : (n k : ℕ) (xs : List ℕ) → (all_pieces (first_chunks n k xs) && are_all ok (drop (k * n) xs)) ≡ are_all ok xs
  unfolding all_pieces
  pieces_join n zero xs = let none : 0 * n ≡ 0 = omega arith in rw none refl
  pieces_join n (suc k) xs =
      let on : n + k * n ≡ suc k * n = omega arith in
      and_assoc (are_all ok (take n xs)) (all_pieces (first_chunks n k (drop n xs))) (are_all ok (drop (suc k * n) xs))
      ∙ ap (λ (ys : List ℕ). are_all ok (take n xs) && (all_pieces (first_chunks n k (drop n xs)) && are_all ok ys))
      (sym (drop-drop (k * n) n xs ∙ ap (λ (m : ℕ). drop m xs) on))
      ∙ ap (λ (v : Bool). are_all ok (take n xs) && v) (pieces_join n k (drop n xs))
      ∙ sym (all_joined ok (take n xs) (drop n xs))
      ∙ ap (are_all ok) (take-append-drop n xs)
