-- Laws of a body: its letters, its lines, and when a list is equal to another. Assumes nothing.
use mathlib.Core.Path.{◌≡◌, refl, sym, ap, ◌∙◌}
use mathlib.Core.Bool.{Bool, true, false, not, cond}
use mathlib.Core.List.{List, [], ◌∷◌, ◌++◌}
use Prim.Native.Nat.{ℕ, suc, ◌≤◌}
use native.Mathlib.Omega.{arith}
use lib.ListN.{length, take, drop, length-append, take-append-drop}
use lib.Dec.{eqb}
use borrow.Author.Tests.{eqb-true, eq-eqb, ne_eqb}
use Rattle.base_lists.proofs.TestLaws.{both}
use Rattle.base_letters.specs.Letters.{is_letter}
use Rattle.base_letters.proofs.Inverse.{letter_capital}
use Rattle.text_fasta.specs.Record.{newline, leading, are_all, in_lines}
use Rattle.text_fasta.specs.Reading.{no_break, letters_in, same, are_lines}
use Rattle.text_fasta.proofs.LeadingLaws.{leading_also}

-- a test that holds does not fail
pub not_both : {t : Bool} → t ≡ true → t ≡ false → ⊥
not_both h g = let z : ◌≡◌ {A = ℕ} 0 1 = cc in omega arith

-- ---- `same` is equality

pub same_true : (xs ys : List ℕ) → same xs ys ≡ true → xs ≡ ys
unfolding same
same_true [] [] e = refl
same_true [] (y ∷ ys) e = let z : ◌≡◌ {A = ℕ} 0 1 = cc in absurd (omega arith)
same_true (x ∷ xs) [] e = let z : ◌≡◌ {A = ℕ} 0 1 = cc in absurd (omega arith)
same_true (x ∷ xs) (y ∷ ys) e =
    let b = both (eqb x y) (same xs ys) e in
    rw (eqb-true x y b.0, same_true xs ys b.1) refl

same_self : (xs : List ℕ) → same xs xs ≡ true
unfolding same
same_self [] = refl
same_self (x ∷ xs) = rw (eq-eqb x x refl) (same_self xs)

-- a body that is the lines of its letters
abbrev pub Lined : List ℕ → Type 0
Lined bs = bs ≡ in_lines (letters_in bs)

pub lines_lined : (bs : List ℕ) → are_lines bs ≡ true → Lined bs
unfolding are_lines
lines_lined bs e = same_true bs (in_lines (letters_in bs)) e

pub lined_lines : (bs : List ℕ) → Lined bs → are_lines bs ≡ true
unfolding are_lines
lined_lines bs e = ap (λ (xs : List ℕ). same bs xs) (sym e) ∙ same_self bs

pub not_lined : (bs : List ℕ) → (Lined bs → ⊥) → are_lines bs ≡ false
not_lined bs n = go (are_lines bs) refl
  where
    go : (t : Bool) → are_lines bs ≡ t → are_lines bs ≡ false
    go true q = absurd (n (lines_lined bs q))
    go false q = q

-- ---- the letters

pub is_break : (b : ℕ) → b ≡ newline → no_break b ≡ false
is_break b e = rw (eq-eqb b newline e) refl

pub break_is : (b : ℕ) → no_break b ≡ false → b ≡ newline
break_is b e = go (eqb b newline) refl e
  where
    go : (t : Bool) → eqb b newline ≡ t → not t ≡ false → b ≡ newline
    go true q e = eqb-true b newline q
    go false q e = let z : ◌≡◌ {A = ℕ} 0 1 = cc in absurd (omega arith)

pub no_break_lem : (b : ℕ) → (b ≡ newline → ⊥) → no_break b ≡ true
no_break_lem b n = rw (ne_eqb b newline n) refl

pub letters_other : (x : ℕ) (xs : List ℕ) → no_break x ≡ true → letters_in (x ∷ xs) ≡ x ∷ letters_in xs
unfolding letters_in
letters_other x xs e = rw e

pub letters_break : (xs : List ℕ) → letters_in (newline ∷ xs) ≡ letters_in xs
unfolding letters_in
letters_break xs = refl

pub letters_none : letters_in [] ≡ []
unfolding letters_in
letters_none = refl

pub letters_joined : (xs ys : List ℕ) → letters_in (xs ++ ys) ≡ letters_in xs ++ letters_in ys
unfolding letters_in
letters_joined [] ys = refl
letters_joined (x ∷ xs) ys = go (letters_joined xs ys) (no_break x)
  where
    go : letters_in (xs ++ ys) ≡ letters_in xs ++ letters_in ys → (t : Bool)
        → cond t (x ∷ letters_in (xs ++ ys)) (letters_in (xs ++ ys)) ≡ cond t (x ∷ letters_in xs) (letters_in xs) ++ letters_in ys
    go later true = ap (λ (zs : List ℕ). x ∷ zs) later
    go later false = later

pub letters_few : (xs : List ℕ) → length (letters_in xs) ≤ length xs
unfolding letters_in
letters_few [] = omega arith
letters_few (x ∷ xs) = go (letters_few xs) (no_break x)
  where
    go : length (letters_in xs) ≤ length xs → (t : Bool) → length (cond t (x ∷ letters_in xs) (letters_in xs)) ≤ suc (length xs)
    go later true = omega arith
    go later false = omega arith

-- bytes of which none is a newline: they are as many as their letters
abbrev pub Plain : List ℕ → Type 0
Plain xs = length xs ≤ length (letters_in xs)

pub plain_own : (xs : List ℕ) → Plain xs → letters_in xs ≡ xs
unfolding letters_in
plain_own [] h = refl
plain_own (x ∷ xs) h = go (plain_own xs) (no_break x) h
  where
    go : (Plain xs → letters_in xs ≡ xs) → (t : Bool) → suc (length xs) ≤ length (cond t (x ∷ letters_in xs) (letters_in xs))
        → cond t (x ∷ letters_in xs) (letters_in xs) ≡ x ∷ xs
    go later true h = ap (λ (zs : List ℕ). x ∷ zs) (later (omega arith))
    go later false h = absurd (omega (arith, letters_few xs))

pub letters_plain : (bs : List ℕ) → Plain (letters_in bs)
unfolding letters_in
letters_plain [] = omega arith
letters_plain (x ∷ xs) = go (letters_plain xs) (no_break x) refl
  where
    go : Plain (letters_in xs) → (t : Bool) → no_break x ≡ t → Plain (cond t (x ∷ letters_in xs) (letters_in xs))
    go later true q = rw q (omega (arith, later))
    go later false q = later

pub unbroken_plain : (xs : List ℕ) → leading no_break xs ≡ length xs → Plain xs
unfolding letters_in leading
unbroken_plain [] e = omega arith
unbroken_plain (x ∷ xs) e = go (unbroken_plain xs) (no_break x) e
  where
    go : (leading no_break xs ≡ length xs → Plain xs) → (t : Bool) → cond t (suc (leading no_break xs)) 0 ≡ suc (length xs)
        → suc (length xs) ≤ length (cond t (x ∷ letters_in xs) (letters_in xs))
    go later true e = omega (arith, later (omega arith))
    go later false e = absurd (omega arith)

-- as letters are
pub plain_letters : (ls : List ℕ) → are_all is_letter ls ≡ true → Plain ls
plain_letters ls e =
    let all = eqb-true (leading is_letter ls) (length ls) e in
    unbroken_plain ls (leading_also is_letter no_break (λ b is. no_break_lem b (λ z. omega (arith, (letter_capital b is).0))) ls all)

-- so are their parts
pub plain_parts : (xs ys : List ℕ) → Plain (xs ++ ys) → Plain xs × Plain ys
plain_parts xs ys h =
    let long = length-append xs ys in
    let few = ap length (letters_joined xs ys) in
    let parts = length-append (letters_in xs) (letters_in ys) in
    (omega (arith, long, few, parts, letters_few xs, letters_few ys), omega (arith, long, few, parts, letters_few xs, letters_few ys))

pub plain_take : (k : ℕ) (xs : List ℕ) → Plain xs → Plain (take k xs)
plain_take k xs h = let whole = take-append-drop k xs in (plain_parts (take k xs) (drop k xs) (rw whole h)).0

pub plain_drop : (k : ℕ) (xs : List ℕ) → Plain xs → Plain (drop k xs)
plain_drop k xs h = let whole = take-append-drop k xs in (plain_parts (take k xs) (drop k xs) (rw whole h)).1
