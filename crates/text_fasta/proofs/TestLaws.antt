-- Laws of the tests of a byte, of a name, of a room, and of letters. Assumes nothing.
use mathlib.Core.Path.{◌≡◌, refl, sym, ◌∙◌}
use mathlib.Core.Bool.{Bool, true, false, ◌&&◌, and_assoc, and-false}
use mathlib.Core.Logic.{◌⊎◌, inl, inr}
use mathlib.Core.List.{List, [], ◌∷◌}
use Prim.Native.Nat.{ℕ, ◌≤◌, ◌<◌}
use native.Mathlib.Omega.{arith}
use lib.ListN.{length}
use lib.Dec.{eqb, leb}
use borrow.Author.Tests.{leb-true, le-leb, lt-leb, eq-eqb, ne_eqb, eqb-true, eqb-false}
use Rattle.base_answers.specs.Numbers.{Letter}
use Rattle.base_answers.specs.Answer.{given, refused, first}
use Rattle.base_answers.proofs.Laws.{first_last, first_fail}
use Rattle.base_lists.proofs.TestLaws.{both}
use Rattle.base_letters.specs.Letters.{is_letter}
use Rattle.text_fasta.specs.Record.{least_name, most_name, leading, are_all, is_printable, is_name, are_letters}
use Rattle.text_fasta.specs.Writing.{letter_test}
use Rattle.text_fasta.proofs.LeadingLaws.{leading_few}

-- a test by its first half
half_holds : (t u : Bool) → t ≡ true → u ≡ (t && u)
half_holds t u h = rw h refl

half_fails : (t u : Bool) → t ≡ false → false ≡ (t && u)
half_fails t u h = rw h refl

-- ---- a byte

pub printable_within : (b : ℕ) → is_printable b ≡ true → (33 ≤ b) × (b ≤ 126)
printable_within b e = let h = both (leb 33 b) (leb b 126) e in (leb-true 33 b h.0, leb-true b 126 h.1)

-- ---- a name

module _ (name : List ℕ) where
  abbrev short : Bool
  short = leb (length name) most_name

  abbrev printed : Bool
  printed = eqb (leading is_printable name) (length name)

  abbrev within : Bool
  within = leb least_name (length name) && short

  together : (within && printed) ≡ is_name name
  unfolding is_name
  together = and_assoc (leb least_name (length name)) short printed

  pub not_a_name : within ≡ false → false ≡ is_name name
  not_a_name h = half_fails within printed h ∙ together

  pub name_by_bytes : {k : ℕ} → within ≡ true → k ≡ leading is_printable name → eqb k (length name) ≡ is_name name
  name_by_bytes h q = rw q (half_holds within printed h ∙ together)

  pub name_long : most_name < length name → false ≡ is_name name
  name_long h = not_a_name (rw (lt-leb (length name) most_name h) (and-false (leb least_name (length name))))

  pub name_holds : is_name name ≡ true → (1 ≤ length name) × (length name ≤ most_name) × (leading is_printable name ≡ length name)
  unfolding is_name
  name_holds e =
      let h = both (leb least_name (length name)) (short && printed) e in
      let g = both short printed h.1 in
      (leb-true least_name (length name) h.0, leb-true (length name) most_name g.0, eqb-true (leading is_printable name) (length name) g.1)

-- ---- letters

module _ (ls : List ℕ) where
  abbrev lead : ℕ
  lead = leading is_letter ls

  pub letters_hold : 0 < length ls → length ls ≡ lead → are_letters ls ≡ true
  unfolding are_letters
  letters_hold h e = rw (le-leb 1 (length ls) h) (eq-eqb lead (length ls) (sym e))

  pub letters_held : are_letters ls ≡ true → (0 < length ls) × (lead ≡ length ls) × (are_all is_letter ls ≡ true)
  unfolding are_letters
  letters_held e =
      let h = both (leb 1 (length ls)) (eqb lead (length ls)) e in
      (leb-true 1 (length ls) h.0, eqb-true lead (length ls) h.1, h.1)

  pub letters_fail : (lead < length ls) ⊎ (length ls ≡ 0) → are_letters ls ≡ false
  unfolding are_letters
  letters_fail (inl h) =
      let some = le-leb 1 (length ls) (omega arith) in
      sym (half_holds (leb 1 (length ls)) (eqb lead (length ls)) some) ∙ ne_eqb lead (length ls) (λ e. omega arith)
  letters_fail (inr h) = rw (lt-leb 1 (length ls) (omega arith)) refl

  pub letters_all : 0 < length ls → are_all is_letter ls ≡ true → are_letters ls ≡ true
  letters_all h e = letters_hold h (sym (eqb-true lead (length ls) e))

  module _ {A : Type 0} (a : A) where
    -- 21 with the count of letters before it
    pub letters_refused : {k : ℕ} → k ≡ lead → (k < length ls) ⊎ (length ls ≡ 0) → refused Letter k ≡ first (letter_test ls ∷ []) a
    letters_refused e h = rw e (sym (first_fail (are_letters ls) Letter lead [] a (letters_fail (rw e at h))))

    -- by the two tests that writing takes
    pub others_refused : {k : ℕ} → k ≡ lead → are_all is_letter ls ≡ false → refused Letter k ≡ first (letter_test ls ∷ []) a
    others_refused e h = letters_refused e (inl (omega (arith, e, leading_few is_letter ls, eqb-false lead (length ls) h)))

    pub all_given : (length ls ≡ 0 → ⊥) → are_all is_letter ls ≡ true → given a ≡ first (letter_test ls ∷ []) a
    all_given n h = sym (first_last (are_letters ls) Letter lead a (letters_all (omega (arith, n)) h))

    pub letters_given : 0 < length ls → length ls ≡ lead → given a ≡ first (letter_test ls ∷ []) a
    letters_given h e = sym (first_last (are_letters ls) Letter lead a (letters_hold h e))
