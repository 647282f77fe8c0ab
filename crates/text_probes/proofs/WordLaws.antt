-- Letters: what is read are the codes of the letters at the start of a text, and letters read as their codes. Assumes nothing.
use mathlib.Core.Path.{◌≡◌, refl, sym, ap, ◌∙◌}
use mathlib.Core.Bool.{true}
use mathlib.Core.List.{List, [], ◌∷◌, ◌++◌, map}
use Prim.Native.Nat.{ℕ}
use native.Mathlib.Omega.{arith}
use lib.ListN.{length}
use lib.Dec.{ltb}
use borrow.Author.Tests.{ltb-true, lt-ltb}
use Rattle.base_lists.proofs.TestLaws.{both}
use Rattle.base_letters.specs.Letters.{codes, letter_of, Reading, code, no_letter, code_of}
use Rattle.base_letters.proofs.Inverse.{code_letter, letter_code}
use Rattle.text_probes.specs.Line.{are_codes}
use Rattle.text_probes.specs.Reading.{letters_from, read_codes}
use Rattle.text_probes.proofs.FindLaws.{first_at, lack_one}

pub letters_read : (xs : List ℕ) → (xs ≡ map letter_of (read_codes xs).what ++ (read_codes xs).rest) × (are_codes (read_codes xs).what ≡ true)
unfolding read_codes
letters_read [] = (refl, refl)
letters_read (b ∷ bs) = go (code_of b) refl (letters_read bs)
  where
    go : (r : Reading) → code_of b ≡ r → (bs ≡ map letter_of (read_codes bs).what ++ (read_codes bs).rest) × (are_codes (read_codes bs).what ≡ true)
        → (b ∷ bs ≡ map letter_of (letters_from r (b ∷ bs) (read_codes bs)).what ++ (letters_from r (b ∷ bs) (read_codes bs)).rest)
        × (are_codes (letters_from r (b ∷ bs) (read_codes bs)).what ≡ true)
    go no_letter e later = (refl, refl)
    go (code c) e later =
        let letter = letter_code b c e in (
          ap (λ (y : ℕ). y ∷ bs) (sym letter.1) ∙ ap (λ (ys : List ℕ). letter_of c ∷ ys) later.0,
          rw (lt-ltb c codes letter.0) later.1,
        )

-- letters, up to a byte that is none
pub letters_text : (cs : List ℕ) (b : ℕ) (bs : List ℕ) → are_codes cs ≡ true → code_of b ≡ no_letter
    → read_codes (map letter_of cs ++ (b ∷ bs)) ≡ record { what = cs; rest = b ∷ bs }
unfolding read_codes
letters_text [] b bs h n = rw n
letters_text (c ∷ cs) b bs h n =
    let parts = both (ltb c codes) (are_codes cs) h in
    rw (code_letter c (ltb-true c codes parts.0), letters_text cs b bs parts.1 n)

-- a byte that is no letter is not among them
pub word_lacks : (b : ℕ) (cs : List ℕ) → code_of b ≡ no_letter → are_codes cs ≡ true → first_at b (map letter_of cs) ≡ length (map letter_of cs)
unfolding first_at
word_lacks b [] n h = refl
word_lacks b (c ∷ cs) n h =
    let parts = both (ltb c codes) (are_codes cs) h in
    let other : letter_of c ≡ b → ⊥ =
    λ same. let letter : code_of b ≡ code c = ap code_of (sym same) ∙ code_letter c (ltb-true c codes parts.0) in
    let z : ◌≡◌ {A = ℕ} 0 1 = cc in omega arith in
    lack_one b (letter_of c) (map letter_of cs) other (word_lacks b cs n parts.1)
