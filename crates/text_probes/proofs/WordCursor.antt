-- Laws of the letters read from a place of a text. Assumes nothing.
use mathlib.Core.Path.{◌≡◌, refl, sym, ap, ◌∙◌}
use mathlib.Core.Bool.{true, false}
use mathlib.Core.List.{List, [], ◌∷◌}
use Prim.Native.Nat.{ℕ, ◌+◌, ◌*◌, ◌%◌, ◌≤◌, ◌<◌}
use native.Mathlib.Omega.{arith}
use lib.ListN.{length, get_or, drop}
use Rattle.base_letters.specs.Letters.{Reading, code, no_letter, code_of, is_code, is_letter}
use Rattle.base_letters.proofs.Inverse.{letter_code}
use Rattle.text_probes.specs.Reading.{read_codes}
use Rattle.text_probes.specs.Says.{code_in, kept, Spelled}
use Rattle.text_probes.proofs.Cursor.{here, past}

pub code_below : (b : ℕ) {c : ℕ} → code c ≡ code_of b → c < 4
code_below b {c} e = (letter_code b c (sym e)).0

-- what is no letter has no code, and a letter has the code that is kept of it
pub none_of : (b : ℕ) → is_letter b ≡ false → no_letter ≡ code_of b
none_of b e = go (code_of b) e
  where
    go : (r : Reading) → is_code r ≡ false → no_letter ≡ r
    go no_letter e = refl
    go (code c) e = let z : ◌≡◌ {A = ℕ} 0 1 = cc in absurd (omega arith)

pub one_of_letter : (b : ℕ) → is_letter b ≡ true → code (code_in (code_of b)) ≡ code_of b
one_of_letter b e = go (code_of b) e
  where
    go : (r : Reading) → is_code r ≡ true → code (code_in r) ≡ r
    go no_letter e = let z : ◌≡◌ {A = ℕ} 0 1 = cc in absurd (omega arith)
    go (code c) e = refl

pub in_below : (b : ℕ) → code_in (code_of b) < 4
in_below b = go (code_of b) refl
  where
    go : (r : Reading) → code_of b ≡ r → code_in r < 4
    go no_letter e = omega arith
    go (code c) e = code_below b (sym e)

-- the letters up to `end` were read, with so much kept of them
pub record Spelling (text : List ℕ) (at value end : ℕ) : Type 0 where
  pub within : end ≤ length text
  pub count : end + length (read_codes (drop end text)).what ≡ at + length (read_codes (drop at text)).what
  pub rest : (read_codes (drop end text)).rest ≡ (read_codes (drop at text)).rest
  pub kept_all : kept value (read_codes (drop end text)).what ≡ kept 0 (read_codes (drop at text)).what

codes_stop : (b : ℕ) (bs : List ℕ) → no_letter ≡ code_of b → read_codes (b ∷ bs) ≡ record { what = []; rest = b ∷ bs }
unfolding read_codes
codes_stop b bs e = rw (sym e) refl

codes_on : (b : ℕ) (bs : List ℕ) {c : ℕ} → code c ≡ code_of b
    → read_codes (b ∷ bs) ≡ record { what = c ∷ (read_codes bs).what; rest = (read_codes bs).rest }
unfolding read_codes
codes_on b bs e = rw (sym e) refl

codes_none : read_codes [] ≡ record { what = []; rest = [] }
unfolding read_codes
codes_none = refl

module _ (text : List ℕ) (at : ℕ) where
  module _ {value end : ℕ} (so_far : Spelling text at value end) where
    -- nothing more is read
    ends_so : read_codes (drop end text) ≡ record { what = []; rest = drop end text } → Spelled text at (record { value = value; end = end })
    ends_so none =
        let count = rw none at so_far.count in
        record {
          end = omega arith;
          rest = rw none at so_far.rest;
          value = rw none at so_far.kept_all;
          within = so_far.within;
        }

    pub spelling_stop : end < length text → no_letter ≡ code_of (get_or text end 0) → Spelled text at (record { value = value; end = end })
    spelling_stop h e =
        ends_so (rw (here text end h) (codes_stop (get_or text end 0) (drop (end + 1) text) e))

    pub spelling_end : length text ≤ end → Spelled text at (record { value = value; end = length text })
    spelling_end h =
        let all : end ≡ length text = omega (arith, so_far.within) in
        let none : read_codes (drop end text) ≡ record { what = []; rest = drop end text } = rw (past text end h) codes_none in
        rw all at (ends_so none)

    pub spelling_turn : end < length text → {c : ℕ} → code c ≡ code_of (get_or text end 0) → Spelling text at (4 * (value % 1073741824) + c) (end + 1)
    spelling_turn h {c} e =
        let more = ap read_codes (here text end h) ∙ codes_on (get_or text end 0) (drop (end + 1) text) e in
        let count = rw more at so_far.count in
        record {
          within = omega arith;
          count = omega arith;
          rest = rw more at so_far.rest;
          kept_all = rw more at so_far.kept_all;
        }
