-- Worked examples: a text, a line, and numbers in decimal. Assumes nothing.
use mathlib.Core.Path.{◌≡◌, refl}
use mathlib.Core.List.{[], ◌∷◌, map}
use Rattle.base_text.specs.Text.{ascii, digits_in, decimal, line}

pub a_text : ascii "CARD 0\n" ≡ (67 ∷ 65 ∷ 82 ∷ 68 ∷ 32 ∷ 48 ∷ 10 ∷ [])
a_text = refl

pub a_line : line (ascii "refused") (ascii "1" ∷ ascii "0" ∷ []) ≡ ascii "refused 1 0\n"
a_line = refl

pub decimals : map decimal (0 ∷ 9 ∷ 10 ∷ 100 ∷ 1000000 ∷ 4294967295 ∷ [])
    ≡ (ascii "0" ∷ ascii "9" ∷ ascii "10" ∷ ascii "100" ∷ ascii "1000000" ∷ ascii "4294967295" ∷ [])
unfolding decimal digits_in
decimals = refl
