-- Text in ASCII, as it is printed.
--   ascii text      == the bytes of a text
--   decimal n       == the number n in decimal, with no needless zeros
--   line f fs       == a line: the field f and the fields fs, with one space between two fields, and its end
--   refusal_line n p == the one line of a refusal
--   Printed Prints before n after
--                   == what `Prints` says is printed stands at the start of a buffer that was `before`, has n bytes, and is followed by the
--                      buffer's own
-- Assumes nothing.
use Rattle.std.specs.Prelude.{◌≡◌, List, [], ◌∷◌, ◌++◌, ℕ, zero, suc, ◌+◌, ◌/◌, ◌%◌, length, drop}
use Prim.Native.Char.{code}
use Prim.Native.String.{String, [] as nothing, ◌∷◌ as ◌then◌}

abbrev pub ascii : String → List ℕ
ascii nothing = []
ascii (c then text) = code c ∷ ascii text

-- the digit d, which is below 10
abbrev pub digit : ℕ → ℕ
digit d = code "0" + d

-- the digits of n, none where it is 0; k is how many there may be
unfoldable pub digits_in : ℕ → ℕ → List ℕ
digits_in zero n = []
digits_in (suc k) zero = []
digits_in (suc k) (suc n) = digits_in k (suc n / 10) ++ (digit (suc n % 10) ∷ [])

-- no n has more than n digits before its last one, so this is the digit n below 10, and from 10 on n / 10 in decimal and then the digit
-- n % 10: `decimal_one` and `decimal_more` of proofs/DecimalLaws.antt
unfoldable pub decimal : ℕ → List ℕ
decimal n = digits_in n (n / 10) ++ (digit (n % 10) ∷ [])

-- what follows a field on its line: the other fields, each after a space, and the line's end
abbrev pub others : List (List ℕ) → List ℕ
others [] = ascii "\n"
others (field ∷ fields) = ascii " " ++ (field ++ others fields)

abbrev pub line : List ℕ → List (List ℕ) → List ℕ
line field fields = field ++ others fields

-- "A refused card gives the one line `refused N P`, number and place."
abbrev pub refusal_line : ℕ → ℕ → List ℕ
refusal_line n p = line (ascii "refused") (decimal n ∷ decimal p ∷ [])

pub record Printed (Prints : List ℕ → Type 0) (before : List ℕ) (n : ℕ) (after : List ℕ) : Type 0 where
  pub bytes : List ℕ
  pub prints : Prints bytes
  pub count : n ≡ length bytes
  pub output : after ≡ bytes ++ drop n before
