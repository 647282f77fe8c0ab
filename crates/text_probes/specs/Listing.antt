-- The entries that lines stand for (02, §2): "each listed place p means card place p−1"; "On a span list a bare `7` means 7-7."
--   value_of cs           == the value of the word of the codes cs, "first letter most significant"
--   one_of y, two_of kind y    == the two places of an entry as it is stored, where y is listed on a list of this kind
--   words_of xs, ones_of xs, twos_of kind xs    == the three lists of the lines xs
-- Assumes nothing.
use Rattle.std.specs.Prelude.{ℕ, ◌+◌, ◌*◌, ◌-◌, cond, List, [], ◌∷◌, map, eqb}
use Rattle.base_letters.specs.Letters.{codes}
use Rattle.card_entries.specs.Fault.{span, no_place}
use Rattle.text_probes.specs.declared.line.Marked.{Marked}
use Rattle.text_probes.specs.declared.line.Marked.TheVariants.{Bare, Two, Run}
use Rattle.text_probes.specs.Line.{Line}

-- v with the codes after it
abbrev pub value_from : ℕ → List ℕ → ℕ
value_from v [] = v
value_from v (c ∷ cs) = value_from (codes * v + c) cs

abbrev pub value_of : List ℕ → ℕ
value_of cs = value_from 0 cs

abbrev pub one_of : Marked → ℕ
one_of (Bare p) = p - 1
one_of (Two p q) = p - 1
one_of (Run p q) = p - 1

abbrev pub two_of : ℕ → Marked → ℕ
two_of kind (Bare p) = cond (eqb kind span) (p - 1) no_place
two_of kind (Two p q) = q - 1
two_of kind (Run p q) = q - 1

abbrev pub words_of : List Line → List ℕ
words_of xs = map (λ x. value_of x.word) xs

abbrev pub ones_of : List Line → List ℕ
ones_of xs = map (λ x. one_of x.listed) xs

abbrev pub twos_of : ℕ → List Line → List ℕ
twos_of kind xs = map (λ x. two_of kind x.listed) xs
