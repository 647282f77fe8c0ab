-- The lines of a text, one after the other, are the text. Assumes nothing.
use mathlib.Core.Path.{◌≡◌, refl, ap, ◌∙◌}
use mathlib.Core.Bool.{Bool, true, false, cond}
use mathlib.Core.List.{List, [], ◌∷◌, ◌++◌, map}
use Prim.Native.Nat.{ℕ, zero, suc, ◌*◌, ◌≤◌, ◌<◌}
use native.Mathlib.Omega.{arith}
use lib.ListN.{length, get_or, length-append, length-map, get_or-map}
use lib.Dec.{eqb}
use Rattle.text_probes.specs.Reading.{newline}
use Rattle.text_probes.specs.Lines.{joined, lines_of, line_of, lines_in, line_in}

-- an element of a list, each of which is changed
pub map_at : {A B : Type 0} (f : A → B) (xs : List A) (e : ℕ) (d : A) (d' : B) → e < length xs → get_or (map f xs) e d' ≡ f (get_or xs e d)
map_at f [] e d d' h = absurd (omega arith)
map_at f (x ∷ xs) zero d d' h = refl
map_at f (x ∷ xs) (suc e) d d' h = map_at f xs e d d' (omega arith)

-- ---- lines one after the other

abbrev pub whole : List (List ℕ) → List ℕ
whole [] = []
whole (l ∷ ls) = l ++ whole ls

whole_joined : (b : ℕ) (ls : List (List ℕ)) → whole (joined b ls) ≡ b ∷ whole ls
whole_joined b [] = refl
whole_joined b (l ∷ ls) = refl

pub lines_whole : (text : List ℕ) → whole (lines_of text) ≡ text
unfolding lines_of
lines_whole [] = refl
lines_whole (b ∷ bs) = go (eqb b newline) ∙ ap (λ (xs : List ℕ). b ∷ xs) (lines_whole bs)
  where
    go : (t : Bool) → whole (cond t ((b ∷ []) ∷ lines_of bs) (joined b (lines_of bs))) ≡ b ∷ whole (lines_of bs)
    go true = refl
    go false = whole_joined b (lines_of bs)

-- how long they are, where each has at most k bytes
pub whole_most : (k : ℕ) (ls : List (List ℕ)) → ((e : ℕ) → e < length ls → length (get_or ls e []) ≤ k) → length (whole ls) ≤ k * length ls
whole_most k [] each = omega arith
whole_most k (l ∷ ls) each =
    omega (arith, length-append l (whole ls), each 0 (omega arith), whole_most k ls (λ e h. each (suc e) (omega arith)))

-- ---- one line of a text

pub line_in_lem : (text : List ℕ) (e : ℕ) → line_in text e ≡ line_of (get_or (lines_of text) e [])
line_in_lem text e = get_or-map line_of (lines_of text) e []

pub lines_many : (text : List ℕ) → length (lines_in text) ≡ length (lines_of text)
lines_many text = length-map (lines_of text) line_of
