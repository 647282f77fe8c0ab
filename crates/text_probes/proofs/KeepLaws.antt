-- Laws of the entries that scanning keeps. Assumes nothing.
use mathlib.Core.Path.{◌≡◌, refl, sym, ap, ◌∙◌}
use mathlib.Core.List.{List, [], ◌∷◌, ◌++◌, map}
use Prim.Native.Nat.{ℕ, zero, suc, ◌+◌, ◌<◌}
use native.Mathlib.Numerals.{add-one}
use native.Mathlib.Omega.{arith}
use lib.ListN.{length, get_or, take, set, length-set}
use lib.Seq.{take-suc}
use Rattle.card_entries.specs.Fault.{pair}
use Rattle.text_probes.specs.declared.line.Marked.{Marked}
use Rattle.text_probes.specs.Line.{Line}
use Rattle.text_probes.specs.Listing.{one_of, two_of}
use Rattle.text_probes.specs.Says.{kept}
use Rattle.text_probes.specs.Keeping.{Holds, word_kept, one_kept, two_kept, Keeps}

-- ---- slots of a list

take_set : (l : List ℕ) (e v : ℕ) → e < length l → take (suc e) (set l e v) ≡ take e l ++ (v ∷ [])
take_set [] e v h = absurd (omega arith)
take_set (x ∷ l) zero v h = refl
take_set (x ∷ l) (suc e) v h = ap (λ (ys : List ℕ). x ∷ ys) (take_set l e v (omega arith))

map_more : (f : Line → ℕ) (xs : List Line) (x : Line) → map f (xs ++ (x ∷ [])) ≡ map f xs ++ (f x ∷ [])
map_more f [] x = refl
map_more f (y ∷ ys) x = ap (λ (zs : List ℕ). f y ∷ zs) (map_more f ys x)

-- one slot more
holds_turn : (f : Line → ℕ) (xs : List Line) (d : Line) (m v : ℕ) (l : List ℕ) → Holds f xs m l → m < length xs → v ≡ f (get_or xs m d)
    → Holds f xs (m + 1) (set l m v)
holds_turn f xs d m v l so_far h is room =
    let short : m < length l = omega (arith, length-set l m v) in
    rw (add-one m) (take_set l m v short
    ∙ ap (λ (ys : List ℕ). ys ++ (v ∷ [])) (so_far (omega arith))
    ∙ ap (λ (n : ℕ). map f (take m xs) ++ (n ∷ [])) is
    ∙ sym (ap (map f) (take-suc xs m d h) ∙ map_more f (take m xs) (get_or xs m d)))

pub keeps_none : (xs : List Line) (words ones twos : List ℕ) → Keeps xs 0 words ones twos
keeps_none xs words ones twos = record { in_words = λ h. refl; in_ones = λ h. refl; in_twos = λ h. refl }

-- a line more
pub keeps_turn : {xs : List Line} (d x : Line) {m n word : ℕ} {y : Marked} {words ones twos words' ones' twos' : List ℕ} → Keeps xs m words ones twos
    → m < length xs → get_or xs m d ≡ x → word ≡ kept 0 x.word → y ≡ x.listed → n ≡ m + 1
    → (words' ≡ set words m word) × (ones' ≡ set ones m (one_of y)) × (twos' ≡ set twos m (two_of pair y))
    → Keeps xs n words' ones' twos'
keeps_turn {xs} d x {m} {n} {word} {y} {words} {ones} {twos} so_far h this worded listed next put =
    rw (next, put.0) (rw (put.1, put.2) (record {
      in_words = holds_turn word_kept xs d m word words so_far.in_words h (worded ∙ sym (ap word_kept this));
      in_ones = holds_turn one_kept xs d m (one_of y) ones so_far.in_ones h (ap one_of listed ∙ sym (ap one_kept this));
      in_twos = holds_turn two_kept xs d m (two_of pair y) twos so_far.in_twos h (ap (two_of pair) listed ∙ sym (ap two_kept this));
    }))
