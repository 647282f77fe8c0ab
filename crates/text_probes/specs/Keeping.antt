-- The entries that scanning keeps in lent lists. A reader of the public contracts needs none of it.
--   Holds f xs m l               == where the list l has room for m slots, its first m are f x for the first m lines x of xs
--   Keeps xs m words ones twos   == the three lists hold the entries of the first m lines of xs: each line as on a pair list, with what is kept
--                                   of its word
--   closed ones twos             == the second places, where one that is missing is the first
--   closed_for kind ones twos     == the same on a span list; on a pair list they stay
-- Assumes nothing.
use Rattle.std.specs.Prelude.{◌≡◌, ℕ, ◌≤◌, cond, List, [], ◌∷◌, map, length, take, eqb}
use Rattle.card_entries.specs.Fault.{pair, span, no_place}
use Rattle.text_probes.specs.Line.{Line}
use Rattle.text_probes.specs.Listing.{one_of, two_of}
use Rattle.text_probes.specs.Says.{kept}

abbrev pub Holds : (Line → ℕ) → List Line → ℕ → List ℕ → Type 0
Holds f xs m l = m ≤ length l → take m l ≡ map f (take m xs)

abbrev pub word_kept : Line → ℕ
word_kept x = kept 0 x.word

abbrev pub one_kept : Line → ℕ
one_kept x = one_of x.listed

abbrev pub two_kept : Line → ℕ
two_kept x = two_of pair x.listed

pub record Keeps (xs : List Line) (m : ℕ) (words ones twos : List ℕ) : Type 0 where
  pub in_words : Holds word_kept xs m words
  pub in_ones : Holds one_kept xs m ones
  pub in_twos : Holds two_kept xs m twos

abbrev pub closed : List ℕ → List ℕ → List ℕ
closed [] qs = []
closed (p ∷ ps) [] = []
closed (p ∷ ps) (q ∷ qs) = cond (eqb q no_place) p q ∷ closed ps qs

abbrev pub closed_for : ℕ → List ℕ → List ℕ → List ℕ
closed_for kind ones twos = cond (eqb kind span) (closed ones twos) twos
