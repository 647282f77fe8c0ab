-- The sequence that an arrangement spells, and builds (01, "What a build is"). A sequence is the list of its letters' codes 0 to 3.
--   letters_of l w       == the l letters of the word w, "first letter most significant"
--   spell l ws          == the letters of the words ws, each of which overlaps the one before it
--   Build l es s        == the sequence s is a build of the entries es
-- Assumes nothing.
use Rattle.std.specs.Prelude.{◌≡◌, List, [], ◌∷◌, ◌++◌, map, ℕ, zero, suc, ◌/◌, ◌%◌}
use Rattle.card_entries.specs.declared.Entry.{Entry}
use Rattle.build_sequence.specs.Arrangement.{Arrangement, words}

abbrev pub letters_of : ℕ → ℕ → List ℕ
letters_of zero w = []
letters_of (suc l) w = letters_of l (w / 4) ++ (w % 4 ∷ [])

-- the letters of the first word, and the last letter of each other: the others stand there already
unfoldable pub spell : ℕ → List ℕ → List ℕ
spell l [] = []
spell l (w ∷ ws) = letters_of l w ++ map (λ v. v % 4) ws

-- "A build is the sequence an arrangement spells."
pub record Build (l : ℕ) (es : List Entry) (s : List ℕ) : Type 0 where
  pub order : List Entry
  pub arrangement : Arrangement l es order
  pub spelled : s ≡ spell l (words order)
