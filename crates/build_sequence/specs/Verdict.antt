-- Verdicts, as statements over all builds: "Sole means exactly one sequence fits, several means two or more and gives the alphabetically
-- first, none means none" (demand 2). `Fits s` says that the sequence s fits.
--   Before s t           == s comes before t alphabetically; a sequence comes before those that go on from it
--   Verdict              == sole and several with their sequence, or that there is no build
--   Tells Fits v         == the verdict v is true
--   Outcome              == a verdict with the placements up to it, or that it is unsettled after so many
--   Widens e e'          == the words are equal, and e' may stand wherever e may
-- Assumes nothing.
use Rattle.std.specs.Prelude.{◌≡◌, ◌⊎◌, true, List, [], ◌∷◌, ℕ, ◌<◌}
use Rattle.card_entries.specs.declared.Entry.{Entry}
use Rattle.card_entries.specs.Entry.{allows}

-- "Alphabetical order is the order of the codes."
abbrev pub Before : List ℕ → List ℕ → Type 0
Before [] [] = ⊥
Before [] (d ∷ t) = Unit {0}
Before (c ∷ s) [] = ⊥
Before (c ∷ s) (d ∷ t) = (c < d) ⊎ ((c ≡ d) × Before s t)

pub data Verdict : Type 0 where
  sole : List ℕ → Verdict
  several : List ℕ → Verdict
  no_build : Verdict

abbrev pub Tells : (List ℕ → Type 0) → Verdict → Type 0
Tells Fits (sole s) = Fits s × ((t : List ℕ) → Fits t → t ≡ s)
Tells Fits (several s) = Fits s × ((t : List ℕ) × Fits t × (t ≡ s → ⊥)) × ((t : List ℕ) → Fits t → (t ≡ s) ⊎ Before s t)
Tells Fits no_build = (t : List ℕ) → Fits t → ⊥

pub data Outcome : Type 0 where
  settled : Verdict → ℕ → Outcome
  unsettled : ℕ → Outcome

-- ---- demand 3

-- "entries pair off with equal words, every place allowed on the first being allowed on the second"
pub record Widens (e e' : Entry) : Type 0 where
  pub word : e.word ≡ e'.word
  pub places : (i : ℕ) → allows e.places i ≡ true → allows e'.places i ≡ true
