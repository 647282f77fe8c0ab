-- Narrow spans (02, section 11), and how many spans hold a place.
--   widest_narrow     == the places of a narrow span at most
--   is_narrow e       == the span of the entry e is narrow
--   Narrow es        == the spans of the entries es are narrow
--   is_over i e       == the span of the entry e holds the place i
--   crowd i es       == how many of the entries es have a span that holds the place i
--   most_over         == with more spans over a place there is no build
-- Assumes nothing.
use Rattle.std.specs.Prelude.{◌≡◌, Bool, true, List, ℕ, ◌+◌, ◌-◌, leb, length}
use Rattle.card_entries.specs.declared.Slot.{Slot}
use Rattle.card_entries.specs.declared.Places.TheVariants.{Span}
use Rattle.card_entries.specs.Entry.{allows}
use Rattle.base_lists.specs.Members.{In, keep}

-- "spans at most 4 wide"
abbrev pub widest_narrow : ℕ
widest_narrow = 4

-- "A span from f to g is g−f+1 wide"
abbrev pub is_narrow : Slot → Bool
is_narrow e = leb (e.two - e.one + 1) widest_narrow

pub record Narrow (es : List Slot) : Type 0 where
  pub each : (e : Slot) → In e es → is_narrow e ≡ true

abbrev pub is_over : ℕ → Slot → Bool
is_over i e = allows (Span e.one e.two) i

unfoldable pub crowd : ℕ → List Slot → ℕ
crowd i es = length (keep (is_over i) es)

-- "A place with 8 or more spans over it means None."
abbrev pub most_over : ℕ
most_over = 7
