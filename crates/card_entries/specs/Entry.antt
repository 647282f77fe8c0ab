-- The allowed places of an entry: "one place, two places, or a span, carried within the entry" (01, "The card, block by block").
--   places_of kind one two    == the places that the two numbers stand for on a card of this kind
--   entry_of kind s           == the entry that the slot s stands for
--   allows ps p              == p is one of the allowed places ps
-- Assumes nothing.
use Rattle.std.specs.Prelude.{ℕ, Bool, cond, ◌&&◌, ◌||◌, leb, eqb}
use Rattle.card_entries.specs.declared.Places.{Places}
use Rattle.card_entries.specs.declared.Places.TheVariants.{One, Two, Span}
use Rattle.card_entries.specs.declared.Slot.{Slot}
use Rattle.card_entries.specs.declared.Entry.{Entry}
use Rattle.card_entries.specs.Fault.{span, no_place}

-- each case of the enum, by the places that it allows, counted from 0
abbrev pub allows : Places → ℕ → Bool
allows (One p) x = eqb x p
allows (Two p q) x = eqb x p || eqb x q
allows (Span f g) x = leb f x && leb x g

unfoldable pub places_of : ℕ → ℕ → ℕ → Places
places_of kind one two = cond (eqb kind span) (Span one two) (cond (eqb two no_place) (One one) (Two one two))

unfoldable pub entry_of : ℕ → Slot → Entry
entry_of kind s = record { word = s.word; places = places_of kind s.one s.two }
