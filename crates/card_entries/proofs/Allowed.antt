-- What the places of a sound entry are: each allowed place is a place of the card, a span's are those from its first to its last, and
-- those of a pair card are one or two.
-- Assumes nothing.
use mathlib.Core.Path.{◌≡◌, refl}
use mathlib.Core.Logic.{⊎_elim}
use mathlib.Core.Bool.{Bool, true, false, cond}
use Prim.Native.Nat.{ℕ, ◌<◌}
use native.Mathlib.Omega.{arith}
use lib.Dec.{leb, eqb}
use borrow.Author.Tests.{leb-true, eqb-true, eqb-false}
use Rattle.base_lists.proofs.TestLaws.{both, either}
use Rattle.card_entries.specs.declared.Places.TheVariants.{One, Two, Span}
use Rattle.card_entries.specs.Fault.{pair, span, no_place, pair_holds, span_holds, places_hold}
use Rattle.card_entries.specs.declared.Slot.{Slot}
use Rattle.card_entries.specs.Entry.{places_of, entry_of, allows}
use Rattle.card_entries.proofs.Laws.{pair_says, span_says}

module _ (m one two p : ℕ) where
  span_below : span_holds m one two ≡ true → allows (Span one two) p ≡ true → p < m
  span_below h a = omega (arith, (span_says h).below, leb-true p two (both (leb one p) (leb p two) a).1)

  -- place one alone
  one_below : pair_holds m one two ≡ true → allows (One one) p ≡ true → p < m
  one_below h a = omega (arith, (pair_says h).0, eqb-true p one a)

  -- place one, or place two
  two_below : pair_holds m one two ≡ true → eqb two no_place ≡ false → allows (Two one two) p ≡ true → p < m
  two_below h n a =
      let says = pair_says h in
      let second : two < m = ⊎_elim (λ e. absurd (eqb-false two no_place n e)) (λ s. s.1) says.1 in
      ⊎_elim (λ e. omega (arith, says.0, eqb-true p one e)) (λ e. omega (arith, second, eqb-true p two e))
      (either (eqb p one) (eqb p two) a)

-- "A place p satisfies 0 ≤ p ≤ m−1"
pub allowed_below : (kind m one two p : ℕ) → places_hold kind m one two ≡ true → allows (places_of kind one two) p ≡ true → p < m
unfolding places_hold places_of
allowed_below kind m one two p = go (eqb kind span) (eqb two no_place) refl
  where
    go : (s n : Bool) → eqb two no_place ≡ n
        → cond s (span_holds m one two) (pair_holds m one two) ≡ true
        → allows (cond s (Span one two) (cond n (One one) (Two one two))) p ≡ true
        → p < m
    go true n e h a = span_below m one two p h a
    go false true e h a = one_below m one two p h a
    go false false e h a = two_below m one two p h e a

-- the entry of a slot, on a card of either kind
module _ (kind : ℕ) (s : Slot) where
  pub entry_word : (entry_of kind s).word ≡ s.word
  unfolding entry_of
  entry_word = refl

  pub entry_places : (entry_of kind s).places ≡ places_of kind s.one s.two
  unfolding entry_of
  entry_places = refl

-- an entry of a span card
pub span_entry : (s : Slot) → entry_of span s ≡ record { word = s.word; places = Span s.one s.two }
unfolding entry_of places_of
span_entry s = refl

-- an entry of a pair card
pub pair_entry : (s : Slot)
    → entry_of pair s ≡ record { word = s.word; places = cond (eqb s.two no_place) (One s.one) (Two s.one s.two) }
unfolding entry_of places_of
pair_entry s = refl

-- its places are places of the card
pub pair_below : (m one two p : ℕ) → pair_holds m one two ≡ true → allows (cond (eqb two no_place) (One one) (Two one two)) p ≡ true → p < m
pair_below m one two p h = go (eqb two no_place) refl
  where
    go : (n : Bool) → eqb two no_place ≡ n → allows (cond n (One one) (Two one two)) p ≡ true → p < m
    go true e a = one_below m one two p h a
    go false e a = two_below m one two p h e a
