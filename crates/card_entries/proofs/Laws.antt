-- The laws of an entry's faults and places that this crate's proofs and the crates above cite. No contract cites this file.
-- Assumes nothing.
use mathlib.Core.Path.{◌≡◌, ◌∙◌}
use mathlib.Core.Logic.{◌⊎◌, inl, inr, ⊎_elim}
use mathlib.Core.Bool.{true, ◌&&◌, ◌||◌}
use mathlib.Core.List.{[], ◌∷◌}
use Prim.Native.Nat.{ℕ, ◌+◌, ◌-◌, ◌^◌, ◌≤◌, ◌<◌}
use native.Mathlib.Numerals.{add-one}
use native.Mathlib.Omega.{arith}
use lib.Dec.{leb, ltb, eqb}
use borrow.Author.Tests.{lt-ltb, le-leb, ltb-true, leb-true, eqb-true, eq-eqb, ne_eqb}
use Rattle.base_answers.specs.Numbers.{Word, Places}
use Rattle.base_answers.specs.Answer.{given, sound, test, first}
use Rattle.base_answers.proofs.Laws.{first_pass, first_last, first_passed}
use Rattle.base_answers.proofs.Only.{Only, none, also, holds}
use Rattle.base_lists.proofs.TestLaws.{both, either}
use Rattle.card_entries.specs.declared.Format.{Format}
use Rattle.card_entries.specs.declared.Slot.{Slot}
use Rattle.card_entries.specs.declared.Places.TheVariants.{One, Two, Span}
use Rattle.card_entries.specs.Fault.{span, widest, no_place, is_place, pair_holds, span_holds, places_hold, entry_tests}
use Rattle.card_entries.specs.Bounds.{is_within}
use Rattle.card_entries.specs.Entry.{places_of}

-- ---- numbers within bounds

-- both ends of what is within
pub within_both : (lo hi x : ℕ) → is_within lo hi x ≡ true → (lo ≤ x) × (x ≤ hi)
within_both lo hi x e = let h = both (leb lo x) (leb x hi) e in (leb-true lo x h.0, leb-true x hi h.1)

-- ---- the places of a span card

module _ (m one two : ℕ) where
  pub span_width : one ≤ two → is_place m two ≡ true → ltb (two - one) widest ≡ span_holds m one two
  unfolding span_holds
  span_width h there =
      let o : is_place m one ≡ true = lt-ltb one m (omega (arith, ltb-true two m there)) in
      rw (o, there, le-leb one two h, add-one)

-- ---- what places that hold say

-- those of a pair card: no second place, or a later one
pub pair_says : {m one two : ℕ} → pair_holds m one two ≡ true → (one < m) × ((two ≡ no_place) ⊎ ((one < two) × (two < m)))
unfolding pair_holds
pair_says {m} {one} {two} h =
    let parts = both (is_place m one) (eqb two no_place || (ltb one two && is_place m two)) h in (
      ltb-true one m parts.0,
      ⊎_elim (λ e. inl (eqb-true two no_place e))
          (λ e. let b = both (ltb one two) (is_place m two) e in inr (ltb-true one two b.0, ltb-true two m b.1))
          (either (eqb two no_place) (ltb one two && is_place m two) parts.1),
    )

-- those of a span card
pub record SpanSays (m one two : ℕ) : Type 0 where
  pub in_order : one ≤ two
  pub below : two < m
  pub narrow : two - one + 1 ≤ widest

pub span_says : {m one two : ℕ} → span_holds m one two ≡ true → SpanSays m one two
unfolding span_holds
span_says {m} {one} {two} h =
    let all = both (is_place m one && is_place m two && leb one two) (leb (two - one + 1) widest) h in
    let three = both (is_place m one && is_place m two) (leb one two) all.0 in
    record {
      in_order = leb-true one two three.1;
      below = ltb-true two m (both (is_place m one) (is_place m two) three.0).1;
      narrow = leb-true (two - one + 1) widest all.1;
    }

-- ---- by the kind

module _ (kind m one two : ℕ) where
  pub span_holds_lem : kind ≡ span → span_holds m one two ≡ places_hold kind m one two
  unfolding places_hold
  span_holds_lem h = rw (eq-eqb kind span h)

  pub pair_holds_lem : (kind ≡ span → ⊥) → pair_holds m one two ≡ places_hold kind m one two
  unfolding places_hold
  pair_holds_lem h = rw (ne_eqb kind span h)

module _ (kind one two : ℕ) where
  pub span_places : kind ≡ span → Span one two ≡ places_of kind one two
  unfolding places_of
  span_places h = rw (eq-eqb kind span h)

  pub one_place : (kind ≡ span → ⊥) → two ≡ no_place → One one ≡ places_of kind one two
  unfolding places_of
  one_place h n = rw (ne_eqb kind span h, eq-eqb two no_place n)

  pub two_places : (kind ≡ span → ⊥) → (two ≡ no_place → ⊥) → Two one two ≡ places_of kind one two
  unfolding places_of
  two_places h n = rw (ne_eqb kind span h, ne_eqb two no_place n)

-- ---- the tests of an entry

module _ (f : Format) (e : ℕ) (s : Slot) where
  -- by which numbers they refuse
  pub entry_only : {P : ℕ → Type 0} → P Word → P Places → Only P (entry_tests f e s)
  unfolding entry_tests
  entry_only word places = also word (also places none)

  -- where the word fits, by the places' alone
  pub fit_only : {P : ℕ → Type 0} → s.word < 4 ^ f.l → P Places → Only P (entry_tests f e s)
  unfolding entry_tests
  fit_only fits places = holds (lt-ltb s.word (4 ^ f.l) fits) (also places none)

  -- a word that fits leaves the test of the places
  word_fits : s.word < 4 ^ f.l
      → first (entry_tests f e s) sound ≡ first (test (places_hold f.kind f.m s.one s.two) Places e ∷ []) sound
  unfolding entry_tests
  word_fits h = first_pass _ _ _ _ _ (lt-ltb s.word (4 ^ f.l) h)

  module _ (fits : s.word < 4 ^ f.l) where
    pub entry_sound : places_hold f.kind f.m s.one s.two ≡ true → first (entry_tests f e s) sound ≡ given sound
    entry_sound h = word_fits fits ∙ first_last _ _ _ _ h

  -- what a sound entry has
  pub sound_has : first (entry_tests f e s) sound ≡ given sound → (s.word < 4 ^ f.l) × (places_hold f.kind f.m s.one s.two ≡ true)
  unfolding entry_tests
  sound_has h =
      let word = first_passed _ _ _ _ _ _ h in
      (ltb-true s.word (4 ^ f.l) word.0, (first_passed _ _ _ _ _ _ word.1).0)
