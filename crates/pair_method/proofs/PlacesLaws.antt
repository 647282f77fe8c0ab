-- Laws of the places of an entry, of which there are two: they are its allowed places, and no others. Assumes nothing.
use mathlib.Core.Path.{◌≡◌, refl}
use mathlib.Core.Logic.{◌⊎◌, inl, inr, ⊎_elim}
use mathlib.Core.Bool.{Bool, true, false, cond, ◌||◌}
use Prim.Native.Nat.{ℕ}
use lib.Dec.{eqb}
use borrow.Author.Tests.{eq-eqb, ne_eqb, eqb-true}
use Rattle.base_lists.proofs.TestLaws.{either}
use Rattle.card_entries.specs.declared.Places.TheVariants.{One, Two}
use Rattle.card_entries.specs.Entry.{allows}
use Rattle.card_entries.specs.Fault.{no_place}
use Rattle.pair_method.specs.PairMethod.{second_of}

-- ---- the second place

pub second_none : {one two : ℕ} → two ≡ no_place → one ≡ second_of one two
unfolding second_of
second_none {one} {two} h = rw (eq-eqb two no_place h) refl

pub second_two : (one : ℕ) {two : ℕ} → (two ≡ no_place → ⊥) → two ≡ second_of one two
unfolding second_of
second_two one {two} h = rw (ne_eqb two no_place h) refl

-- ---- an entry's allowed places are these two

pub allowed_two : (one two p : ℕ) → allows (cond (eqb two no_place) (One one) (Two one two)) p ≡ true → (p ≡ one) ⊎ (p ≡ second_of one two)
unfolding second_of
allowed_two one two p = go (eqb two no_place)
  where
    go : (b : Bool) → allows (cond b (One one) (Two one two)) p ≡ true → (p ≡ one) ⊎ (p ≡ cond b one two)
    go true h = inl (eqb-true p one h)
    go false h = ⊎_elim (λ x. inl (eqb-true p one x)) (λ x. inr (eqb-true p two x)) (either (eqb p one) (eqb p two) h)

pub two_allowed : (one two p : ℕ) → (p ≡ one) ⊎ (p ≡ second_of one two) → allows (cond (eqb two no_place) (One one) (Two one two)) p ≡ true
unfolding second_of
two_allowed one two p = go (eqb two no_place)
  where
    go : (b : Bool) → (p ≡ one) ⊎ (p ≡ cond b one two) → allows (cond b (One one) (Two one two)) p ≡ true
    go true h = ⊎_elim (eq-eqb p one) (eq-eqb p one) h
    go false (inl x) = rw (eq-eqb p one x) refl
    go false (inr x) = or_right (eqb p one) (eq-eqb p two x)
      where
        or_right : (a : Bool) {b : Bool} → b ≡ true → (a || b) ≡ true
        or_right true e = refl
        or_right false e = e
