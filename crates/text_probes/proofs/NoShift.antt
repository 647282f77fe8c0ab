-- "This is where the shift by one must be impossible": an entry allows the place q exactly if its line lists q + 1. Assumes nothing.
use mathlib.Core.Path.{◌≡◌, refl, sym, ◌∙◌}
use mathlib.Core.Bool.{Bool, true, false, cond, ◌&&◌, ◌||◌}
use Prim.Native.Nat.{ℕ, zero, suc, ◌+◌, ◌-◌, ◌<◌}
use native.Mathlib.Omega.{arith}
use lib.Dec.{leb, eqb}
use borrow.Author.Tests.{leb-true, le-leb, lt-leb, leb-false, eq-eqb, ne_eqb, eqb-true, eqb-false}
use Rattle.base_lists.proofs.TestLaws.{both}
use Rattle.card_entries.specs.Fault.{pair, span, no_place}
use Rattle.card_entries.specs.Entry.{allows, places_of}
use Rattle.card_entries.proofs.Laws.{span_places, one_place, two_places}
use Rattle.text_probes.specs.declared.line.Marked.{Marked}
use Rattle.text_probes.specs.declared.line.Marked.TheVariants.{Bare, Two, Run}
use Rattle.text_probes.specs.Line.{most_number, is_small, lists}
use Rattle.text_probes.specs.Testing.{mark_of, has_zero}
use Rattle.text_probes.specs.Listing.{one_of, two_of}

-- ---- one number, and one less

module _ (p q : ℕ) (some : 0 < p) where
  eqb_less : eqb q (p - 1) ≡ eqb (q + 1) p
  eqb_less = go (eqb (q + 1) p) refl
    where
      go : (t : Bool) → eqb (q + 1) p ≡ t → eqb q (p - 1) ≡ t
      go true e = eq-eqb q (p - 1) (omega (arith, eqb-true (q + 1) p e))
      go false e = ne_eqb q (p - 1) (λ same. eqb-false (q + 1) p e (omega arith))

  leb_from : leb (p - 1) q ≡ leb p (q + 1)
  leb_from = go (leb p (q + 1)) refl
    where
      go : (t : Bool) → leb p (q + 1) ≡ t → leb (p - 1) q ≡ t
      go true e = le-leb (p - 1) q (omega (arith, leb-true p (q + 1) e))
      go false e = lt-leb (p - 1) q (omega (arith, leb-false p (q + 1) e))

  leb_to : leb q (p - 1) ≡ leb (q + 1) p
  leb_to = go (leb (q + 1) p) refl
    where
      go : (t : Bool) → leb (q + 1) p ≡ t → leb q (p - 1) ≡ t
      go true e = le-leb q (p - 1) (omega (arith, leb-true (q + 1) p e))
      go false e = lt-leb q (p - 1) (omega (arith, leb-false (q + 1) p e))

  -- a run of one place
  one_wide : (leb (p - 1) q && leb q (p - 1)) ≡ eqb (q + 1) p
  one_wide = go (eqb (q + 1) p) refl
    where
      go : (t : Bool) → eqb (q + 1) p ≡ t → (leb (p - 1) q && leb q (p - 1)) ≡ t
      go true e =
          let same = eqb-true (q + 1) p e in
          rw (le-leb (p - 1) q (omega arith)) (le-leb q (p - 1) (omega arith))
      go false e = apart (leb (p - 1) q) refl (leb q (p - 1)) refl
        where
          apart : (t : Bool) → leb (p - 1) q ≡ t → (u : Bool) → leb q (p - 1) ≡ u → (t && u) ≡ false
          apart true a true b =
              absurd (eqb-false (q + 1) p e (omega (arith, leb-true (p - 1) q a, leb-true q (p - 1) b)))
          apart true a false b = refl
          apart false a u b = refl

-- ---- the places of an entry

places_span : (one two : ℕ) (kind q : ℕ) → kind ≡ span → allows (places_of kind one two) q ≡ (leb one q && leb q two)
places_span one two kind q e = rw (← span_places kind one two e) refl

places_one : (one : ℕ) (kind q : ℕ) → (kind ≡ span → ⊥) → allows (places_of kind one no_place) q ≡ eqb q one
places_one one kind q n = rw (← one_place kind one no_place n refl) refl

places_two : (one two : ℕ) (kind q : ℕ) → (kind ≡ span → ⊥) → (two ≡ no_place → ⊥) → allows (places_of kind one two) q ≡ (eqb q one || eqb q two)
places_two one two kind q n m = rw (← two_places kind one two n m) refl

-- neither is 0
pub some_both : (p q : ℕ) → (eqb p 0 || eqb q 0) ≡ false → (0 < p) × (0 < q)
some_both zero q e = let z : ◌≡◌ {A = ℕ} 0 1 = cc in absurd (omega arith)
some_both (suc p) zero e = let z : ◌≡◌ {A = ℕ} 0 1 = cc (ne_eqb (suc p) 0 (λ e. omega arith)) in absurd (omega arith)
some_both (suc p) (suc q) e = (omega arith, omega arith)

-- a kind that a mark asks for, or any kind where there is no mark
pub entry_no_shift : (kind : ℕ) (y : Marked) → is_small y ≡ true → has_zero y ≡ false → ((mark_of y ≡ 0 → ⊥) → mark_of y ≡ kind) → (q : ℕ)
    → allows (places_of kind (one_of y) (two_of kind y)) q ≡ lists y (q + 1)
entry_no_shift kind (Bare p) small some of-kind q = go (eqb kind span) refl
  where
    above : 0 < p
    above = (some_both p 1 (rw some)).0

    go : (t : Bool) → eqb kind span ≡ t → allows (places_of kind (p - 1) (cond (eqb kind span) (p - 1) no_place)) q ≡ eqb (q + 1) p
    go true e = rw e (places_span (p - 1) (p - 1) kind q (eqb-true kind span e) ∙ one_wide p q above)
    go false e = rw e (places_one (p - 1) kind q (eqb-false kind span e) ∙ eqb_less p q above)
entry_no_shift kind (Two p r) small some of-kind q =
    let above = some_both p r some in
    let few = both (leb p most_number) (leb r most_number) small in
    let is-pair : pair ≡ kind = of-kind (λ z. omega arith) in
    let first = eqb_less p q above.0 in
    let second = eqb_less r q above.1 in
    places_two (p - 1) (r - 1) kind q (λ e. omega arith) (λ e. omega (arith, leb-true r most_number few.1, above.1)) ∙ rw (first, second) refl
entry_no_shift kind (Run p r) small some of-kind q =
    let above = some_both p r some in
    let is-span : span ≡ kind = of-kind (λ z. omega arith) in
    let first = leb_from p q above.0 in
    let second = leb_to r q above.1 in
    places_span (p - 1) (r - 1) kind q (sym is-span) ∙ rw (first, second) refl
