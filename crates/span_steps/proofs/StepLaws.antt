-- Laws of the steps at a place: the parts of its list, and the tests of one entry, by their outcomes. Assumes nothing.
use mathlib.Core.Path.{◌≡◌, refl, sym, ap, ◌∙◌}
use mathlib.Core.Bool.{Bool, true, false, cond, ◌&&◌}
use mathlib.Core.List.{List, [], ◌∷◌}
use Prim.Native.Nat.{ℕ, zero, suc, ◌+◌, ◌-◌, ◌/◌, ◌≤◌, ◌<◌}
use native.Mathlib.Omega.{arith}
use native.Mathlib.Numerals.{add-one}
use lib.ListN.{length, get_or, take, drop_of_length-le}
use lib.Seq.{slice-cons, length-take-le}
use lib.Dec.{eqb}
use borrow.Author.Tests.{eq-eqb}
use Rattle.base_lists.proofs.TestLaws.{both}
use Rattle.base_lists.specs.Members.{In, first, later}
use Rattle.base_lists.specs.Parts.{part}
use Rattle.span_tables.specs.Prepared.{list_at}
use Rattle.span_steps.specs.Steps.{is_left, agrees, able}

-- ---- parts

pub part_cons : (xs : List ℕ) (k hi : ℕ) → k < hi → hi ≤ length xs → part xs k hi ≡ get_or xs k 0 ∷ part xs (k + 1) hi
part_cons xs k hi h g = slice-cons k hi xs 0 h g ∙ ap (λ (n : ℕ). get_or xs k 0 ∷ part xs n hi) (sym (add-one k))

pub part_none : (xs : List ℕ) (k hi : ℕ) → hi ≤ k → hi ≤ length xs → part xs k hi ≡ []
part_none xs k hi h g = drop_of_length-le (take hi xs) {i = k} (omega (arith, length-take-le hi xs g))

-- what stands from lo up to hi is in the part
pub in_part : (xs : List ℕ) (lo hi x : ℕ) → lo ≤ x → x < hi → hi ≤ length xs → In (get_or xs x 0) (part xs lo hi)
in_part xs lo hi x h g there = go (x - lo) lo (omega arith)
  where
    go : (n from : ℕ) → x ≡ from + n → In (get_or xs x 0) (part xs from hi)
    go zero from e = let same : x ≡ from = omega arith in rw (part_cons xs from hi (omega arith) there) (rw same first)
    go (suc n) from e = rw (part_cons xs from hi (omega arith) there) (later (go n (from + 1) (omega arith)))

-- the list of the place, by where it begins and ends
pub list_is : (slots starts : List ℕ) (i : ℕ) {lo hi : ℕ} → lo ≡ get_or starts i 0 → hi ≡ get_or starts (i + 1) 0
    → part slots lo hi ≡ list_at starts slots i
list_is slots starts i {lo} {hi} e f =
    ap (λ (n : ℕ). part slots n hi) e ∙ ap (part slots (get_or starts i 0)) (f ∙ ap (λ (n : ℕ). get_or starts n 0) (add-one i))

-- ---- the test of one entry, by its outcomes

module _ (i want w : ℕ) where
  pub agrees_by_word : w / 4 ≡ want → agrees i want w ≡ true
  agrees_by_word h = rw (eq-eqb (w / 4) want h) (go (eqb i 0))
    where
      go : (b : Bool) → cond b true true ≡ true
      go true = refl
      go false = refl

-- who is able is left,
pub able_left : (words marks : List ℕ) (i want e : ℕ) → able words marks i want e ≡ true → is_left marks e ≡ true
unfolding able
able_left words marks i want e h = (both _ _ h).0

-- and its word agrees
pub able_is : (words marks : List ℕ) (i want e : ℕ) → able words marks i want e ≡ is_left marks e && agrees i want (get_or words e 0)
unfolding able
able_is words marks i want e = refl
