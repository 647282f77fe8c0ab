-- Laws of states: their cells, what the chances of one say of what is completed from it, and the marks around a placement. Assumes nothing.
use mathlib.Core.Path.{◌≡◌, refl, sym, ap, ◌∙◌}
use mathlib.Core.Bool.{Bool, true, false, cond, ◌&&◌, not, true≢false}
use mathlib.Core.List.{List, [], ◌∷◌, ◌++◌, map, flat_map}
use mathlib.Core.Option.{some}
use Rattle.std.specs.Prelude.{Option}
use Rattle.std.specs.Option.{is_some as option_some}
use Prim.Native.Nat.{ℕ, suc, ◌+◌, ◌-◌, ◌*◌, ◌%◌, ◌^◌, ◌≤◌, ◌<◌}
use native.Mathlib.Omega.{arith}
use mir.Val.{bool_byte}
use lib.Pow.{pow_mono}
use lib.Dec.{eqb}
use lib.ListN.{length, get_or, set}
use lib.Seq.{set-set, set-get_or, length-slice}
use borrow.Author.Tests.{eqb-true, eq-eqb, ne_eqb}
use Rattle.base_lists.specs.Members.{In, first, keep}
use Rattle.base_lists.proofs.ListLaws.{in_keep}
use Rattle.span_layers.specs.Narrow.{most_over}
use Rattle.span_layers.specs.Completed.{is_some}
use Rattle.span_layers.proofs.Paths.{paths_end}
use Rattle.span_memory.specs.Memory.{bits_of}
use Rattle.span_memory.proofs.KeyLaws.{bits_few}
use Rattle.span_steps.specs.Steps.{is_left, agrees, is_due, later_on}
use Rattle.span_narrow.specs.declared.chances.Spot.{Spot}
use Rattle.span_narrow.specs.declared.digits.Pick.{Pick}
use Rattle.span_narrow.specs.Digits.{bit, picked, FirstOf}
use Rattle.span_narrow.specs.Plan.{Plan, list_on, left_on, Planned}
use Rattle.span_narrow.specs.States.{cells_over, dues_in, can_stand, paths_after, paths_with, agreeing, Chances, HasChances}
use Rattle.span_narrow.specs.Stepping.{Cell, Known, chosen_at, Completes, Leading}
use Rattle.span_narrow.proofs.ChooseLaws.{chosen_some}
use Rattle.span_narrow.proofs.PlaceLaws.{tried_next}

-- ---- cells

pub cell_is : (list marks : List ℕ) (i : ℕ) {b : ℕ} → length list ≤ most_over → b ≡ bits_of marks list → Cell list marks i (cells_over * i + b)
cell_is list marks i h e =
    let low : 2 ^ length list ≤ 2 ^ most_over = pow_mono {i = length list} {j = most_over} h in
    record { is = ap (λ n. cells_over * i + n) e; low = omega (arith, bits_few marks list) }

-- the list of a place is short
pub list_few : {plan : Plan} {i : ℕ} → Planned plan → i < length plan.words → length (list_on plan i) ≤ most_over
list_few {plan} {i} planned inside =
    omega (
      arith,
      length-slice (get_or plan.starts i 0) (get_or plan.starts (suc i) 0) plan.slots (planned.prepared.ends i inside),
      planned.few i inside,
    )

-- ---- who can stand

-- a bool as a number is its digit
pub digit_of : (b : Bool) → bool_byte b ≡ bit b
digit_of true = refl
digit_of false = refl

module _ (words twos marks : List ℕ) (i dues e tried : ℕ) where
  abbrev pub stands : Bool
  stands = can_stand twos marks i dues e && not (eqb (get_or words e 0) tried)

  pub stands_not_again : get_or words e 0 ≡ tried → stands ≡ false
  stands_not_again h = rw (eq-eqb (get_or words e 0) tried h) (go (can_stand twos marks i dues e))
    where
      go : (b : Bool) → b && false ≡ false
      go true = refl
      go false = refl

  pub stands_not_placed : (get_or marks e 0 ≡ 0 → ⊥) → stands ≡ false
  unfolding can_stand
  stands_not_placed h = rw (ne_eqb (get_or marks e 0) 0 h)

  pub stands_by_dues : (get_or words e 0 ≡ tried → ⊥) → get_or marks e 0 ≡ 0 → stands ≡ eqb dues (bit (is_due twos marks i e))
  unfolding can_stand
  stands_by_dues n h = rw (ne_eqb (get_or words e 0) tried n, eq-eqb (get_or marks e 0) 0 h) (go (eqb dues (bit (is_due twos marks i e))))
    where
      go : (b : Bool) → b && true ≡ b
      go true = refl
      go false = refl

-- ---- how many are due

pub dues_more : (twos marks : List ℕ) (i e : ℕ) (es : List ℕ)
    → dues_in twos marks i (e ∷ es) ≡ cond (is_due twos marks i e) (1 + dues_in twos marks i es) (dues_in twos marks i es)
dues_more twos marks i e es = go (is_due twos marks i e)
  where
    due : List ℕ
    due = keep (is_due twos marks i) es

    go : (t : Bool) → length (cond t (e ∷ due) due) ≡ cond t (1 + length due) (length due)
    go true = omega arith
    go false = refl

-- ---- what is completed

pub some_map : {A B : Type 0} (f : A → B) (l : List A) → is_some (map f l) ≡ is_some l
some_map f [] = refl
some_map f (x ∷ l) = refl

some_append : {A : Type 0} (l m : List A) → is_some l ≡ true → is_some (l ++ m) ≡ true
some_append [] m h = absurd (true≢false (sym h))
some_append (x ∷ l) m h = refl

pub some_flat : {A B : Type 0} (f : A → List B) (l : List A) → ((x : A) → In x l → is_some (f x) ≡ true) → is_some (flat_map f l) ≡ is_some l
unfolding flat_map
some_flat f [] h = refl
some_flat f (x ∷ l) h = some_append (f x) (flat_map f l) (h x first)

module _ {plan : Plan} {marks : List ℕ} {i c : ℕ} (chances : Chances plan marks i c) where
  -- each whom a cell picks leads on
  pub chance_leads : (want : ℕ) (j : ℕ) → In j (agreeing plan.words i want (picked c (list_on plan i)))
      → is_some (paths_with plan marks i j) ≡ true
  chance_leads want j m =
      some_map (λ ws. get_or plan.words j 0 ∷ ws) (paths_after plan marks i j)
      ∙ (chances.each j (in_keep (λ k. agrees i want (get_or plan.words k 0)) (picked c (list_on plan i)) m).0).leads

  -- a build is completed from the state exactly if somebody is chosen
  chosen_completes : {want : ℕ} {r : Option Pick} → FirstOf (agreeing plan.words i want (picked c (list_on plan i))) r
      → Completes plan marks record { i = i; want = want } (option_some r)
  chosen_completes {want} chosen = record {
    each = λ p wants. chosen_some chosen
        ∙ sym (some_flat (paths_with plan marks i) (agreeing plan.words i want (picked c (list_on plan i))) (chance_leads want))
        ∙ ap is_some (sym (chances.all p want wants));
  }

pub cell_completes : {plan : Plan} {marks : List ℕ} (table : List ℕ) {s : Spot} {r : Option Pick} → HasChances plan marks table s.i
    → FirstOf (chosen_at plan marks table s) r
    → Completes plan marks s (option_some r)
cell_completes table told chosen = chosen_completes told chosen

-- past the last place it is complete
pub completes_all : (plan : Plan) (marks : List ℕ) (s : Spot) → s.i ≡ length plan.words → Completes plan marks s true
completes_all plan marks s e = record {
  each = λ p wants. let none : length plan.words - s.i ≡ 0 = omega arith in rw (none, paths_end plan.l s.i p (left_on plan marks));
}

-- what is completed once an entry stands
pub completes_after : (plan : Plan) (marks : List ℕ) (i e : ℕ) {want : ℕ} {r : Bool} → want ≡ get_or plan.words e 0 % 4 ^ (plan.l - 1)
    → Completes plan (set marks e 1) record { i = i + 1; want = want } r
    → r ≡ is_some (paths_after plan marks i e)
unfolding paths_after
completes_after plan marks i e is c = c.each (some (get_or plan.words e 0)) (later_on (omega arith) is)

-- a mark that is set and taken away
pub marked_unmarked : (marks : List ℕ) (e : ℕ) → is_left marks e ≡ true → set (set marks e 1) e 0 ≡ marks
marked_unmarked marks e h = set-set marks e 1 0 ∙ ap (set marks e) (sym (eqb-true (get_or marks e 0) 0 h)) ∙ set-get_or marks e 0

-- the state after an entry that is tried
pub leading_known : {plan : Plan} {marks table : List ℕ} {i e : ℕ} → Leading plan marks table i e → Known plan (set marks e 1) table (i + 1)
leading_known p = record {
  planned = p.planned;
  inside = omega (arith, p.inside);
  room = p.room;
  sides = tried_next p.planned p.sides p.inside _ p.tried;
  told = p.told;
}
