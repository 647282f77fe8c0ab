-- Who is tried at a place: those that can stand there and whose word agrees. Assumes nothing.
use mathlib.Core.Path.{◌≡◌, refl, sym, ap, ◌∙◌}
use mathlib.Core.Bool.{Bool, true, false, ◌&&◌}
use mathlib.Core.List.{List, [], ◌∷◌}
use Prim.Native.Nat.{ℕ, suc}
use native.Mathlib.Omega.{arith}
use lib.Dec.{eqb}
use lib.ListN.{length, get_or}
use borrow.Author.Tests.{ne_eqb}
use Rattle.base_lists.specs.Members.{keep}
use Rattle.base_lists.proofs.ListLaws.{not_in_nil, keep_in}
use Rattle.span_steps.specs.Steps.{is_left, agrees, able, is_due, opened}
use Rattle.base_lists.proofs.TestLaws.{never, and_true}
use Rattle.base_lists.proofs.KeepLaws.{keep_same, keep_none, keep_both}
use Rattle.span_steps.proofs.StepLaws.{able_is}
use Rattle.span_narrow.specs.Digits.{bit}
use Rattle.span_narrow.specs.States.{can_stand}

module _ (words twos marks : List ℕ) (i want : ℕ) (table : List ℕ) where
  abbrev dues : List ℕ
  dues = keep (is_due twos marks i) table

  abbrev standing : ℕ → ℕ → Bool
  standing n j = can_stand twos marks i n j && agrees i want (get_or words j 0)

  none_stand : dues ≡ [] → keep (able words marks i want) table ≡ keep (standing 0) table
  unfolding can_stand
  none_stand e =
      keep_same (able words marks i want) (standing 0) table
      (λ j m. rw (able_is words marks i want j, never (is_due twos marks i j) (λ d. not_in_nil (rw e at (keep_in (is_due twos marks i) m (rw d tt)))))
      (ap (λ b. b && agrees i want (get_or words j 0)) (sym (and_true (is_left marks j)))))

  one_stands : (d : ℕ) → dues ≡ d ∷ [] → keep (able words marks i want) (d ∷ []) ≡ keep (standing 1) table
  unfolding can_stand
  one_stands d e =
      ap (keep (able words marks i want)) (sym e) ∙ sym (keep_both (is_due twos marks i) (able words marks i want) table)
      ∙ keep_same _ (standing 1) table
      (λ j m. rw (able_is words marks i want j) (go (is_left marks j) (is_due twos marks i j) (agrees i want (get_or words j 0))))
    where
      go : (a b c : Bool) → b && (a && c) ≡ (a && eqb 1 (bit b)) && c
      go true true c = refl
      go true false c = refl
      go false true c = refl
      go false false c = refl

  more_stand : (d e : ℕ) (more : List ℕ) → [] ≡ keep (standing (length (d ∷ e ∷ more))) table
  unfolding can_stand
  more_stand d e more = sym (keep_none (standing (length (d ∷ e ∷ more))) table (λ j m. go (is_left marks j) (is_due twos marks i j) _))
    where
      go : (a b c : Bool) → (a && eqb (suc (suc (length more))) (bit b)) && c ≡ false
      go true true c = rw (ne_eqb (suc (suc (length more))) 1 (λ q. omega arith))
      go true false c = rw (ne_eqb (suc (suc (length more))) 0 (λ q. omega arith))
      go false b c = refl

  -- those that are able, out of what the list opens, are those of it that can stand there and agree
  pub open_stand : keep (able words marks i want) (opened dues table) ≡ keep (standing (length dues)) table
  open_stand = go dues refl
    where
      go : (ds : List ℕ) → dues ≡ ds → keep (able words marks i want) (opened ds table) ≡ keep (standing (length ds)) table
      go [] e = none_stand e
      go (d ∷ []) e = one_stands d e
      go (d ∷ f ∷ more) e = more_stand d f more
