-- Laws of choosing: the loop looks at the list from its end, and takes the digits of the cell apart from theirs. Assumes nothing.
use mathlib.Core.Path.{◌≡◌, refl, sym, ap, ◌∙◌}
use mathlib.Core.Bool.{Bool, true, false, cond, ◌&&◌}
use Rattle.std.specs.Prelude.{Option, None, Some}
use Rattle.std.specs.Option.{is_some as option_some}
use mathlib.Core.List.{List, ◌∷◌}
use Prim.Native.Nat.{ℕ, suc, ◌-◌, ◌/◌, ◌%◌, ◌^◌, ◌≤◌, ◌<◌}
use native.Mathlib.Omega.{arith}
use native.Mathlib.Nat.{pow-suc, pow-zero, div-one, div-div-eq-div-mul}
use lib.Dec.{eqb}
use lib.ListN.{length, get_or, drop, length-drop}
use lib.Seq.{drop-cons, drop-length}
use Rattle.base_lists.proofs.TestLaws.{both}
use Rattle.span_layers.specs.Completed.{is_some}
use Rattle.span_steps.specs.Steps.{agrees}
use Rattle.span_narrow.specs.declared.digits.Pick.{Pick}
use Rattle.span_narrow.specs.Digits.{picked, FirstIs, FirstOf, nobody, somebody}
use Rattle.span_narrow.specs.States.{agreeing}

-- whether somebody is chosen
pub chosen_some : {ks : List ℕ} {r : Option Pick} → FirstOf ks r → option_some r ≡ is_some ks
chosen_some (nobody e f) = rw (e, f)
chosen_some (somebody e h) = rw (e, h.split)

pub chosen_first : {ks : List ℕ} {r : Option Pick} {p : Pick} → FirstOf ks r → r ≡ Some p → FirstIs ks p
chosen_first {p = p} (nobody e f) q = let none : None ≡ Some p = sym e ∙ q in cc
chosen_first {p = p} (somebody {p = own} e h) q = let same : own ≡ p = cc in rw (← same) h

module _ (list words : List ℕ) (c i want : ℕ) where
  -- the entry e is picked by the last digit of d, and its word agrees
  abbrev pub is_picked : ℕ → ℕ → Bool
  is_picked d e = eqb (d % 2) 1 && agrees i want (get_or words e 0)

  -- those from the slot k on
  abbrev chosen : ℕ → List ℕ
  chosen k = agreeing words i want (picked c (drop k list))

  pub record LookedFrom (k d : ℕ) (r : Option Pick) : Type 0 where
    pub within : k ≤ length list
    pub rest : d ≡ c / 2 ^ (length list - k)
    pub found : FirstOf (chosen k) r

  pub looked_none : LookedFrom (length list) c None
  unfolding picked
  looked_none = record {
    within = omega arith;
    rest = let none : length list - length list ≡ 0 = omega arith in sym (ap (λ n. c / 2 ^ n) none ∙ ap (λ n. c / n) (pow-zero 2) ∙ div-one c);
    found = nobody refl (ap (λ l. agreeing words i want (picked c l)) (drop-length list));
  }

  module _ {k d : ℕ} {r : Option Pick} (s : LookedFrom k d r) (some : 0 < k) where
    -- the digits before
    before : d / 2 ≡ c / 2 ^ (length list - (k - 1))
    before =
        let one : length list - (k - 1) ≡ suc (length list - k) = omega (arith, s.within) in
        ap (λ n. n / 2) s.rest ∙ div-div-eq-div-mul c (2 ^ (length list - k)) 2
        ∙ ap (λ n. c / n) (sym (pow-suc 2 (length list - k)) ∙ ap (λ n. 2 ^ n) (sym one))

    -- one more of the list
    one_more : drop (k - 1) list ≡ get_or list (k - 1) 0 ∷ drop k list
    one_more =
        let next : suc (k - 1) ≡ k = omega arith in
        drop-cons list (k - 1) 0 (omega (arith, s.within)) ∙ ap (λ n. get_or list (k - 1) 0 ∷ drop n list) next

    its_digit : c / 2 ^ length (drop k list) % 2 ≡ d % 2
    its_digit = ap (λ n. c / 2 ^ n % 2) (length-drop k list) ∙ ap (λ n. n % 2) (sym s.rest)

    turn : (t : Bool) → eqb (d % 2) 1 ≡ t
        → chosen (k - 1) ≡ agreeing words i want (cond t (get_or list (k - 1) 0 ∷ picked c (drop k list)) (picked c (drop k list)))
    unfolding picked
    turn t e = rw one_more (rw (its_digit, e))

    pub looked_skip : is_picked d (get_or list (k - 1) 0) ≡ false → LookedFrom (k - 1) (d / 2) r
    looked_skip h = record { within = omega (arith, s.within); rest = before; found = rw (same (eqb (d % 2) 1) refl h) s.found }
      where
        same : (t : Bool) → eqb (d % 2) 1 ≡ t → (t && agrees i want (get_or words (get_or list (k - 1) 0) 0)) ≡ false → chosen (k - 1) ≡ chosen k
        same true e g = turn true e ∙ rw g
        same false e g = turn false e

    pub looked_more : is_picked d (get_or list (k - 1) 0) ≡ true
        → LookedFrom (k - 1) (d / 2) (Some record { e = get_or list (k - 1) 0; more = option_some r })
    looked_more h =
        let b = both (eqb (d % 2) 1) (agrees i want (get_or words (get_or list (k - 1) 0) 0)) h in
        record {
          within = omega (arith, s.within);
          rest = before;
          found = somebody refl record {
            rest = chosen k;
            split = turn true b.0 ∙ rw b.1;
            more_is = chosen_some s.found;
          };
        }

  pub looked_all : {k d : ℕ} {r : Option Pick} → LookedFrom k d r → k ≤ 0 → FirstOf (agreeing words i want (picked c list)) r
  looked_all {k} s h = let none : k ≡ 0 = omega arith in rw none at s.found
