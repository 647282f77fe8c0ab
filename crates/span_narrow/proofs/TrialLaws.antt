-- The entries of a place's list are tried one after the other: a digit is told for each, by whether it is tried and leads on. Assumes
-- nothing.
use mathlib.Core.Path.{◌≡◌, refl, sym, ap, ◌∙◌}
use mathlib.Core.Bool.{Bool, true, false, ◌&&◌, not}
use mathlib.Core.List.{List, ◌∷◌}
use Prim.Native.Nat.{ℕ, suc, ◌+◌, ◌-◌, ◌*◌, ◌^◌, ◌≤◌, ◌<◌}
use native.Mathlib.Omega.{arith}
use native.Mathlib.Nat.{pow-suc}
use native.Mathlib.Numerals.{add-one}
use lib.Dec.{eqb}
use lib.ListN.{length, get_or}
use Rattle.base_lists.specs.Members.{In, first, later}
use Rattle.span_layers.specs.Narrow.{most_over}
use Rattle.span_layers.specs.Completed.{is_some}
use Rattle.base_lists.specs.Parts.{part}
use Rattle.span_steps.proofs.StepLaws.{part_cons, part_none, in_part, list_is}
use Rattle.span_steps.proofs.TriedLaws.{tries_skip, tries_take}
use Rattle.span_narrow.specs.declared.chances.Trial.{Trial}
use Rattle.span_narrow.specs.declared.chances.Turn.{Turn}
use Rattle.span_narrow.specs.Digits.{bit, trial_digits}
use Rattle.span_narrow.specs.Plan.{Plan, list_on}
use Rattle.span_narrow.specs.States.{can_stand, tried_at, paths_after, Chances}
use Rattle.span_narrow.specs.Stepping.{Leading, Trying, list_from, Trials, next_turn}
use Rattle.span_narrow.proofs.PlaceLaws.{told_chances}

-- the list of a place is tried
module _ {plan : Plan} {marks table : List ℕ} {i : ℕ} (asked : Trying plan marks table i) where
  abbrev lo : ℕ
  lo = get_or plan.starts i 0

  abbrev end : ℕ
  end = get_or plan.starts (i + 1) 0

  ends : end ≤ length plan.slots
  ends = rw (add-one i) (asked.planned.prepared.ends i asked.inside)

  rises : lo ≤ end
  rises = rw (add-one i) (asked.planned.prepared.starts_rise i asked.inside)

  short : end ≤ lo + most_over
  short = rw (add-one i) (asked.planned.few i asked.inside)

  the_list : part plan.slots lo end ≡ list_on plan i
  the_list = list_is plan.slots plan.starts i refl refl

module _ {plan : Plan} {marks table : List ℕ} {at : Turn} {t : Trial} (asked : Trying plan marks table at.i) (s : Trials plan marks at t) where
  abbrev last : ℕ
  last = get_or plan.starts (at.i + 1) 0

  pub trials_all : last ≤ at.k → Chances plan marks at.i t.c
  unfolding trial_digits
  trials_all h =
      told_chances asked.planned asked.sides asked.inside
      (rw s.due_is at (rw (part_none plan.slots at.k last h (ends asked)) at s.rest))

  module _ (h : at.k < last) where
    abbrev own : ℕ
    own = get_or plan.slots at.k 0

    pub trials_here : at.k < length plan.slots
    trials_here = omega (arith, ends asked)

    pub trials_below : own < length plan.words
    trials_below =
        (asked.planned.prepared.here at.i own asked.inside
        (rw (the_list asked) at (in_part plan.slots (lo asked) last at.k s.from h (ends asked)))).0

    abbrev ok : ℕ → Bool
    ok = can_stand plan.twos marks at.i at.due

    abbrev word : ℕ → ℕ
    word j = get_or plan.words j 0

    abbrev leads : ℕ → Bool
    leads j = is_some (paths_after plan marks at.i j)

    abbrev stands : Bool
    stands = ok own && not (eqb (word own) t.tried)

    abbrev more : List ℕ
    more = list_from plan at.i (at.k + 1)

    one_more : list_from plan at.i at.k ≡ own ∷ more
    one_more = part_cons plan.slots at.k last h (ends asked)

    more_few : {d : ℕ} → d < 2 * t.c + 2 → d < 2 ^ (at.k + 1 - lo asked)
    more_few g =
        let next : at.k + 1 - lo asked ≡ suc (at.k - lo asked) = omega (arith, s.from) in
        rw next (omega (arith, s.few, pow-suc 2 (at.k - lo asked)))

    -- who is tried is one of those that are tried
    pub trials_in : stands ≡ true → In own (tried_at plan marks at.i)
    trials_in e = s.among own (rw (one_more, tries_take ok word t.tried own more e) first)

    pub trials_skip : stands ≡ false
        → Trials plan marks (next_turn at) record { c = 2 * t.c; tried = t.tried }
    unfolding trial_digits
    trials_skip e = record {
      from = omega (arith, s.from);
      to = omega arith;
      due_is = s.due_is;
      few = more_few (omega arith);
      among = λ j m. s.among j (rw (one_more, tries_skip ok word t.tried own more e) m);
      rest = sym (rw one_more (rw e)) ∙ s.rest;
    }

    pub trials_take : {d : ℕ} {b : Bool} → stands ≡ true → leads own ≡ b → d ≡ 2 * t.c + bit b
        → Trials plan marks (next_turn at) record { c = d; tried = word own }
    unfolding trial_digits
    trials_take {d} {b} e led is = record {
      from = omega (arith, s.from);
      to = omega arith;
      due_is = s.due_is;
      few = more_few (low b is);
      among = λ j m. s.among j (rw (one_more, tries_take ok word t.tried own more e) (later m));
      rest = ap (λ x. trial_digits ok leads word x (word own) more) (is ∙ ap (λ x. 2 * t.c + bit x) (sym led)) ∙ sym (rw one_more (rw e)) ∙ s.rest;
    }
      where
        low : (x : Bool) → d ≡ 2 * t.c + bit x → d < 2 * t.c + 2
        low true q = omega arith
        low false q = omega arith

-- who is tried is placed
pub trying_leading : {plan : Plan} {marks table : List ℕ} {i e : ℕ} → Trying plan marks table i → In e (tried_at plan marks i)
    → Leading plan marks table i e
trying_leading a m =
    record { planned = a.planned; inside = a.inside; room = a.room; sides = a.sides; tried = m; told = a.told _ m }
