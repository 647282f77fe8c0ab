-- Laws of reading the first build off the table: what is completed from the first place on is what was read so far and whatever is completed
-- from there, and then the rest. Assumes nothing.
use mathlib.Core.Path.{◌≡◌, refl, sym, ap, ap₂, ◌∙◌}
use mathlib.Core.Bool.{Bool, true, false, ◌||◌}
use mathlib.Core.List.{List, [], ◌∷◌, ◌++◌, map, flat_map, append_assoc, append-nil}
use mathlib.Core.Option.{Option, none, some}
use Rattle.std.specs.Prelude.{Option as Answer, Some, IsSome}
use Prim.Native.Nat.{ℕ, ◌+◌, ◌-◌, ◌%◌, ◌^◌, ◌≤◌, ◌<◌}
use native.Mathlib.Omega.{arith}
use native.Mathlib.Numerals.{add-one}
use lib.ListN.{length, get_or, set, take, length-set}
use lib.Seq.{take-suc-set, take_all}
use Rattle.base_lists.specs.Members.{In, first, later}
use Rattle.base_lists.proofs.ListLaws.{in_keep}
use Rattle.span_layers.specs.Completed.{paths, is_some}
use Rattle.span_layers.proofs.Paths.{paths_end}
use Rattle.span_steps.specs.Steps.{agrees, Wants, at_first, later_on}
use Rattle.span_narrow.specs.declared.chances.Spot.{Spot}
use Rattle.span_narrow.specs.declared.digits.Pick.{Pick}
use Rattle.span_narrow.specs.Digits.{FirstOf}
use Rattle.span_narrow.specs.Plan.{Plan, left_on}
use Rattle.span_narrow.specs.States.{Sides, paths_after, paths_with, is_kept}
use Rattle.span_narrow.specs.Stepping.{chosen_at}
use Rattle.span_narrow.specs.ReadOff.{Taking, Took, Readable, WasRead}
use Rattle.span_narrow.proofs.ChooseLaws.{chosen_first}
use Rattle.span_narrow.proofs.PlaceLaws.{tried_next}
use Rattle.span_narrow.proofs.StateLaws.{some_map, some_flat, chance_leads, cell_completes}
use Rattle.span_narrow.proofs.SideLaws.{sides_first, sides_all}
use Rattle.span_narrow.proofs.SweepLaws.{half_told, begun_kept}

-- ---- the first that leads on

module _ {plan : Plan} {marks table : List ℕ} {s : Spot} (t : Taking plan marks table s) where
  module _ {r : Answer Pick} (chosen : FirstOf (chosen_at plan marks table s) r) where
    -- somebody is chosen
    pub taken_some : IsSome r
    taken_some = (cell_completes table t.told chosen).each t.word_before t.wants ∙ t.some

    pub taken_took : {p : Pick} → r ≡ Some p → Took plan marks (set marks p.e 1) s p
    unfolding flat_map
    taken_took {p} e =
        let first_is = chosen_first chosen e in
        let js = first_is.rest in
        let here : In p.e (chosen_at plan marks table s) = rw first_is.split first in
        let chance = t.told.each p.e (in_keep (λ k. agrees s.i s.want (get_or plan.words k 0)) _ here).0 in
        record {
          marks_is = refl;
          tried = chance.tried;
          leads = chance.leads;
          rest = flat_map (paths_with plan marks s.i) js;
          more_is = some_flat (paths_with plan marks s.i) js
              (λ j m'. chance_leads t.told s.want j (rw first_is.split (later m'))) ∙ sym first_is.more_is;
          paths_are = λ q wants. t.told.all q s.want wants ∙ ap (flat_map (paths_with plan marks s.i)) first_is.split;
        }

-- ---- one word more

module _ {A : Type 0} where
  map_append : {B : Type 0} (f : A → B) (xs ys : List A) → map f (xs ++ ys) ≡ map f xs ++ map f ys
  map_append f [] ys = refl
  map_append f (x ∷ xs) ys = ap (λ r. f x ∷ r) (map_append f xs ys)

  some_either : (xs ys : List A) → is_some (xs ++ ys) ≡ (is_some ys || is_some xs)
  some_either [] [] = refl
  some_either [] (y ∷ ys) = refl
  some_either (x ∷ xs) [] = refl
  some_either (x ∷ xs) (y ∷ ys) = refl

-- a path and the word after it
longer : (path : List ℕ) (w : ℕ) (ps : List (List ℕ)) → map (λ ws. path ++ ws) (map (λ ws. w ∷ ws) ps) ≡ map (λ ws. (path ++ (w ∷ [])) ++ ws) ps
longer path w [] = refl
longer path w (ws ∷ ps) = ap₂ ◌∷◌ (sym (append_assoc path (w ∷ []) ws)) (longer path w ps)

-- what was read so far
module _ {plan : Plan} {marks₀ table first₀ : List ℕ} (asked : Readable plan marks₀ table first₀) where
  pub record SoFarRead (marks kept : List ℕ) (i want : ℕ) (more : Bool) : Type 0 where
    pub within : i ≤ length plan.words
    pub firsts : length kept ≡ length plan.words
    pub sides : Sides plan marks i (i + 1)
    pub is_kept_lem : i < length plan.words → is_kept plan marks asked.half.keeps i ≡ true
    pub word_before : Option ℕ
    pub wants : Wants plan.l i want word_before
    pub some : is_some (paths plan.l (length plan.words - i) i word_before (left_on plan marks)) ≡ true
    pub rest : List (List ℕ)
    pub more_is : is_some rest ≡ more
    pub whole : paths plan.l (length plan.words) 0 none (left_on plan marks₀)
        ≡ map (λ ws. take i kept ++ ws) (paths plan.l (length plan.words - i) i word_before (left_on plan marks)) ++ rest

  map_none : (ps : List (List ℕ)) → map (λ ws. [] ++ ws) ps ≡ ps
  map_none [] = refl
  map_none (ws ∷ ps) = ap (λ r. ws ∷ r) (map_none ps)

  -- at the first place nothing was read
  pub reading_none : SoFarRead marks₀ first₀ 0 0 false
  reading_none =
      let all : length plan.words - 0 ≡ length plan.words = omega arith in
      record {
        within = omega arith;
        firsts = asked.firsts_all;
        sides = sides_first asked.sides;
        is_kept_lem = λ h. begun_kept asked.half asked.planned (sides_all asked.sides) asked.sides.marks_all h;
        word_before = none;
        wants = at_first;
        some = rw all asked.some;
        rest = [];
        more_is = refl;
        whole = sym (append-nil (map (λ ws. [] ++ ws) (paths plan.l (length plan.words - 0) 0 none (left_on plan marks₀)))
            ∙ map_none (paths plan.l (length plan.words - 0) 0 none (left_on plan marks₀))
            ∙ ap (λ n. paths plan.l n 0 none (left_on plan marks₀)) all);
      }

  module _ {marks kept : List ℕ} {i want : ℕ} {more : Bool} (s : SoFarRead marks kept i want more) where
    pub reading_taking : i < length plan.words → Taking plan marks table record { i = i; want = want }
    reading_taking h = record {
      planned = asked.planned;
      inside = h;
      room = asked.half.room;
      sides = s.sides;
      told = half_told asked.half h s.sides (s.is_kept_lem h);
      word_before = s.word_before;
      wants = s.wants;
      some = s.some;
    }

    pub reading_turn : {marks' : List ℕ} {t : Pick} {want' : ℕ} {more' : Bool} → i < length plan.words
        → Took plan marks marks' record { i = i; want = want } t
        → want' ≡ get_or plan.words t.e 0 % 4 ^ (plan.l - 1)
        → more' ≡ (more || t.more)
        → SoFarRead marks' (set kept i (get_or plan.words t.e 0)) (i + 1) want' more'
    unfolding paths_after
    reading_turn {t = t} h took is more_is = rw took.marks_is record {
      within = omega arith;
      firsts = length-set kept i w ∙ s.firsts;
      sides = tried_next asked.planned s.sides h t.e took.tried;
      is_kept_lem = λ g. asked.half.closed.next marks i t.e g s.sides (s.is_kept_lem h) took.tried;
      word_before = some w;
      wants = later_on {i = i + 1} (omega arith) is;
      some = took.leads;
      rest = map read took.rest ++ s.rest;
      more_is = some_either (map read took.rest) s.rest
          ∙ ap₂ ◌||◌ s.more_is (some_map read took.rest ∙ took.more_is) ∙ sym more_is;
      whole = s.whole ∙ ap (λ ps. map read ps ++ s.rest) (took.paths_are s.word_before s.wants)
          ∙ ap (λ ps. ps ++ s.rest) (map_append read (paths_with plan marks i t.e) took.rest
          ∙ ap (λ ps. ps ++ map read took.rest) (longer (take i kept) w led))
          ∙ append_assoc (map (λ ws. (take i kept ++ (w ∷ [])) ++ ws) led) (map read took.rest) s.rest
          ∙ ap (λ pre. map (λ ws. pre ++ ws) led ++ (map read took.rest ++ s.rest)) (sym one_more);
    }
      where
        w : ℕ
        w = get_or plan.words t.e 0

        led : List (List ℕ)
        led = paths_after plan marks i t.e

        read : List ℕ → List ℕ
        read ws = take i kept ++ ws

        one_more : take (i + 1) (set kept i w) ≡ take i kept ++ (w ∷ [])
        one_more = ap (λ n. take n (set kept i w)) (add-one i) ∙ take-suc-set kept i w (omega (arith, s.firsts))

    pub reading_all : length plan.words ≤ i → WasRead plan marks₀ kept more
    reading_all h =
        let none_left : length plan.words - i ≡ 0 = omega arith in
        let all_read : take i kept ≡ kept = take_all i kept (omega (arith, s.firsts)) in
        let last = paths plan.l (length plan.words - i) i s.word_before (left_on plan marks) in
        let ends : map (λ ws. take i kept ++ ws) last ≡ kept ∷ [] =
        rw (none_left, paths_end plan.l i s.word_before (left_on plan marks)) (ap (λ ws. ws ∷ []) (append-nil (take i kept) ∙ all_read)) in
        record { all = s.firsts; rest = s.rest; more_is = s.more_is; paths_are = s.whole ∙ ap (λ ps. ps ++ s.rest) ends }
