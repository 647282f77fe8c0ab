-- A place of the walk: what it completes from a state there is what it completes after each that is tried, and whoever is tried leaves a
-- state at the next place. Assumes nothing.
use mathlib.Core.Path.{◌≡◌, refl, sym, ap, ap₂, ◌∙◌}
use mathlib.Core.Logic.{⊎_elim}
use mathlib.Core.Bool.{Bool, true, false, cond, ◌&&◌, not, true≢false}
use mathlib.Core.List.{List, [], ◌∷◌, ◌++◌, map, flat_map}
use mathlib.Core.Option.{Option, some}
use Prim.Native.Nat.{ℕ, suc, ◌+◌, ◌-◌, ◌/◌, ◌≤◌, ◌<◌}
use native.Mathlib.Omega.{arith}
use native.Mathlib.Numerals.{add-one}
use lib.ListN.{length, get_or, set, length-set}
use lib.Seq.{get_or-set_same, get_or-set_other, ext_get_or}
use lib.Dec.{eqb, leb}
use borrow.Author.Tests.{eqb-true, eqb-false, eq-eqb, ne_eqb, leb-true, leb-false}
use Rattle.base_lists.proofs.TestLaws.{both, is_true, never}
use Rattle.card_entries.specs.declared.Slot.{Slot}
use Rattle.base_lists.specs.Members.{In, first, later, Rising, keep}
use Rattle.base_lists.specs.Numbers.{numbers}
use Rattle.base_lists.proofs.ListLaws.{in_keep, keep_in}
use Rattle.base_lists.proofs.FillingLaws.{same_or_not}
use Rattle.span_theory.proofs.Order.{firsts}
use Rattle.span_layers.specs.Completed.{paths, is_some}
use Rattle.span_layers.proofs.Paths.{paths_table}
use Rattle.span_memory.specs.Memory.{bits_of}
use Rattle.span_memory.proofs.KeyLaws.{bits_same}
use Rattle.span_steps.specs.Steps.{WalkTables, walk_tables, no_word, is_left, span_at, agrees, able, Wants}
use Rattle.span_steps.proofs.SpanLaws.{spans_rise, words_below}
use Rattle.span_steps.proofs.StepLaws.{agrees_by_word}
use Rattle.span_steps.proofs.Candidates.{Place, Alone, candidates, opened_alone}
use Rattle.span_steps.proofs.TriedLaws.{tries_in, tries_ok, tries_firsts, tries_then}
use Rattle.span_steps.proofs.LeftLaws.{left_is, left_set, left_marked}
use Rattle.span_steps.proofs.OrderLaws.{rising_each, sooner_is}
use Rattle.span_narrow.specs.Digits.{picked, trial_digits}
use Rattle.span_narrow.specs.Plan.{Plan, list_on, left_on, Planned}
use Rattle.span_narrow.specs.States.{Sides, dues_in, can_stand, tried_at, paths_after, paths_with, agreeing, Chances}
use Rattle.span_narrow.proofs.DigitLaws.{told_picked}
use Rattle.span_narrow.proofs.TriedLaws.{open_stand}

-- ---- lists one after the other

flat_map_same : {A B : Type 0} (f g : A → List B) (l : List A) → ((x : A) → In x l → f x ≡ g x) → flat_map f l ≡ flat_map g l
unfolding flat_map
flat_map_same f g [] h = refl
flat_map_same f g (x ∷ l) h = ap₂ (λ r s. r ++ s) (h x first) (flat_map_same f g l (λ y m. h y (later m)))

-- what gives nothing can be left out
flat_map_keep : {A B : Type 0} (f : A → List B) (g h : A → Bool) (l : List A) → ((x : A) → h x ≡ false → f x ≡ [])
    → flat_map f (keep g l) ≡ flat_map f (keep g (keep h l))
unfolding flat_map
flat_map_keep f g h [] none = refl
flat_map_keep f g h (x ∷ l) none = go (g x) refl (h x) refl (flat_map_keep f g h l none)
  where
    go : (a : Bool) → g x ≡ a → (b : Bool) → h x ≡ b → flat_map f (keep g l) ≡ flat_map f (keep g (keep h l))
        → flat_map f (cond a (x ∷ keep g l) (keep g l)) ≡ flat_map f (keep g (cond b (x ∷ keep h l) (keep h l)))
    go true e true q more = rw e (ap (λ r. f x ++ r) more)
    go true e false q more = ap (λ r. r ++ flat_map f (keep g l)) (none x q) ∙ more
    go false e true q more = rw e more
    go false e false q more = more

-- ---- a place

-- what the walk reads of a plan
abbrev tables_of : Plan → WalkTables
tables_of plan = walk_tables plan.words plan.twos plan.starts plan.slots

module _ {plan : Plan} {marks : List ℕ} {i : ℕ} (planned : Planned plan)
    (sides : Sides plan marks i (i + 1)) (inside : i < length plan.words) where
  abbrev table : List ℕ
  table = list_on plan i

  abbrev entry : ℕ → Slot
  entry = span_at plan.words plan.ones plan.twos

  abbrev word : ℕ → ℕ
  word j = get_or plan.words j 0

  abbrev last : ℕ → ℕ
  last j = get_or plan.twos j 0

  abbrev can : ℕ → Bool
  can = can_stand plan.twos marks i (dues_in plan.twos marks i table)

  abbrev tried : List ℕ
  tried = tried_at plan marks i

  place : Place i (tables_of plan) plan.ones marks
  place = record { prepared = planned.prepared; spans = spans_rise planned.card; past = sides.past; inside = inside }

  pub tried_here : (j : ℕ) → In j tried → (j < length plan.words) × (get_or plan.ones j 0 ≤ i) × (i ≤ last j)
  tried_here j m = planned.prepared.here i j inside (tries_in can word no_word table m)

  tried_can : (j : ℕ) → In j tried → can j ≡ true
  tried_can j m = tries_ok can word no_word table m

  pub tried_free : (j : ℕ) → In j tried → is_left marks j ≡ true
  unfolding can_stand
  tried_free j m = (both (is_left marks j) _ (tried_can j m)).0

  -- every other entry that is left ends past the place
  tried_alone : (j : ℕ) → In j tried → Alone i plan.words plan.twos marks j
  tried_alone j m =
      let want = word j / 4 in
      let stands : In j (keep (λ k. can k && agrees i want (word k)) table) =
      keep_in (λ k. can k && agrees i want (word k)) (tries_in can word no_word table m)
      (rw (tried_can j m, agrees_by_word i want (word j) refl) tt) in
      opened_alone place j (in_keep (able plan.words marks i want) _ (rw (open_stand plan.words plan.twos marks i want table) stands)).0

  -- so there is a state at the next place once it stands
  pub tried_next : (j : ℕ) → In j tried → Sides plan (set marks j 1) (i + 1) (i + 1 + 1)
  tried_next j m = record {
    marks_all = length-set marks j 1 ∙ sides.marks_all;
    digits = λ k h. ⊎_elim (λ e. rw e (rw (get_or-set_same marks j 1 0 there) (omega arith)))
        (λ n. rw (get_or-set_other marks j k 1 0 n) (sides.digits k h)) (same_or_not k j);
    past = λ k h g. let b = both (is_left marks k) (not (eqb k j)) (rw (left_set marks j k there) at g) in
        omega (arith, (tried_alone j m).others k h b.0 (λ e. true≢false (sym b.1 ∙ rw (eq-eqb k j e))));
    ahead = λ k h g. rw (left_set marks j k there, sides.ahead k h (omega arith), ne_eqb k j (λ e. begun k e g));
  }
    where
      there : j < length marks
      there = omega (arith, (tried_here j m).0, sides.marks_all)

      begun : (k : ℕ) → k ≡ j → i + 1 + 1 ≤ get_or plan.ones k 0 → ⊥
      begun k e g = omega (arith, (tried_here j m).1, ap (λ x. get_or plan.ones x 0) e)

  module _ {want : ℕ} {p : Option ℕ} (wants : Wants plan.l i want p) where
    abbrev placing : ℕ → List (List ℕ)
    placing j =
        map (λ ws. word j ∷ ws)
        (paths plan.l (length plan.words - (i + 1)) (suc i) (some (word j)) (map entry (keep (λ k. is_left marks k && not (eqb k j)) (numbers 0
        (length plan.words)))))

    placing_is : (j : ℕ) → j < length plan.words → placing j ≡ paths_with plan marks i j
    unfolding paths_after
    placing_is j h =
        rw (left_marked plan.words plan.ones plan.twos marks j (omega (arith, sides.marks_all))) (ap
        (λ n. map (λ ws. word j ∷ ws)
        (paths plan.l (length plan.words - (i + 1)) n (some (word j)) (map entry (keep (λ k. is_left marks k && not (eqb k j)) (numbers 0
        (length plan.words)))))) (sym (add-one i)))

    -- what is completed from here is completed after those that are tried and whose word agrees
    place_paths : paths plan.l (length plan.words - i) i p (left_on plan marks)
        ≡ flat_map (paths_with plan marks i) (agreeing plan.words i want tried)
    place_paths =
        ap (paths plan.l (length plan.words - i) i p) (left_is plan.words plan.ones plan.twos marks)
        ∙ ap (λ n. paths plan.l n i p (map entry (keep (is_left marks) (numbers 0 (length plan.words))))) one_less
        ∙ paths_table entry (length plan.words) (is_left marks) plan.l (length plan.words - (i + 1)) i p
        (rising_each (sooner_is plan.words plan.ones plan.twos) (planned.prepared.sorted i inside))
        (λ j h. (planned.prepared.here i j inside h).0)
        (λ j h a. planned.prepared.there i j inside h a.begun a.lasts)
        ∙ ap (λ js. flat_map placing (firsts word last js)) (candidates place wants ∙ open_stand plan.words plan.twos marks i want table)
        ∙ ap (flat_map placing) (tries_firsts (λ j. can j && agrees i want (word j)) word last no_word table (λ j h e. omega (arith, low j h)))
        ∙ ap (flat_map placing) (tries_then can word (agrees i want) no_word rising low)
        ∙ flat_map_same placing (paths_with plan marks i) (agreeing plan.words i want tried)
        (λ j h. placing_is j (tried_here j (in_keep (λ k. agrees i want (word k)) tried h).0).0)
      where
        one_less : length plan.words - i ≡ suc (length plan.words - (i + 1))
        one_less = omega (arith, inside)

        low : (j : ℕ) → In j table → word j < no_word
        low j h = words_below planned.card j (planned.prepared.here i j inside h).0

        rising : Rising (λ j k. word j ≤ word k) table
        rising = rising_each (λ j k s. (sooner_is plan.words plan.ones plan.twos j k s).words) (planned.prepared.sorted i inside)

  -- ---- the chances of a state

  none_after : (j : ℕ) → is_some (paths_after plan marks i j) ≡ false → paths_with plan marks i j ≡ []
  none_after j h = go (paths_after plan marks i j) h
    where
      go : (ps : List (List ℕ)) → is_some ps ≡ false → map (λ ws. word j ∷ ws) ps ≡ []
      go [] e = refl
      go (q ∷ ps) e = absurd (true≢false e)

  pub told_chances : {c : ℕ} → c ≡ trial_digits can (λ j. is_some (paths_after plan marks i j)) word 0 no_word table
      → Chances plan marks i c
  told_chances {c} e = record {
    all = λ p want wants. place_paths wants
        ∙ flat_map_keep (paths_with plan marks i) (λ j. agrees i want (word j)) leads tried none_after
        ∙ ap (λ js. flat_map (paths_with plan marks i) (agreeing plan.words i want js)) (sym picks);
    each = λ j m. let k = in_keep leads tried (rw picks at m) in record { tried = k.0; leads = is_true _ k.1 };
  }
    where
      leads : ℕ → Bool
      leads j = is_some (paths_after plan marks i j)

      picks : picked c table ≡ keep leads tried
      picks = ap (λ x. picked x table) e ∙ told_picked can leads word 0 no_word table

-- ---- two states with the same digits are one

module _ {plan : Plan} {marks marks' : List ℕ} {i : ℕ} (planned : Planned plan)
    (s : Sides plan marks i (i + 1)) (s' : Sides plan marks' i (i + 1)) (inside : i < length plan.words) where
  left_same : bits_of marks (list_on plan i) ≡ bits_of marks' (list_on plan i) → (k : ℕ) → k < length plan.words
      → is_left marks k ≡ is_left marks' k
  left_same same k h = go (leb (get_or plan.ones k 0) i) refl (leb i (get_or plan.twos k 0)) refl
    where
      go : (a : Bool) → leb (get_or plan.ones k 0) i ≡ a → (b : Bool) → leb i (get_or plan.twos k 0) ≡ b → is_left marks k ≡ is_left marks' k
      go true e true f =
          bits_same marks marks' (list_on plan i) same k (planned.prepared.there i k inside h (leb-true _ _ e) (leb-true _ _ f))
      go true e false f =
          let late : get_or plan.twos k 0 < i = leb-false _ _ f in
          never (is_left marks k) (λ t. omega (arith, s.past k h t)) ∙ sym (never (is_left marks' k) (λ t. omega (arith, s'.past k h t)))
      go false e b f =
          let early : i < get_or plan.ones k 0 = leb-false _ _ e in
          s.ahead k h (omega arith) ∙ sym (s'.ahead k h (omega arith))

  digit_same : (a b : ℕ) → a ≤ 1 → b ≤ 1 → eqb a 0 ≡ eqb b 0 → a ≡ b
  digit_same a b h g e = go (eqb a 0) (eqb b 0) refl refl e
    where
      go : (x y : Bool) → eqb a 0 ≡ x → eqb b 0 ≡ y → x ≡ y → a ≡ b
      go true true p q r = eqb-true a 0 p ∙ sym (eqb-true b 0 q)
      go false false p q r = omega (arith, eqb-false a 0 p, eqb-false b 0 q)
      go true false p q r = absurd (true≢false r)
      go false true p q r = absurd (true≢false (sym r))

  pub states_one : bits_of marks (list_on plan i) ≡ bits_of marks' (list_on plan i) → marks ≡ marks'
  states_one same =
      ext_get_or 0 marks marks' (s.marks_all ∙ sym s'.marks_all)
      (λ k h.
      let below-m : k < length plan.words = omega (arith, s.marks_all) in
      digit_same (get_or marks k 0) (get_or marks' k 0) (s.digits k below-m) (s'.digits k below-m) (left_same same k below-m))
