-- The whole: where the first state is kept and every entry is left, what is read off is the verdict by all builds; and a card with a crowded
-- place has none. Assumes nothing.
use mathlib.Core.Path.{◌≡◌, refl, sym, ap, ◌∙◌}
use mathlib.Core.Bool.{Bool, true, false, true≢false}
use mathlib.Core.List.{List, [], ◌∷◌, ◌++◌}
use mathlib.Core.Option.{none}
use Prim.Native.Nat.{ℕ, suc, ◌-◌, ◌≤◌, ◌<◌}
use native.Mathlib.Omega.{arith}
use lib.ListN.{length, get_or, take}
use lib.Seq.{length-slice, take_at}
use lib.Dec.{leb, le→leb}
use Rattle.card_entries.proofs.HoldLaws.{hold_of_kind, hold_some}
use Rattle.base_lists.proofs.RowLaws.{length_row}
use Rattle.card_entries.specs.declared.Slot.{Slot}
use Rattle.card_entries.specs.Slot.{slot_from, entries_in}
use Rattle.base_lists.specs.Members.{In, first, keep}
use Rattle.base_lists.specs.Numbers.{numbers}
use Rattle.build_sequence.specs.Build.{spell, Build}
use Rattle.build_sequence.specs.Worded.{Worded}
use Rattle.build_sequence.specs.Verdict.{several, Tells}
use Rattle.base_lists.proofs.TestLaws.{both_and}
use Rattle.base_lists.proofs.ListLaws.{keep_in, rising_shorter}
use Rattle.span_theory.specs.Settling.{span_entries}
use Rattle.span_theory.specs.Run.{verdict_on}
use Rattle.span_theory.proofs.Builds.{builds_sound, complete_worded}
use Rattle.span_theory.proofs.Indices.{in_numbers}
use Rattle.span_layers.specs.Narrow.{is_over, Narrow, crowd}
use Rattle.span_layers.specs.Settling.{settles}
use Rattle.span_layers.specs.Completed.{paths, is_some}
use Rattle.span_layers.proofs.Paths.{builds_paths, paths_tell}
use Rattle.span_layers.proofs.Crowded.{crowd_map, crowded_none}
use Rattle.span_tables.specs.Prepared.{Prepared, list_at}
use Rattle.span_steps.specs.Steps.{span_at, at_first}
use Rattle.build_method.specs.declared.MethodAnswer.{MethodAnswer}
use Rattle.build_method.specs.declared.MethodAnswer.TheVariants.{Sole, Several, None}
use Rattle.span_steps.proofs.OrderLaws.{sooner_apart}
use Rattle.span_steps.proofs.LeftLaws.{left_all, numbers_row}
use Rattle.span_narrow.specs.Plan.{Plan, left_on, Planned}
use Rattle.span_narrow.specs.States.{Sides}
use Rattle.span_narrow.specs.Stepping.{Known, Completes}
use Rattle.span_narrow.specs.Sweeping.{Half}
use Rattle.span_narrow.specs.ReadOff.{Readable, WasRead}
use Rattle.span_narrow.specs.Settled.{SettlesLists, Crowding}
use Rattle.span_narrow.proofs.SideLaws.{sides_first, sides_all}
use Rattle.span_narrow.proofs.SweepLaws.{half_told, begun_kept}

-- ---- a crowded place

module _ {words ones twos starts slots : List ℕ} (prepared : Prepared words ones twos starts slots) where
  -- the list of a place is no longer than the number of spans that hold it
  list_crowd : (i : ℕ) → i < length words → length (list_at starts slots i) ≤ crowd i (entries_in words ones twos)
  list_crowd i h =
      rw (← numbers_row words ones twos 0 (length words)) (rw (crowd_map i (span_at words ones twos) (numbers 0 (length words)))
      (rising_shorter (λ j s. sooner_apart words twos j j s refl) (keep (λ j. is_over i (span_at words ones twos j)) (numbers 0 (length words)))
      (prepared.sorted i h) held))
    where
      held : (j : ℕ) → In j (list_at starts slots i) → In j (keep (λ k. is_over i (span_at words ones twos k)) (numbers 0 (length words)))
      held j g =
          let a = prepared.here i j h g in
          keep_in (λ k. is_over i (span_at words ones twos k)) (in_numbers 0 (length words) j (omega arith) (omega (arith, a.0)))
          (both_and (leb (get_or ones j 0) i) (leb i (get_or twos j 0)) (le→leb (get_or ones j 0) i a.1) (le→leb i (get_or twos j 0) a.2))

  pub crowded_settles : {l : ℕ} {r : Bool} (ws : List ℕ) → Narrow (entries_in words ones twos) → Crowding starts (length words) r → r ≡ true
      → SettlesLists l (entries_in words ones twos) (None 0) ws
  crowded_settles {l} ws narrow c e =
      let u = c.some_place e in
      record {
        means = settles (crowded_none l u.0 (entries_in words ones twos) narrow (omega (
          arith,
          u.2,
          list_crowd u.0 u.1,
          length-slice (get_or starts u.0 0) (get_or starts (suc u.0) 0) slots (prepared.ends u.0 u.1),
        )));
        worded = λ n. absurd n;
      }

-- ---- what is read off

isnt_some : {A : Type 0} (l : List A) → is_some l ≡ false → l ≡ []
isnt_some [] e = refl
isnt_some (x ∷ l) e = absurd (true≢false e)

module _ {plan : Plan} {marks table : List ℕ} (planned : Planned plan)
    (sides : Sides plan marks 0 0) (half : Half plan table 0 0) where
  abbrev es : List Slot
  es = entries_in plan.words plan.ones plan.twos

  -- the state in which every entry is left
  pub known_first : Known plan marks table 0
  known_first = record {
    planned = planned;
    inside = omega arith;
    room = half.room;
    sides = sides_first sides;
    told = λ h. half_told half h (sides_first sides) (begun_kept half planned (sides_all sides) sides.marks_all h);
  }

  whole_paths : paths plan.l (length plan.words) 0 none (left_on plan marks) ≡ paths plan.l (length es) 0 none es
  whole_paths =
      ap (λ x. paths plan.l (length plan.words) 0 none x)
      (left_all plan.words plan.ones plan.twos (sides_all sides) sides.marks_all)
      ∙ ap (λ n. paths plan.l n 0 none es) (sym (length_row (slot_from plan.words plan.ones plan.twos) 0 (length plan.words)))

  path_worded : {ws : List ℕ} → In ws (paths plan.l (length es) 0 none es) → Worded plan.l (span_entries es) ws
  path_worded h = complete_worded (builds_sound plan.l es (rw (builds_paths plan.l es (hold_some (hold_of_kind planned.card.hold refl))) h))

  tells : {ps : List (List ℕ)} → paths plan.l (length plan.words) 0 none (left_on plan marks) ≡ ps
      → Tells (Build plan.l (span_entries es)) (verdict_on plan.l ps)
  tells e = rw (sym whole_paths ∙ e) at (paths_tell (hold_of_kind planned.card.hold refl))

  -- whether there is a build
  completes_is : {want : ℕ} {r : Bool} → Completes plan marks record { i = 0; want = want } r
      → r ≡ is_some (paths plan.l (length plan.words) 0 none (left_on plan marks))
  completes_is c =
      let all : length plan.words - 0 ≡ length plan.words = omega arith in
      c.each none at_first ∙ ap (λ n. is_some (paths plan.l n 0 none (left_on plan marks))) all

  pub none_settles : {want : ℕ} {r : Bool} (ws : List ℕ) → Completes plan marks record { i = 0; want = want } r → r ≡ false
      → SettlesLists plan.l es (None 0) ws
  none_settles ws c e = record { means = settles (tells (isnt_some _ (sym (completes_is c) ∙ e))); worded = λ n. absurd n }

  pub some_readable : {want : ℕ} {r : Bool} {kept : List ℕ} → Completes plan marks record { i = 0; want = want } r → r ≡ true
      → length kept ≡ length plan.words
      → Readable plan marks table kept
  some_readable c e all = record { planned = planned; half = half; sides = sides; firsts_all = all; some = sym (completes_is c) ∙ e }

  module _ {kept : List ℕ} {r : Bool} (was : WasRead plan marks kept r) where
    worded : Worded plan.l (span_entries es) kept
    worded = path_worded (rw (sym whole_paths ∙ was.paths_are) first)

    pub sole_settles : r ≡ false → SettlesLists plan.l es (Sole 0) kept
    sole_settles e =
        let only : was.rest ≡ [] = isnt_some was.rest (was.more_is ∙ e) in
        record { means = settles (tells (was.paths_are ∙ ap (λ ps. kept ∷ ps) only)); worded = λ g. worded }

    pub several_settles : r ≡ true → SettlesLists plan.l es (Several 0) kept
    several_settles e = record { means = settles (go was.rest (was.more_is ∙ e) (tells was.paths_are)); worded = λ g. worded }
      where
        go : (ps : List (List ℕ)) → is_some ps ≡ true → Tells (Build plan.l (span_entries es)) (verdict_on plan.l (kept ∷ ps))
            → Tells (Build plan.l (span_entries es)) (several (spell plan.l kept))
        go [] h t = absurd (true≢false (sym h))
        go (x ∷ ps) h t = t

-- the words stand at the front of what was lent
settles_take : {l n : ℕ} {es : List Slot} {r : MethodAnswer} (ws rest : List ℕ) → length ws ≡ n → SettlesLists l es r ws
    → SettlesLists l es r (take n (ws ++ rest))
settles_take {n = n} ws rest e s = rw (take_at ws rest n e) s

-- by the first places that the lists of the places tell
pub settles_told : {l n : ℕ} {ones ones' : List ℕ} (words twos : List ℕ) {r : MethodAnswer} → ones' ≡ ones → (ws rest : List ℕ) → length ws ≡ n
    → SettlesLists l (entries_in words ones' twos) r ws
    → SettlesLists l (entries_in words ones twos) r (take n (ws ++ rest))
settles_told words twos e ws rest all s = settles_take ws rest all (rw e at s)
