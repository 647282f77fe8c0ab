-- Laws of the tests of settling: the widths one by one, the tests before them, and what lists that pass them all are. Assumes nothing.
use mathlib.Core.Path.{◌≡◌, refl, sym, ap, ◌∙◌}
use mathlib.Core.Logic.{◌⊎◌, inl, inr, ⊎_elim}
use mathlib.Core.Bool.{Bool, true, false}
use mathlib.Core.List.{List, [], ◌∷◌}
use Prim.Native.Nat.{ℕ, zero, suc, ◌+◌, ◌-◌, ◌≤◌, ◌<◌}
use native.Mathlib.Omega.{arith}
use lib.Dec.{eqb, leb, ltb}
use borrow.Author.Tests.{eqb-true, eq-eqb, ne_eqb, leb-true, leb-false, le-leb, lt-leb, lt-ltb, le-ltb}
use Rattle.base_answers.specs.Numbers.{Kind, Room, Wider}
use Rattle.base_answers.specs.Answer.{Answer, given, refused, Sound, sound, Test, test, first}
use Rattle.base_lists.specs.Row.{row, in_turn}
use Rattle.base_answers.proofs.Laws.{first_holds, first_refused, first_both, first_pass, first_passed, first_last, first_fail, turns_hold, turn_holds, turn_refused, turns_end}
use Rattle.base_lists.proofs.TestLaws.{failed, passed}
use Rattle.base_answers.proofs.Only.{Only, Numbered, none, also, only_append, only_refused}
use Rattle.base_lists.proofs.RowLaws.{row_none, row_first, turns_none, turns_first}
use Rattle.base_answers.proofs.TurnLaws.{first_cases, none_refuse, turns_fault, fault_turns}
use Rattle.card_entries.specs.declared.Slot.{Slot}
use Rattle.card_entries.specs.Slot.{entries_in}
use Rattle.card_entries.specs.Fault.{span}
use Rattle.card_entries.specs.Bounds.{most_entries}
use Rattle.card_layout.specs.Layout.{told_by}
use Rattle.card_reader.specs.Reading.{reading_order}
use Rattle.card_lists.specs.Lists.{lists_tests}
use Rattle.card_entries.specs.Hold.{format_for, ListsHold}
use Rattle.card_lists.proofs.Laws.{lists_numbered, lists_held}
use Rattle.base_lists.specs.Members as members
use Rattle.base_lists.proofs.ListLaws.{row_in}
use Rattle.span_layers.specs.Narrow.{widest_narrow, is_narrow, Narrow}
use Rattle.build_card.specs.Building.{letters_in, build_tests}
use Rattle.build_card.proofs.CardLaws.{no_room, has_room}
use Rattle.build_narrow.specs.Settling.{width_tests, lists_build_tests, settle_tests}
use Rattle.build_narrow.specs.Passing.{PassesTests}

-- ---- the widths

pub narrow_by : (s : Slot) → ltb s.two (s.one + widest_narrow) ≡ is_narrow s
narrow_by s = go (is_narrow s) refl
  where
    go : (t : Bool) → is_narrow s ≡ t → ltb s.two (s.one + widest_narrow) ≡ t
    go true e = lt-ltb s.two (s.one + widest_narrow) (omega (arith, leb-true (s.two - s.one + 1) widest_narrow e))
    go false e = le-ltb s.two (s.one + widest_narrow) (omega (arith, leb-false (s.two - s.one + 1) widest_narrow e))

-- the test of entry e
abbrev pub width_test : (ℕ → Slot) → ℕ → List Test
width_test f e = test (is_narrow (f e)) Wider e ∷ []

-- those of all are each in turn
pub widths_in_turn : (f : ℕ → Slot) (k n : ℕ) → width_tests k (row f k n) ≡ in_turn (width_test f) k n
unfolding width_tests
widths_in_turn f k zero = rw (row_none f k, turns_none (width_test f) k) refl
widths_in_turn f k (suc n) =
    rw (row_first f k n, turns_first (width_test f) k n)
    (ap (λ (ts : List Test). test (is_narrow (f k)) Wider k ∷ ts) (widths_in_turn f (suc k) n))

-- where they hold each span is narrow
pub widths_narrow : (k : ℕ) (es : List Slot) → first (width_tests k es) sound ≡ given sound → Narrow es
unfolding width_tests
widths_narrow k es e = record { each = λ s i. go k es e i }
  where
    go : (k : ℕ) (es : List Slot) → first (width_tests k es) sound ≡ given sound → {s : Slot} → members.In s es → is_narrow s ≡ true
    go k (s ∷ es) e members.first = (first_passed (is_narrow s) Wider k (width_tests (suc k) es) sound sound e).0
    go k (s ∷ es) e (members.later i) = go (suc k) es (first_passed (is_narrow s) Wider k (width_tests (suc k) es) sound sound e).1 i
    go k [] e {s = s} h = elim h [ ]

-- and where each span is narrow they hold
pub narrow_widths : (f : ℕ → Slot) (n : ℕ) → Narrow (row f 0 n) → first (width_tests 0 (row f 0 n)) sound ≡ given sound
narrow_widths f n narrow =
    rw (widths_in_turn f 0 n)
    (turns_hold (width_test f) n 0 (λ i h.
    first_last (is_narrow (f (0 + i))) Wider (0 + i) sound (narrow.each (f (0 + i)) (row_in f 0 n (0 + i) (omega arith) (omega arith)))))

-- they refuse by 30
widths_only : {P : ℕ → Type 0} → P Wider → (k : ℕ) (es : List Slot) → Only P (width_tests k es)
unfolding width_tests
widths_only wider k [] = none
widths_only wider k (s ∷ es) = also wider (widths_only wider (suc k) es)

-- at the first of the entries f 0, f 1, … that is not narrow
module _ (f : ℕ → Slot) (n : ℕ) where
  pub wide_refused : {e : ℕ} → e < n → is_narrow (f e) ≡ false → ((i : ℕ) → i < e → is_narrow (f i) ≡ true)
      → first (width_tests 0 (row f 0 n)) sound ≡ refused Wider e
  wide_refused {e} there wide earlier =
      let here : (i : ℕ) → 0 + i ≡ i = λ i. omega arith in
      rw (widths_in_turn f 0 n)
      (fault_turns (record {
        at = e;
        within = there;
        before = λ i h. first_last (is_narrow (f (0 + i))) Wider (0 + i) sound (rw (here i) (earlier i h));
        fails = rw (here e) (first_fail (is_narrow (f e)) Wider e [] sound wide);
      }))

  pub refused_wide : {q e : ℕ} → first (width_tests 0 (row f 0 n)) sound ≡ refused q e
      → (e < n) × (is_narrow (f e) ≡ false) × ((i : ℕ) → i < e → is_narrow (f i) ≡ true)
  refused_wide {q} {e} h =
      let fault = turns_fault (width_test f) 0 n (rw (widths_in_turn f 0 n) at h) in
      let here : (i : ℕ) → 0 + i ≡ i = λ i. omega arith in
      let earlier : (i : ℕ) → i < fault.at → is_narrow (f i) ≡ true =
      λ i g. (first_passed (is_narrow (f i)) Wider i [] sound sound (rw (here i) at (fault.before i g))).0 in
      ⊎_elim (λ w. let same : fault.at ≡ e = omega (arith, w.2) in rw (← same) (fault.within, rw (here fault.at) at w.0, earlier))
      (λ w. absurd (none_refuse w.1))
      (first_cases _ _ _ [] sound fault.fails)

-- ---- the kind, and then the widths

abbrev pub span_tests : ℕ → List Slot → List Test
span_tests kind es = test (eqb kind span) Kind 0 ∷ width_tests 0 es

module _ (kind : ℕ) (es : List Slot) where
  pub span_go_on : kind ≡ span → first (width_tests 0 es) sound ≡ first (span_tests kind es) sound
  span_go_on e = sym (first_pass (eqb kind span) Kind 0 (width_tests 0 es) sound (eq-eqb kind span e))

  pub span_wrong : (kind ≡ span → ⊥) → refused Kind 0 ≡ first (span_tests kind es) sound
  span_wrong n = sym (first_fail (eqb kind span) Kind 0 (width_tests 0 es) sound (ne_eqb kind span n))

  pub span_hold : first (span_tests kind es) sound ≡ given sound → (kind ≡ span) × Narrow es
  span_hold e =
      let b = first_passed (eqb kind span) Kind 0 (width_tests 0 es) sound sound e in
      (eqb-true kind span b.0, widths_narrow 0 es b.1)

  -- 30 is a width's
  pub span_refused_wide : {e : ℕ} → first (span_tests kind es) sound ≡ refused Wider e
      → (kind ≡ span) × (first (width_tests 0 es) sound ≡ refused Wider e)
  span_refused_wide h =
      ⊎_elim (λ w. absurd (omega (arith, w.1))) (λ w. (eqb-true kind span w.0, w.1)) (first_cases _ _ _ (width_tests 0 es) sound h)

  -- they refuse by 5 or by 30
  span_refusals : {n p : ℕ} → first (span_tests kind es) sound ≡ refused n p → (n ≡ Kind) ⊎ (n ≡ Wider)
  span_refusals e = only_refused {P = λ n. (n ≡ Kind) ⊎ (n ≡ Wider)} (also (inl refl) (widths_only (inr refl) 0 es)) sound e

-- ---- tests of building, and then these

module _ (kind : ℕ) (es : List Slot) (ts : List Test) where
  pub tests_refuse : {n p : ℕ} → first ts sound ≡ refused n p → first (settle_tests kind es ts) sound ≡ refused n p
  unfolding settle_tests
  tests_refuse e = first_refused _ sound ts e

  pub tests_go_on : first ts sound ≡ given sound → first (settle_tests kind es ts) sound ≡ first (span_tests kind es) sound
  unfolding settle_tests
  tests_go_on e = first_holds _ sound ts e

  pub tests_hold : first (settle_tests kind es ts) sound ≡ given sound
      → (first ts sound ≡ given sound) × (first (span_tests kind es) sound ≡ given sound)
  unfolding settle_tests
  tests_hold e = first_both _ sound ts sound e

  pub tests_numbered : Numbered ts → Numbered (settle_tests kind es ts)
  unfolding settle_tests
  tests_numbered h = only_append h (also {n = Kind} (omega arith) (widths_only (omega arith) 0 es))

  -- tests of building that answer the same
  pub tests_same : (ts' : List Test) → first ts sound ≡ first ts' sound
      → first (settle_tests kind es ts) sound ≡ first (settle_tests kind es ts') sound
  unfolding settle_tests
  tests_same ts' e = go (first ts' sound) refl
    where
      go : (a : Answer Sound) → first ts' sound ≡ a → first (settle_tests kind es ts) sound ≡ first (settle_tests kind es ts') sound
      go (given sound) f = first_holds _ sound ts (e ∙ f) ∙ sym (first_holds _ sound ts' f)
      go (refused n p) f = first_refused _ sound ts (e ∙ f) ∙ sym (first_refused _ sound ts' f)

  -- what refuses is a test of building, or where they hold 5 or 30
  pub refusals : {n p : ℕ} → first (settle_tests kind es ts) sound ≡ refused n p
      → (first ts sound ≡ refused n p) ⊎ ((first ts sound ≡ given sound) × ((n ≡ Kind) ⊎ (n ≡ Wider)))
  refusals {n} {p} e = go (first ts sound) refl
    where
      go : (a : Answer Sound) → first ts sound ≡ a
          → (first ts sound ≡ refused n p) ⊎ ((first ts sound ≡ given sound) × ((n ≡ Kind) ⊎ (n ≡ Wider)))
      go (given sound) h = inr (h, span_refusals kind es (sym (tests_go_on h) ∙ e))
      go (refused k q) h = inl (h ∙ sym (tests_refuse h) ∙ e)

-- ---- building from lists

module _ (limit kind l : ℕ) (words ones twos : List ℕ) (room : ℕ) where
  pub lists_refuse : {n p : ℕ} → first (lists_tests limit kind l words ones twos) sound ≡ refused n p
      → first (lists_build_tests limit kind l words ones twos room) sound ≡ refused n p
  unfolding lists_build_tests
  lists_refuse e = first_refused _ sound (lists_tests limit kind l words ones twos) e

  lists_build : first (lists_build_tests limit kind l words ones twos room) sound ≡ given sound
      → (first (lists_tests limit kind l words ones twos) sound ≡ given sound) × (letters_in (format_for kind l words) ≤ room)
  unfolding lists_build_tests
  lists_build e =
      let b = first_both _ sound (lists_tests limit kind l words ones twos) sound e in
      (b.0, leb-true _ room (first_passed (leb _ room) Room 0 [] sound sound b.1).0)

  pub lists_build_numbered : Numbered (lists_build_tests limit kind l words ones twos room)
  unfolding lists_build_tests
  lists_build_numbered = only_append (lists_numbered limit kind l words ones twos) (also {n = Room} (omega arith) none)

  module _ (e : first (lists_tests limit kind l words ones twos) sound ≡ given sound) where
    pub lists_no_room : room < letters_in (format_for kind l words)
        → first (lists_build_tests limit kind l words ones twos room) sound ≡ refused Room 0
    unfolding lists_build_tests
    lists_no_room h =
        first_holds _ sound (lists_tests limit kind l words ones twos) e ∙ first_fail (leb _ room) Room 0 [] sound (lt-leb _ room h)

    pub lists_has_room : letters_in (format_for kind l words) ≤ room
        → first (lists_build_tests limit kind l words ones twos room) sound ≡ given sound
    unfolding lists_build_tests
    lists_has_room h =
        first_holds _ sound (lists_tests limit kind l words ones twos) e ∙ first_last (leb _ room) Room 0 sound (le-leb _ room h)

  -- a card of the same format that the reader admits answers the same
  pub build_as_card : (card : List ℕ) → first (lists_tests limit kind l words ones twos) sound ≡ given sound
      → first (reading_order limit card) sound ≡ given sound
      → told_by card ≡ format_for kind l words
      → first (lists_build_tests limit kind l words ones twos room) sound ≡ first (build_tests limit card room) sound
  build_as_card card hold order told = go (leb (letters_in (format_for kind l words)) room) refl
    where
      go : (b : Bool) → leb (letters_in (format_for kind l words)) room ≡ b
          → first (lists_build_tests limit kind l words ones twos room) sound ≡ first (build_tests limit card room) sound
      go true e = let fits = leb-true _ room e in lists_has_room hold fits ∙ sym (has_room limit card room order (rw told fits))
      go false e = let short = leb-false _ room e in lists_no_room hold short ∙ sym (no_room limit card room order (rw told short))

-- ---- lists that pass every test

module _ {kind l : ℕ} {words ones twos : List ℕ} {room : ℕ} (p : PassesTests kind l words ones twos room) where
  building : first (lists_build_tests most_entries kind l words ones twos room) sound ≡ given sound
  building = (tests_hold kind (entries_in words ones twos) (lists_build_tests most_entries kind l words ones twos room) p.hold).0

  narrowing : (kind ≡ span) × Narrow (entries_in words ones twos)
  narrowing =
      span_hold kind (entries_in words ones twos)
      (tests_hold kind (entries_in words ones twos) (lists_build_tests most_entries kind l words ones twos room) p.hold).1

  pub passes_hold : ListsHold most_entries (format_for kind l words) words ones twos
  passes_hold = lists_held (lists_build most_entries kind l words ones twos room building).0

  pub passes_room : letters_in (format_for kind l words) ≤ room
  passes_room = (lists_build most_entries kind l words ones twos room building).1

  pub passes_span : kind ≡ span
  passes_span = narrowing.0

  pub passes_narrow : Narrow (entries_in words ones twos)
  passes_narrow = narrowing.1

-- ---- what the check applies by itself

-- to the kind, and to the widths
pub ruleset spans = (span_go_on, span_wrong)

pub ruleset widths = (first_last, first_fail, turn_holds, turn_refused, turns_end, failed, passed, widths_in_turn)
