-- Laws of settling: the refusals, what is spelled, and that one answer at most is right, with one output. Assumes nothing.
use mathlib.Core.Path.{◌≡◌, refl, sym, ap, ◌∙◌}
use mathlib.Core.List.{List, ◌++◌}
use Prim.Native.Nat.{ℕ, ◌≤◌}
use native.Mathlib.Omega.{arith}
use lib.ListN.{length, take, drop}
use Rattle.base_answers.specs.Answer.{Answer, given, refused, Test, first, sound}
use Rattle.base_answers.proofs.Laws.{given_not_refused, refusal_same, told_holds, told_refused}
use Rattle.card_entries.specs.declared.Slot.{Slot}
use Rattle.card_entries.specs.Slot.{entries_in}
use Rattle.card_entries.specs.Fault.{span}
use Rattle.card_entries.specs.Bounds.{most_entries}
use Rattle.card_entries.specs.Hold.{format_for, ListsHold}
use Rattle.card_lists.proofs.Laws.{held_lists, lists_held}
use Rattle.card_entries.proofs.HoldLaws.{some_letter, few_letters, few_entries}
use Rattle.build_sequence.specs.Verdict.{Outcome}
use Rattle.span_layers.specs.Settling.{MeansNarrow}
use Rattle.span_layers.proofs.Meant.{means_one}
use Rattle.build_card.specs.declared.BuildAnswer.{BuildAnswer}
use Rattle.build_card.specs.Building.{letters_in, answer_of, letters_after}
use Rattle.build_card.specs.From.{Lettered}
use Rattle.build_card.proofs.FromLaws.{start_whole}
use Rattle.build_narrow.specs.Settling.{lists_build_tests, settle_tests, Settled, tells, refuses, OfLists, SettlesInto}
use Rattle.build_narrow.specs.Passing.{PassesTests}
use Rattle.build_narrow.proofs.TestLaws.{span_tests, tests_refuse, tests_go_on, tests_same, lists_refuse, lists_no_room, lists_has_room, passes_span}

module _ {ts : List Test} {kind l : ℕ} {es : List Slot} {before : List ℕ} where
  pub refused_settles : {n p : ℕ} → first (settle_tests kind es ts) sound ≡ refused n p
      → SettlesInto answer_of (Settled ts kind l es) before (refused n p) before
  refused_settles {n} {p} e = record { said = refused n p; says = refuses e; answer = refl; output = refl }

  -- refused by the tests of building
  pub building_refused : {n p : ℕ} → first ts sound ≡ refused n p
      → SettlesInto answer_of (Settled ts kind l es) before (refused n p) before
  building_refused e = refused_settles (tests_refuse kind es ts e)

  -- and where they hold, by the kind or a width
  pub spans_refused : {n p : ℕ} → first ts sound ≡ given sound → first (span_tests kind es) sound ≡ refused n p
      → SettlesInto answer_of (Settled ts kind l es) before (refused n p) before
  spans_refused e f = refused_settles (tests_go_on kind es ts e ∙ f)

  -- what is spelled into the start of the output
  pub start_settles : {n : ℕ} {o : Outcome} {r : Answer BuildAnswer} {start : List ℕ} → first (settle_tests kind es ts) sound ≡ given sound
      → n ≤ length before
      → MeansNarrow l es o
      → Lettered (length (take n before)) o
      → r ≡ answer_of (given o)
      → start ≡ letters_after (given o) (take n before)
      → SettlesInto answer_of (Settled ts kind l es) before r (start ++ drop n before)
  start_settles {n} {o} e room means lettered answer out = record {
    said = given o;
    says = tells e means;
    answer = answer;
    output = ap (λ (bytes : List ℕ). bytes ++ drop n before) out ∙ start_whole n before room o lettered;
  }

-- ---- lists that hold

module _ {kind l : ℕ} {words ones twos : List ℕ} (s : ListsHold most_entries (format_for kind l words) words ones twos) where
  pub lists_long : (length words ≤ length ones) × (length words ≤ length twos)
  lists_long = (omega (arith, s.as_ones), omega (arith, s.as_twos))

  pub spans_pass : {room : ℕ} → letters_in (format_for kind l words) ≤ room
      → first (span_tests kind (entries_in words ones twos)) sound ≡ given sound
      → PassesTests kind l words ones twos room
  spans_pass {room} h e = record {
    hold =
        tests_go_on kind (entries_in words ones twos) (lists_build_tests most_entries kind l words ones twos room)
        (lists_has_room most_entries kind l words ones twos room (held_lists s) h)
        ∙ e;
  }

module _ {kind l : ℕ} {words ones twos : List ℕ} {room : ℕ} (p : PassesTests kind l words ones twos room) where
  -- they are those of a span card
  pub passes_as_span : PassesTests span l words ones twos room
  passes_as_span = rw (passes_span p) at p

  pub span_settles : {before after : List ℕ} {r : Answer BuildAnswer}
      → SettlesInto answer_of (OfLists most_entries span l words ones twos room) before r after
      → SettlesInto answer_of (OfLists most_entries kind l words ones twos room) before r after
  span_settles c = rw (passes_span p) c

-- ---- other tests

-- tests of building that answer the same
pub other_tests : {ts ts' : List Test} {kind l : ℕ} {es : List Slot} {a : Answer Outcome} → first ts sound ≡ first ts' sound
    → Settled ts kind l es a
    → Settled ts' kind l es a
other_tests {ts} {ts'} {kind} {es = es} e (tells h m) = tells (sym (tests_same kind es ts ts' e) ∙ h) m
other_tests {ts} {ts'} {kind} {es = es} e (refuses h) = refuses (sym (tests_same kind es ts ts' e) ∙ h)

-- ---- one answer at most

pub settled_one : {ts : List Test} {kind l : ℕ} {es : List Slot} {a b : Answer Outcome} → Settled ts kind l es a → Settled ts kind l es b
    → a ≡ b
settled_one (tells e m) (tells f n) = ap given (means_one m n)
settled_one (tells e m) (refuses f) = absurd (given_not_refused (sym e ∙ f))
settled_one (refuses e) (tells f n) = absurd (given_not_refused (sym f ∙ e))
settled_one (refuses e) (refuses f) = refusal_same (sym e ∙ f)

-- in any form, and with one output
pub settles_one : {R : Type 0} {form : Answer Outcome → R} {ts : List Test} {kind l : ℕ} {es : List Slot}
    {before after after' : List ℕ} {r r' : R}
    → SettlesInto form (Settled ts kind l es) before r after
    → SettlesInto form (Settled ts kind l es) before r' after'
    → (r ≡ r') × (after ≡ after')
settles_one {form = form} {before = before} c d =
    let same = settled_one c.says d.says in (
      c.answer ∙ ap form same ∙ sym d.answer,
      c.output ∙ ap (λ (a : Answer Outcome). letters_after a before) same ∙ sym d.output,
    )

-- ---- another form

-- one that goes by the answer
pub settles_as : {R : Type 0} {form : Answer Outcome → R} (by : Answer BuildAnswer → R) → ((a : Answer Outcome) → by (answer_of a) ≡ form a)
    → {Says : Answer Outcome → Type 0} {before after : List ℕ} {q : Answer BuildAnswer} {r : R} → SettlesInto answer_of Says before q after
    → r ≡ by q
    → SettlesInto form Says before r after
settles_as by same c e = record {
  said = c.said;
  says = c.says;
  answer = e ∙ ap by c.answer ∙ same c.said;
  output = c.output;
}

-- ---- what the check applies by itself, to the tests of lists

pub ruleset tellings = (told_holds, told_refused, lists_held, held_lists, lists_refuse, lists_no_room, lists_has_room, building_refused, spans_refused, lists_long, spans_pass, passes_as_span, span_settles, some_letter, few_letters, few_entries)
