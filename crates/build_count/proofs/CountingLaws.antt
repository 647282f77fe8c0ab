-- Laws of the number of builds: what is answered by what the method finds, the refusals, and that one answer at most is right. Assumes
-- nothing.
use mathlib.Core.Path.{◌≡◌, refl, sym, ap, ◌∙◌}
use mathlib.Core.Logic.{◌⊎◌, inl, inr}
use mathlib.Core.Bool.{Bool, true, false}
use mathlib.Core.List.{List, [], ◌∷◌}
use Prim.Native.Nat.{ℕ}
use Rattle.std.specs.Prelude.{Option, Some, None}
use native.Mathlib.Omega.{arith}
use lib.Dec.{eqb}
use lib.Pow.{pow_pos}
use borrow.Author.Tests.{eqb-true, eq-eqb, ne_eqb}
use Rattle.base_answers.specs.Numbers.{Kind}
use Rattle.base_answers.specs.Answer.{Answer, given, refused, Sound, sound, Test, test, first}
use Rattle.base_answers.proofs.Laws.{first_holds, first_refused, first_both, first_passed, first_last, first_fail, given_not_refused, refusal_same}
use Rattle.base_answers.proofs.Only.{Numbered, none, also, only_append}
use Rattle.card_entries.specs.declared.Slot.{Slot}
use Rattle.card_entries.specs.Fault.{pair, span}
use Rattle.build_sequence.specs.Many.{Power, two_to, no_builds, how_many}
use Rattle.build_sequence.proofs.ManyLaws.{many_one, exponent_one}
use Rattle.pair_method.specs.PairMethod.{power_by}
use Rattle.build_count.specs.Counting.{number_of, count_tests, Counted, tells, refuses, Counts}
use Rattle.build_count.specs.ByKind.{ByKind, on_pairs, on_spans}

-- ---- the tests

module _ (ts : List Test) (kind : ℕ) where
  pub tests_refuse : {n p : ℕ} → first ts sound ≡ refused n p → first (count_tests kind ts) sound ≡ refused n p
  unfolding count_tests
  tests_refuse e = first_refused _ sound ts e

  pub tests_hold : first (count_tests kind ts) sound ≡ given sound → (first ts sound ≡ given sound) × (kind ≡ pair)
  unfolding count_tests
  tests_hold e =
      let b = first_both _ sound ts sound e in
      (b.0, eqb-true kind pair (first_passed (eqb kind pair) Kind 0 [] sound sound b.1).0)

  pub tests_numbered : Numbered ts → Numbered (count_tests kind ts)
  unfolding count_tests
  tests_numbered h = only_append h (also {n = Kind} (omega arith) none)

  module _ (e : first ts sound ≡ given sound) where
    pub hold_tests : kind ≡ pair → first (count_tests kind ts) sound ≡ given sound
    unfolding count_tests
    hold_tests k = first_holds _ sound ts e ∙ first_last (eqb kind pair) Kind 0 sound (eq-eqb kind pair k)

    pub span_refused : kind ≡ span → first (count_tests kind ts) sound ≡ refused Kind 0
    unfolding count_tests
    span_refused k = first_holds _ sound ts e ∙ first_fail (eqb kind pair) Kind 0 [] sound (ne_eqb kind pair (λ h. omega arith))

  -- what refuses is a test of the card or the lists, or where they hold 5
  pub refusals : {n p : ℕ} → first (count_tests kind ts) sound ≡ refused n p
      → (first ts sound ≡ refused n p) ⊎ ((first ts sound ≡ given sound) × (n ≡ Kind) × (p ≡ 0))
  unfolding count_tests
  refusals {n} {p} e = go (first ts sound) refl
    where
      kinds : (b : Bool) → first (test b Kind 0 ∷ []) sound ≡ refused n p → (n ≡ Kind) × (p ≡ 0)
      kinds true f = absurd (given_not_refused (sym (first_last true Kind 0 sound refl) ∙ f))
      kinds false f =
          let same = sym (first_fail false Kind 0 [] sound refl) ∙ f in
          let number : n ≡ Kind = cc in
          let place : p ≡ 0 = cc in
          (number, place)

      go : (a : Answer Sound) → first ts sound ≡ a → (first ts sound ≡ refused n p) ⊎ ((first ts sound ≡ given sound) × (n ≡ Kind) × (p ≡ 0))
      go (given sound) h = let k = kinds (eqb kind pair) (sym (first_holds _ sound ts h) ∙ e) in inr (h, k.0, k.1)
      go (refused k q) h = inl (h ∙ sym (first_refused _ sound ts h) ∙ e)

-- ---- the answer

module _ {ts : List Test} {kind l : ℕ} {es : List Slot} where
  pub refused_counts : {n p : ℕ} → first ts sound ≡ refused n p → Counts number_of (Counted ts kind l es) (refused n p)
  refused_counts {n} {p} e = record { said = refused n p; says = refuses (tests_refuse ts kind e); answer = refl }

  -- where the tests of the card or the lists hold, it goes by the kind
  pub kind_counts : {r : Answer (Option ℕ)} → first ts sound ≡ given sound → ByKind kind l es r → Counts number_of (Counted ts kind l es) r
  kind_counts e (on_pairs p k m a) = record { said = given p; says = tells (hold_tests ts kind e k) m; answer = a }
  kind_counts e (on_spans k a) = record { said = refused Kind 0; says = refuses (span_refused ts kind e k); answer = a }

-- what the method finds is the number
pub given_power : (choices : Option ℕ) → given choices ≡ number_of (given (power_by choices))
given_power (Some k) = refl
given_power None = refl

-- ---- one answer at most

power_one : (p q : Power) → how_many p ≡ how_many q → p ≡ q
power_one (two_to k) (two_to j) e = ap two_to (exponent_one k j e)
power_one (two_to k) no_builds e = absurd (omega (arith, e, pow_pos k))
power_one no_builds (two_to j) e = absurd (omega (arith, e, pow_pos j))
power_one no_builds no_builds e = refl

pub counted_one : {ts : List Test} {kind l : ℕ} {es : List Slot} {a b : Answer Power} → Counted ts kind l es a → Counted ts kind l es b
    → a ≡ b
counted_one (tells {p} e m) (tells {p = q} f n) = ap given (power_one p q (many_one m n))
counted_one (tells e m) (refuses f) = absurd (given_not_refused (sym e ∙ f))
counted_one (refuses e) (tells f n) = absurd (given_not_refused (sym f ∙ e))
counted_one (refuses e) (refuses f) = refusal_same (sym e ∙ f)

-- in any form
pub counts_one : {R : Type 0} {form : Answer Power → R} {ts : List Test} {kind l : ℕ} {es : List Slot} {r r' : R}
    → Counts form (Counted ts kind l es) r
    → Counts form (Counted ts kind l es) r'
    → r ≡ r'
counts_one {form = form} c d = c.answer ∙ ap form (counted_one c.says d.says) ∙ sym d.answer

-- ---- another form

-- by the answer
pub counts_as : {R : Type 0} (by : Answer (Option ℕ) → R) {Says : Answer Power → Type 0} {q : Answer (Option ℕ)} {r : R} → Counts number_of Says q → r ≡ by q
    → Counts (λ a. by (number_of a)) Says r
counts_as by c e = record { said = c.said; says = c.says; answer = e ∙ ap by c.answer }

-- ---- the answer on a span card

pub span_answered : {kind l : ℕ} {es : List Slot} → kind ≡ span → ByKind kind l es (refused Kind 0)
span_answered e = on_spans e refl
