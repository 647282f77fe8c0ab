-- What an answer means and what is promised of it are one: an answer that meets build's contract means what its case says, and one that
-- means what its case says meets the contract; and for every card, budget and output there is one. Assumes nothing.
use mathlib.Core.Path.{◌≡◌, refl, ap, subst}
use mathlib.Core.Logic.{⊎_elim}
use mathlib.Core.List.{List, ◌++◌, map}
use mathlib.Core.Bool.{Bool, true, false}
use Prim.Native.Nat.{ℕ, ◌≤◌}
use native.Mathlib.Omega.{arith}
use lib.ListN.{length, drop}
use lib.Dec.{leb}
use borrow.Author.Tests.{leb-true, leb-false}
use Rattle.base_answers.specs.Answer.{Answer, Sound, given, refused, first, sound}
use Rattle.base_letters.specs.Letters.{letter_of}
use Rattle.card_entries.specs.Entry.{entry_of}
use Rattle.card_entries.specs.Fault.{pair, span}
use Rattle.card_entries.specs.Bounds.{most_entries}
use Rattle.card_layout.specs.Layout.{told_by, slots_on, entries_on}
use Rattle.build_sequence.specs.Build.{Build}
use Rattle.build_sequence.specs.Verdict.{Verdict, sole, several, no_build, Tells, settled, unsettled, Outcome}
use Rattle.build_sequence.proofs.Enumerator.{sequences}
use Rattle.build_sequence.proofs.VerdictOf.{verdict_of, enumerated}
use Rattle.span_theory.specs.Walk.{placements}
use Rattle.span_theory.specs.Settling as spans
use Rattle.pair_theory.specs.Settling as pairs
use Rattle.build_card.specs.declared.BuildAnswer.{BuildAnswer}
use Rattle.build_card.specs.declared.BuildAnswer.TheVariants.{Sole, Several, None, Unsettled}
use Rattle.build_card.specs.Building.{build_tests, on_pairs, on_spans, Says, tells, refuses, answer_of, letters_after, Builds}
use Rattle.proved_demands.specs.Demanded.{Fits, Passes, PlacementsOf, Meant}
use Rattle.proved_demands.proofs.MeaningLaws.{means_tells, means_placements, means_unsettled, card_kind}

-- ---- what is said is meant

pub said_meant : {card : List ℕ} {budget : ℕ} (before : List ℕ) (a : Answer Outcome) → Says most_entries card budget (length before) a
    → Meant card budget before (answer_of a) (letters_after a before)
said_meant before (given (settled (sole s) n)) (tells e m) = (e, means_placements m, (s, means_tells m, (refl, refl)))
said_meant before (given (settled (several s) n)) (tells e m) = (e, means_placements m, (s, means_tells m, (refl, refl)))
said_meant before (given (settled no_build n)) (tells e m) = (e, means_placements m, (means_tells m, refl))
said_meant before (given (unsettled n)) (tells e m) = (e, (means_unsettled m, refl))
said_meant before (refused n p) (refuses e) = (e, refl)

-- ---- what is meant is said

-- a verdict over all builds, with the placements that settle the card
module _ (card : List ℕ) (room : ℕ) (passes : Passes card room) {budget k : ℕ} (placed : PlacementsOf card budget k) where
  verdict_said : (v : Verdict) → Tells (Fits card) v → Says most_entries card budget room (given (settled v k))
  verdict_said v told = ⊎_elim on_pair on_span (card_kind card room passes)
    where
      -- over the card's entries as a card of the kind x has them
      told_by_lem : {x : ℕ} → (told_by card).kind ≡ x → Tells (Build (told_by card).l (map (entry_of x) (slots_on card))) v
      told_by_lem e = subst (λ x. Tells (Build (told_by card).l (map (entry_of x) (slots_on card))) v) e told

      on_pair : (told_by card).kind ≡ pair → Says most_entries card budget room (given (settled v k))
      on_pair e = rw (placed.on_pairs e) (tells passes (on_pairs e (pairs.settles {v = v} (told_by_lem e))))

      on_span : (told_by card).kind ≡ span → Says most_entries card budget room (given (settled v k))
      on_span e = let p = placed.on_spans e in tells passes (on_spans e (spans.settles {v = v} p.0 p.1 (told_by_lem e)))

pub meant_builds : {card before after : List ℕ} {budget : ℕ} (r : Answer BuildAnswer) → Meant card budget before r after
    → Builds most_entries card budget before r after
meant_builds {card} {before} (given (Sole n k)) (passes, placed, (s, told, (size, out))) =
    record {
      said = given (settled (sole s) k);
      says = verdict_said card (length before) passes placed (sole s) told;
      answer = ap (λ x. given (Sole x k)) size;
      output = out;
    }
meant_builds {card} {before} (given (Several n k)) (passes, placed, (s, told, (size, out))) =
    record {
      said = given (settled (several s) k);
      says = verdict_said card (length before) passes placed (several s) told;
      answer = ap (λ x. given (Several x k)) size;
      output = out;
    }
meant_builds {card} {before} (given (None k)) (passes, placed, (told, out)) =
    record { said = given (settled no_build k); says = verdict_said card (length before) passes placed no_build told; answer = refl; output = out }
meant_builds (given (Unsettled k)) (passes, ((kind, at, over), out)) =
    record { said = given (unsettled k); says = tells passes (on_spans kind (spans.goes_on at over)); answer = refl; output = out }
meant_builds (refused n p) (e, out) =
    record { said = refused n p; says = refuses e; answer = refl; output = out }

-- ---- and there is always one

-- placements that settle the card: the walk's where they are within the budget, and on a pair card 0
pub placed_within : (card : List ℕ) (room : ℕ) {budget : ℕ} → Passes card room
    → ((told_by card).kind ≡ span → placements (told_by card).l (slots_on card) ≤ budget)
    → (k : ℕ) × PlacementsOf card budget k
placed_within card room passes within =
    ⊎_elim (λ e. (0, record { on_spans = λ f. absurd (omega (arith, e, f)); on_pairs = λ f. refl }))
    (λ e. (placements (told_by card).l (slots_on card), record { on_spans = λ f. (refl, within f); on_pairs = λ f. absurd (omega (arith, e, f)) }))
    (card_kind card room passes)

module _ (card : List ℕ) (budget : ℕ) (before : List ℕ) where
  abbrev pub SomeMeant : Type 0
  SomeMeant = (r : Answer BuildAnswer) × (after : List ℕ) × Meant card budget before r after

  -- of a card whose tests hold a verdict over all builds, which there is (`enumerated`)
  verdict_meant : (v : Verdict) (k : ℕ) → Passes card (length before) → PlacementsOf card budget k → Tells (Fits card) v → SomeMeant
  verdict_meant (sole s) k passes placed told =
      (given (Sole (length s) k), map letter_of s ++ drop (length s) before, (passes, placed, (s, told, (refl, refl))))
  verdict_meant (several s) k passes placed told =
      (given (Several (length s) k), map letter_of s ++ drop (length s) before, (passes, placed, (s, told, (refl, refl))))
  verdict_meant no_build k passes placed told = (given (None k), before, (passes, placed, (told, refl)))

  settled_meant : Passes card (length before) → ((told_by card).kind ≡ span → placements (told_by card).l (slots_on card) ≤ budget) → SomeMeant
  settled_meant passes within =
      let placed = placed_within card (length before) passes within in
      verdict_meant (verdict_of (sequences (told_by card).l (entries_on card))) placed.0 passes placed.1
      (enumerated (told_by card).l (entries_on card))

  -- on a span card the budget may be spent
  pub some_meant : SomeMeant
  some_meant = tried (first (build_tests most_entries card (length before)) sound) refl
    where
      on_span : (t : Bool) → leb (placements (told_by card).l (slots_on card)) budget ≡ t → (told_by card).kind ≡ span
          → Passes card (length before)
          → SomeMeant
      on_span true e kind passes = settled_meant passes (λ f. leb-true (placements (told_by card).l (slots_on card)) budget e)
      on_span false e kind passes =
          (given (Unsettled budget), before, (passes, ((kind, refl, leb-false (placements (told_by card).l (slots_on card)) budget e), refl)))

      tried : (a : Answer Sound) → first (build_tests most_entries card (length before)) sound ≡ a → SomeMeant
      tried (refused n p) e = (refused n p, before, (e, refl))
      tried (given sound) e =
          ⊎_elim (λ kind. settled_meant e (λ f. absurd (omega (arith, kind, f))))
          (λ kind. on_span (leb (placements (told_by card).l (slots_on card)) budget) refl kind e)
          (card_kind card (length before) e)
