-- The twelve small tables of 01, from the definitions through a single statement over the list, and what build answers on a card of any of
-- them. The verdicts are told by all arrangements and the placements by the walk, each in one computation (`build_sequence`, `span_theory`). Assumes
-- nothing.
use mathlib.Core.Path.{◌≡◌, refl, ap, ◌∙◌}
use mathlib.Core.Logic.{⊎_elim}
use mathlib.Core.List.{List, map}
use Prim.Native.Nat.{ℕ, ◌≤◌}
use lib.ListN.{length}
use Rattle.base_answers.specs.Answer.{Answer, given}
use Rattle.card_entries.specs.Fault.{pair, span}
use Rattle.card_entries.specs.Bounds.{most_entries}
use Rattle.base_lists.specs.Members.{In}
use Rattle.build_sequence.specs.Verdict.{Outcome, settled}
use Rattle.build_sequence.specs.Tables.{Table, stored_in, pair_tables, span_tables, tables, s1}
use Rattle.base_lists.proofs.ListLaws.{in_append}
use Rattle.build_sequence.proofs.Tables.{map_agree}
use Rattle.span_theory.proofs.Tables.{spans_settle, s1_unsettled}
use Rattle.pair_theory.proofs.Tables.{pairs_hold}
use Rattle.build_card.specs.declared.BuildAnswer.{BuildAnswer}
use Rattle.build_card.specs.declared.BuildAnswer.TheVariants.{Unsettled}
use Rattle.build_card.specs.Building.{Means, on_pairs, on_spans, tells, answer_of, letters_after, Builds}
use Rattle.build_card.proofs.Determined.{says_one}
use Rattle.proved_demands.specs.Demanded.{Passes}
use Rattle.proved_demands.specs.Tables.{kind_of, Holds, OnCard}

pairs_kind : map kind_of pair_tables ≡ map (λ t. pair) pair_tables
pairs_kind = refl

spans_kind : map kind_of span_tables ≡ map (λ t. span) span_tables
spans_kind = refl

pub tables_hold : Holds tables
tables_hold t h budget g =
    ⊎_elim (λ p. on_pairs (map_agree kind_of (λ u. pair) p pairs_kind) (pairs_hold t p).1)
    (λ s. on_spans (map_agree kind_of (λ u. span) s spans_kind) ((spans_settle t s).1 budget g))
    (in_append pair_tables h)

-- what build answers, and writes, on a card whose tests hold and that has an outcome
module _ {card before after : List ℕ} {budget : ℕ} {r : Answer BuildAnswer} (b : Builds most_entries card budget before r after)
    (hold : Passes card (length before))
    (t : Table) (on : OnCard t card) where
  outcome_answered : {o : Outcome} → Means (kind_of t) 2 (stored_in t) budget o
      → (r ≡ answer_of (given o)) × (after ≡ letters_after (given o) before)
  outcome_answered {o} m =
      let said = says_one b.says (tells {o = o} hold (rw (on.kind, on.letters, on.entries) m)) in
      (b.answer ∙ ap answer_of said, b.output ∙ ap (λ (a : Answer Outcome). letters_after a before) said)

  -- each line of a list of which build says what it says
  pub held_answered : {ts : List Table} → Holds ts → In t ts → t.placements ≤ budget
      → (r ≡ answer_of (given (settled t.verdict t.placements)))
      × (after ≡ letters_after (given (settled t.verdict t.placements)) before)
  held_answered holds h g = outcome_answered (holds t h budget g)

  -- each of the twelve
  pub table_answered : In t tables → t.placements ≤ budget
      → (r ≡ answer_of (given (settled t.verdict t.placements)))
      × (after ≡ letters_after (given (settled t.verdict t.placements)) before)
  table_answered h g = held_answered tables_hold h g

-- S1: "budget 7 gives Unsettled"
pub s1_at_seven : {card before after : List ℕ} {r : Answer BuildAnswer} → Builds most_entries card 7 before r after
    → Passes card (length before)
    → OnCard s1 card
    → (r ≡ given (Unsettled 7)) × (after ≡ before)
s1_at_seven b hold on = outcome_answered b hold s1 on (on_spans refl s1_unsettled)
