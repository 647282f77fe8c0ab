-- "Narrow spans always settled" (request 11), of `build_narrow::settle_card`, whose contract is `SettlesCard card before r after`. That the outcome
-- is unique, and the same from the lists that a card is admitted into, stands in crates/build_narrow/proofs/Determined.antt. Assumes nothing.
use mathlib.Core.Path.{◌≡◌, sym, ap, ◌∙◌}
use mathlib.Core.Logic.{◌⊎◌}
use mathlib.Core.List.{List}
use Prim.Native.Nat.{ℕ, ◌≤◌, ◌<◌}
use lib.ListN.{length}
use Rattle.base_answers.specs.Numbers.{Kind, Room, Wider}
use Rattle.base_answers.specs.Answer.{Answer, given, refused, first, sound}
use Rattle.card_entries.specs.Slot.{slot_from, entries_in}
use Rattle.card_entries.specs.Fault.{pair, span}
use Rattle.card_entries.specs.Bounds.{most_entries}
use Rattle.card_layout.specs.Layout.{told_by, slots_on}
use Rattle.card_layout.specs.Card.{card_of}
use Rattle.card_reader.specs.Reading.{reading_order}
use Rattle.card_lists.specs.Lists.{lists_tests}
use Rattle.card_entries.specs.Hold.{format_for}
use Rattle.base_lists.specs.Members.{In}
use Rattle.build_sequence.specs.Verdict.{Before, Verdict, no_build, Tells, Outcome, settled}
use Rattle.build_sequence.specs.Tables.{Table, stored_in, span_tables}
use Rattle.build_sequence.proofs.VerdictLaws.{tells_one}
use Rattle.build_sequence.proofs.Tables.{map_agree, spans_told}
use Rattle.span_theory.proofs.Tables.{spans_settle}
use Rattle.span_layers.specs.Narrow.{Narrow, crowd, most_over}
use Rattle.span_layers.specs.Settling.{MeansNarrow, settles}
use Rattle.span_layers.proofs.Crowded.{crowded_none}
use Rattle.build_card.specs.declared.BuildAnswer.{BuildAnswer}
use Rattle.build_card.specs.declared.BuildAnswer.TheVariants.{Sole, Several, None, Unsettled}
use Rattle.build_card.specs.Building.{letters_in, build_tests, answer_of, letters_after, Builds}
use Rattle.build_narrow.specs.Settling.{width_tests, lists_build_tests, settle_tests, tells}
use Rattle.build_narrow.specs.Settling as narrow
use Rattle.build_narrow.proofs.TestLaws.{widths_narrow}
use Rattle.build_narrow.proofs.SettlingLaws.{settles_one}
use Rattle.build_narrow.proofs.NoBudget.{settles_unbudgeted}
use Rattle.proved_demands.specs.Demanded.{Fits, Letters}
use Rattle.proved_demands.specs.Tables.{kind_of, OnCard}
use Rattle.proved_demands.specs.Demanded as demands
use Rattle.proved_demands.proofs.MeaningLaws.{said_sole, said_several, said_none, said_refused, settles_given, verdict_settles, means_tells, says_means}
use Rattle.proved_requests.specs.Neighbours.{SameSaid}
use Rattle.proved_requests.specs.Settled.{SettlesCard, OnNarrowCard, FirstWide}
use Rattle.proved_requests.proofs.Examples.{all_narrow, all_spans}
use Rattle.proved_requests.proofs.SettledLaws.{as_spans, narrow_hold, said_narrow, said_tells, tells_said, said_refusal, narrow_given, settled_by}
use Rattle.proved_requests.proofs.SettledLaws.{refused_by, reader_refused, no_room_refused, pair_refused, first_wide_refused, refused_first_wide, made_settles, on_table}

-- ---- what each answer means: "It answers Sole, Several or None with no budget, each meaning what demand 2 says of it whether or not build
-- would settle, and its placements are 0."

module _ (card : List ℕ) {before after : List ℕ} where
  -- "Sole means exactly one sequence fits"
  pub settled_sole_means : {n k : ℕ} → SettlesCard card before (given (Sole n k)) after
      → (OnNarrowCard card (length before) × (k ≡ 0))
      × ((s : List ℕ) × (Fits card s × ((t : List ℕ) → Fits card t → t ≡ s)) × ((n ≡ length s) × Letters s before after))
  settled_sole_means p =
      let a = said_sole p.said p.answer in
      let says = rw a.1 at p.says in
      let told = said_tells card (length before) says in
      ((said_narrow card (length before) says, told.0), (a.0, told.1, (a.2, rw a.1 at p.output)))

  -- "several means two or more and gives the alphabetically first"
  pub settled_several_means : {n k : ℕ} → SettlesCard card before (given (Several n k)) after
      → (OnNarrowCard card (length before) × (k ≡ 0))
      × ((s : List ℕ)
      × (Fits card s × ((t : List ℕ) × Fits card t × (t ≡ s → ⊥)) × ((t : List ℕ) → Fits card t → (t ≡ s) ⊎ Before s t))
      × ((n ≡ length s) × Letters s before after))
  settled_several_means p =
      let a = said_several p.said p.answer in
      let says = rw a.1 at p.says in
      let told = said_tells card (length before) says in
      ((said_narrow card (length before) says, told.0), (a.0, told.1, (a.2, rw a.1 at p.output)))

  -- "none means none"
  pub settled_none_means : {k : ℕ} → SettlesCard card before (given (None k)) after
      → (OnNarrowCard card (length before) × (k ≡ 0)) × (((t : List ℕ) → Fits card t → ⊥) × (after ≡ before))
  settled_none_means p =
      let a = said_none p.said p.answer in
      let says = rw a at p.says in
      let told = said_tells card (length before) says in
      ((said_narrow card (length before) says, told.0), (told.1, rw a at p.output))

  -- never Unsettled
  pub settled_never_unsettled : {k : ℕ} → SettlesCard card before (given (Unsettled k)) after → ⊥
  settled_never_unsettled p = settles_unbudgeted p

  -- a refusal is that of the first test that fails, and no byte of the output differs after it
  pub settle_refused_untouched : {n q : ℕ} → SettlesCard card before (refused n q) after
      → (first (settle_tests (told_by card).kind (slots_on card) (build_tests most_entries card (length before))) sound
      ≡ refused n q)
      × (after ≡ before)
  settle_refused_untouched p =
      let a = said_refused p.said p.answer in (said_refusal (rw a at p.says), rw a at p.output)

-- the same from lists
pub settle_lists_refused_untouched : (kind l : ℕ) (words ones twos : List ℕ) {before after : List ℕ} {n q : ℕ}
    → narrow.SettlesInto answer_of (narrow.OfLists most_entries kind l words ones twos (length before)) before (refused n q) after
    → (first (settle_tests kind (entries_in words ones twos) (lists_build_tests most_entries kind l words ones twos (length before))) sound
    ≡ refused n q)
    × (after ≡ before)
settle_lists_refused_untouched kind l words ones twos p =
    let a = said_refused p.said p.answer in (said_refusal (rw a at p.says), rw a at p.output)

-- ---- when it is given

module _ (card : List ℕ) {before after : List ℕ} {r : Answer BuildAnswer} (p : SettlesCard card before r after) where
  module _ (on : OnNarrowCard card (length before)) where
    -- "Narrow spans always settled."
    pub settled_always : demands.Settles r
    settled_always =
        let a = narrow_given card (length before) on p.says in
        rw (p.answer, a.1) (verdict_settles a.0 0)

    -- where exactly one sequence fits, Sole with it; where two or more fit, Several with the alphabetically first; where none fits, None
    pub settled_when : (v : Verdict) → Tells (Fits card) v
        → (r ≡ answer_of (given (settled v 0))) × (after ≡ letters_after (given (settled v 0)) before)
    settled_when v t = settled_by card p (tells_said card (length before) v on t)

    -- "A place with 8 or more spans over it means None."
    pub crowded_is_none : (i : ℕ) → most_over < crowd i (slots_on card) → (r ≡ given (None 0)) × (after ≡ before)
    crowded_is_none i h =
        settled_when no_build (as_spans card no_build on.kind (crowded_none (told_by card).l i (slots_on card) on.narrow h))

    -- "Wherever build settles, the two agree in verdict and sequence.": at any budget, into any output
    pub settle_agrees : {before' after' : List ℕ} {b : ℕ} {r' : Answer BuildAnswer} → Builds most_entries card b before' r' after' → demands.Settles r'
        → SameSaid before r after before' r' after'
    settle_agrees {before'} q settles' =
        let o = narrow_given card (length before) on p.says in
        let o' = settles_given q.said (rw q.answer at settles') in
        let told = said_tells card (length before) (rw o.1 at p.says) in
        let told' = means_tells (says_means (rw o'.2 at q.says)) in
        let same : o.0 ≡ o'.0 = tells_one (Fits card) o.0 o'.0 told.1 told' in
        let said' = o'.2 ∙ ap (λ (v : Verdict). given (settled v o'.1)) (sym same) in
        record {
          verdict = o.0;
          placements = o'.1;
          answer = p.answer ∙ ap answer_of o.1;
          output = p.output ∙ ap (λ (a : Answer Outcome). letters_after a before) o.1;
          answer' = q.answer ∙ ap answer_of said';
          output' = q.output ∙ ap (λ (a : Answer Outcome). letters_after a before') said';
        }

  -- ---- the refusals, in their order

  -- the reader's
  pub settle_reader_first : {n q : ℕ} → first (reading_order most_entries card) sound ≡ refused n q
      → (r ≡ refused n q) × (after ≡ before)
  settle_reader_first e = refused_by card p (reader_refused card (length before) e)

  module _ (admitted : first (reading_order most_entries card) sound ≡ given sound) where
    -- 12 next, whichever the kind and the widths
    pub settle_room_next : length before < letters_in (told_by card)
        → (r ≡ refused Room 0) × (after ≡ before)
    settle_room_next h = refused_by card p (no_room_refused card (length before) admitted h)

    module _ (room_for : letters_in (told_by card) ≤ length before) where
      -- "5 if a pair card"
      pub settle_kind_next : (told_by card).kind ≡ pair → (r ≡ refused Kind 0) × (after ≡ before)
      settle_kind_next kind = refused_by card p (pair_refused card (length before) admitted room_for kind)

      -- "30 Wider with the first entry over 4"
      pub settle_wider : (told_by card).kind ≡ span → (e : ℕ) → FirstWide card e
          → (r ≡ refused Wider e) × (after ≡ before)
      settle_wider kind e w = refused_by card p (first_wide_refused card (length before) admitted room_for e kind w)

-- 30 comes only there
pub wider_means : (card : List ℕ) {before after : List ℕ} {e : ℕ}
    → SettlesCard card before (refused Wider e) after
    → ((first (reading_order most_entries card) sound ≡ given sound) × (letters_in (told_by card) ≤ length before))
    × (((told_by card).kind ≡ span) × FirstWide card e)
wider_means card {before} {e = e} p =
    refused_first_wide card (length before) e (settle_refused_untouched card p).0

-- ---- lists that hold have the answer of the card that the writer makes of them

pub settle_lists_as_card : (kind l : ℕ) (words ones twos : List ℕ) {before after after' : List ℕ} {r r' : Answer BuildAnswer}
    → first (lists_tests most_entries kind l words ones twos) sound ≡ given sound
    → narrow.SettlesInto answer_of (narrow.OfLists most_entries kind l words ones twos (length before)) before r after
    → SettlesCard (card_of (format_for kind l words) (slot_from words ones twos)) before r' after'
    → (r ≡ r') × (after ≡ after')
settle_lists_as_card kind l words ones twos {before} hold p q = settles_one (made_settles kind l words ones twos before hold p) q

-- ---- S1 to S5

-- each is narrow, and its verdict is what settling means
pub span_tables_settled : (t : Table) → In t span_tables → Narrow (stored_in t) × MeansNarrow 2 (stored_in t) (settled t.verdict 0)
span_tables_settled t h = (
  widths_narrow 0 (stored_in t) (map_agree (λ u. first (width_tests 0 (stored_in u)) sound) (λ u. given sound) h all_narrow),
  settles {v = t.verdict} (rw (spans_settle t h).0 (spans_told t h)),
)

-- what is answered, and written, on a card of one of them
pub table_settled : (card : List ℕ) {before after : List ℕ} {r : Answer BuildAnswer} → SettlesCard card before r after
    → first (build_tests most_entries card (length before)) sound ≡ given sound
    → (t : Table) → In t span_tables → OnCard t card
    → (r ≡ answer_of (given (settled t.verdict 0))) × (after ≡ letters_after (given (settled t.verdict 0)) before)
table_settled card {before} p hold t h on =
    let is = span_tables_settled t h in
    let narrow-card = on_table card (length before) hold t (map_agree kind_of (λ u. span) h all_spans) is.0 on in
    settled_by card p (tells {o = settled t.verdict 0} (narrow_hold card (length before) narrow-card) (rw (on.letters, on.entries) is.1))
