-- "Neighbouring pairs are spans" (request 12), of cards, of lists and of `build_card::build`. Assumes nothing.
use mathlib.Core.Path.{◌≡◌, sym, ap, ◌∙◌}
use mathlib.Core.List.{List}
use Prim.Native.Nat.{ℕ, ◌≤◌}
use native.Mathlib.Omega.{arith}
use lib.ListN.{length}
use Rattle.base_answers.specs.Answer.{Answer, given, first, sound}
use Rattle.card_entries.specs.declared.Format.{Format}
use Rattle.card_entries.specs.Slot.{entries_in}
use Rattle.card_entries.specs.Fault.{pair, span}
use Rattle.card_entries.specs.Bounds.{most_entries}
use Rattle.card_layout.specs.Layout.{told_by, slots_on}
use Rattle.card_reader.specs.Reading.{reading_order}
use Rattle.card_reader.specs.Fetching.{admission}
use Rattle.card_reader.proofs.FetchingLaws.{admission_given, admission_admits}
use Rattle.card_reader.proofs.SoundLaws.{reads_holds}
use Rattle.card_lists.specs.Lists.{lists_tests}
use Rattle.card_lists.proofs.Laws.{lists_held, held_lists}
use Rattle.card_reader.proofs.AdmittedLaws.{its_reads, its_told}
use Rattle.build_sequence.specs.Verdict.{Verdict, Outcome, settled, unsettled}
use Rattle.build_sequence.proofs.VerdictLaws.{tells_one, tells_same}
use Rattle.build_sequence.proofs.WiderLaws.{build_wider}
use Rattle.span_theory.specs.Walk.{placements}
use Rattle.build_card.specs.declared.BuildAnswer.{BuildAnswer}
use Rattle.build_card.specs.Building.{letters_in, build_tests, Means, answer_of, letters_after, Builds}
use Rattle.build_card.proofs.CardLaws.{has_room}
use Rattle.proved_demands.specs.Demanded.{Fits, Settles}
use Rattle.proved_requests.specs.Neighbours.{AllNear, Spanned, SameSaid, span_format, span_card, span_twos}
use Rattle.proved_demands.proofs.MeaningLaws.{settles_given, verdict_settles, means_tells, means_placements, means_unsettled, says_means}
use Rattle.proved_demands.proofs.CompareLaws.{holds_given}
use Rattle.proved_requests.proofs.NeighbourLaws.{spans_wider, pairs_wider, near_hold, span_card_told, span_card_spanned, span_card_reads}

-- ---- a pair card and its span card

module _ {card card' : List ℕ} (x : Spanned card card') {s : List ℕ} where
  -- the same sequences fit both
  pub fits_span : Fits card s → Fits card' s
  fits_span b = rw (x.kind', ← x.letters) (build_wider (spans_wider x.entries) (rw x.kind at b))

  pub fits_pair : Fits card' s → Fits card s
  fits_pair b = rw (x.kind, x.letters) (build_wider (pairs_wider x.entries) (rw x.kind' at b))

-- a card that is not refused settles where Unsettled is not true of it
module _ {card before after : List ℕ} {b : ℕ} {r : Answer BuildAnswer}
    (hold : first (build_tests most_entries card (length before)) sound ≡ given sound) (p : Builds most_entries card b before r after) where
  settles_by : ((n : ℕ) → Means (told_by card).kind (told_by card).l (slots_on card) b (unsettled n) → ⊥) → Settles r
  settles_by never =
      let o = holds_given p.says hold in rw (p.answer, o.1) (go o.0 (says_means (rw o.1 at p.says)))
    where
      go : (o : Outcome) → Means (told_by card).kind (told_by card).l (slots_on card) b o → Settles (answer_of (given o))
      go (settled v n) m = verdict_settles v n
      go (unsettled n) m = absurd (never n m)

  -- a pair card does
  pub pair_settles : (told_by card).kind ≡ pair → Settles r
  pair_settles kind = settles_by (λ n m. omega (arith, kind, (means_unsettled m).0))

  -- and so does a span card, at every budget not below its placements
  pub span_settles : placements (told_by card).l (slots_on card) ≤ b → Settles r
  span_settles enough = settles_by (λ n m. omega (arith, (means_unsettled m).2))

-- "the span card with the same words and places gives the same verdict and sequence whenever it settles": of any two such cards, at any two
-- budgets
pub spanned_same : {card card' before before' after after' : List ℕ} {b c : ℕ} {r r' : Answer BuildAnswer} → Spanned card card'
    → Builds most_entries card b before r after → Builds most_entries card' c before' r' after' → Settles r → Settles r'
    → SameSaid before r after before' r' after'
spanned_same {card} {card'} {before} {before'} x p q settles settles' =
    let o = settles_given p.said (rw p.answer at settles) in
    let o' = settles_given q.said (rw q.answer at settles') in
    let means = says_means (rw o.2 at p.says) in
    let means' = says_means (rw o'.2 at q.says) in
    let same : o.0 ≡ o'.0 = tells_one (Fits card) o.0 o'.0 (means_tells means)
    (tells_same (Fits card') (Fits card) (λ s. fits_pair x) (λ s. fits_span x) o'.0 (means_tells means')) in
    let said = o.2 ∙ ap (λ (n : ℕ). given (settled o.0 n)) ((means_placements means).on_pairs x.kind) in
    let said' = o'.2 ∙ ap (λ (v : Verdict). given (settled v o'.1)) (sym same) in
    record {
      verdict = o.0;
      placements = o'.1;
      answer = p.answer ∙ ap answer_of said;
      output = p.output ∙ ap (λ (a : Answer Outcome). letters_after a before) said;
      answer' = q.answer ∙ ap answer_of said';
      output' = q.output ∙ ap (λ (a : Answer Outcome). letters_after a before') said';
    }

-- ---- the span lists, and the span card, are there

-- lists of a pair card that hold, where each pair is one place or neighbours, give lists of a span card that hold
pub near_lists_hold : (l : ℕ) (words ones twos : List ℕ) → AllNear (entries_in words ones twos)
    → first (lists_tests most_entries pair l words ones twos) sound ≡ given sound
    → first (lists_tests most_entries span l words ones (span_twos words ones twos)) sound ≡ given sound
near_lists_hold l words ones twos near hold = held_lists (near_hold near (lists_held hold))

module _ (card : List ℕ) {f : Format} (admitted : admission most_entries card ≡ given f) (kind : f.kind ≡ pair)
    (near : AllNear (slots_on card)) where
  told : f ≡ told_by card
  told = its_told most_entries card admitted

  order : first (reading_order most_entries (span_card card)) sound ≡ given sound
  order = reads_holds most_entries (span_card card) (span_card_reads card (its_reads most_entries card admitted) (rw told at kind) near)

  -- every admitted pair card whose pairs are one place or neighbours has its span card, which is admitted with the same l and m
  pub span_card_there : (admission most_entries (span_card card) ≡ given (span_format f)) × Spanned card (span_card card)
  span_card_there = (
    admission_given most_entries (span_card card) order ∙ ap given (span_card_told card ∙ ap span_format (sym told)),
    span_card_spanned card (rw told at kind) near,
  )

  -- with room for the sequence build's tests hold
  pub span_card_holds : (room : ℕ) → letters_in f ≤ room → first (build_tests most_entries (span_card card) room) sound ≡ given sound
  span_card_holds room h = has_room most_entries (span_card card) room order (rw (span_card_told card, ← told) h)

  -- "where each pair is one place, or p and p+1, the span card with the same words and places gives the same verdict and sequence whenever
  -- it settles": where there is room for the sequence on the pair card too
  pub near_card_same : {before before' after after' : List ℕ} {b c : ℕ} {r r' : Answer BuildAnswer} → letters_in f ≤ length before
      → Builds most_entries card b before r after
      → Builds most_entries (span_card card) c before' r' after'
      → Settles r'
      → SameSaid before r after before' r' after'
  near_card_same {before} h p q settles' =
      let had = admission_admits most_entries card admitted in
      let hold = has_room most_entries card (length before) had.order (rw told at h) in
      let x = span_card_there.1 in
      spanned_same x p q (pair_settles hold p x.kind) settles'
