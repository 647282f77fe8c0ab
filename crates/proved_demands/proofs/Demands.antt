-- The client's three demands (document 00), of `build_card::build` and of the round trip of reader and writer. `Builds most_entries card budget
-- before r after` is the contract of `build`: r is the answer, and `after` is the output, which was `before`. Each proof cites the laws of
-- the layers below. That each call ends stands in `Ends`. Assumes nothing.
use mathlib.Core.Path.{◌≡◌, refl, sym, ap, ◌∙◌}
use mathlib.Core.Logic.{◌⊎◌}
use mathlib.Core.List.{List, ◌++◌, map}
use Prim.Native.Nat.{ℕ, ◌≤◌, ◌<◌}
use lib.ListN.{length, take, drop}
use Rattle.std.specs.Prelude.{Result}
use Rattle.base_answers.specs.declared.Refusal.{Refusal}
use Rattle.base_answers.specs.Answer.{Answer, given, refused, first, sound, says}
use Rattle.base_letters.specs.Letters.{letter_of}
use Rattle.card_entries.specs.declared.Format.{Format}
use Rattle.card_entries.specs.Fault.{span}
use Rattle.card_entries.specs.Bounds.{most_entries}
use Rattle.card_layout.specs.Layout.{told_by, slots_on, entries_on}
use Rattle.card_reader.specs.Listing.{listing, Listed}
use Rattle.card_writer.specs.Writing.{writing, Writes}
use Rattle.card_writer.specs.GivesBack.{GivesBack}
use Rattle.card_writer.proofs.RoundTrip.{read_back, written_again}
use Rattle.build_sequence.specs.Verdict.{Before}
use Rattle.span_theory.specs.Walk.{placements}
use Rattle.build_card.specs.declared.BuildAnswer.{BuildAnswer}
use Rattle.build_card.specs.declared.BuildAnswer.TheVariants.{Sole, Several, None, Unsettled}
use Rattle.build_card.specs.Building.{build_tests, answer_of, letters_after, Builds}
use Rattle.build_card.proofs.FromLaws.{letters_start}
use Rattle.build_card.proofs.Determined.{says_one, told_one, builds_one}
use Rattle.proved_demands.specs.Demanded.{Fits, Passes, PlacementsOf, Meant, Settles, HasBuild, IsSeveral, Letters, sequence_in, Widened}
use Rattle.build_sequence.specs.Matches.{Matches}
use Rattle.proved_demands.proofs.MeaningLaws.{said_sole, said_several, said_none, settles_given, says_holds, card_letters, card_entries, card_words}
use Rattle.proved_demands.proofs.MeantLaws.{said_meant, meant_builds, placed_within, some_meant}
use Rattle.proved_demands.proofs.CompareLaws.{said_later, said_narrowed, said_fits, gives_build, later_told}
use Rattle.proved_demands.proofs.CompareLaws.{several_told, sole_narrowed_told, none_narrowed, holds_given, settled_larger, same_sequence}
use Rattle.build_sequence.proofs.MatchedLaws.{build_matches, matches_build}

-- ---- demands 1 and 2: what an answer means

-- as one statement, by its cases; and the other way round: what is meant is answered, with that output, and nothing else. Each theorem
-- below on an answer of build is a case of one of the two
module _ {card before after : List ℕ} {budget : ℕ} {r : Answer BuildAnswer} (b : Builds most_entries card budget before r after) where
  pub means : Meant card budget before r after
  means = rw (b.answer, b.output) (said_meant before b.said b.says)

  pub means_when : (r' : Answer BuildAnswer) {after' : List ℕ} → Meant card budget before r' after' → (r ≡ r') × (after ≡ after')
  means_when r' m = let q = meant_builds r' m in told_one answer_of before b.says q.says b.answer q.answer b.output q.output

-- "For every card, budget and lent buffer there is one of the answers": one that means what its case says, whatever the call is. That the call
-- gives it is `means_when`
pub answered : (card : List ℕ) (budget : ℕ) (before : List ℕ) → (r : Answer BuildAnswer) × (after : List ℕ) × Meant card budget before r after
answered = some_meant

-- any two outcomes that meet the contract are one
pub one_outcome : {card before after after' : List ℕ} {budget : ℕ} {r r' : Result BuildAnswer Refusal}
    → Builds most_entries card budget before (says r) after
    → Builds most_entries card budget before (says r') after'
    → (r ≡ r') × (after ≡ after')
one_outcome = builds_one

-- ---- demand 1: refusals

-- "A refusal carries its number and place, and no byte of a lent buffer differs after it."
pub refused_untouched : {card before after : List ℕ} {budget : ℕ} {n p : ℕ} → Builds most_entries card budget before (refused n p) after
    → (first (build_tests most_entries card (length before)) sound ≡ refused n p) × (after ≡ before)
refused_untouched b = means b

-- and a card that a test fails is refused so
pub refused_when : {card before after : List ℕ} {budget : ℕ} {r : Answer BuildAnswer} → Builds most_entries card budget before r after
    → {n p : ℕ} → first (build_tests most_entries card (length before)) sound ≡ refused n p
    → (r ≡ refused n p) × (after ≡ before)
refused_when b {n} {p} e = means_when b (refused n p) (e, refl)

-- the same of the writer, and of admitting into lent lists
pub write_refused_untouched : {kind l : ℕ} {words ones twos before after : List ℕ} {n p : ℕ}
    → Writes most_entries kind l words ones twos before (refused n p) after
    → (writing most_entries kind l words ones twos (length before) ≡ refused n p) × (after ≡ before)
write_refused_untouched did = (sym did.answer, rw (sym did.answer) at did.bytes)

pub admit_refused_untouched : {card words ones twos words' ones' twos' : List ℕ} {n p : ℕ}
    → Listed most_entries card words ones twos (refused n p) words' ones' twos'
    → (listing most_entries card words ones twos ≡ refused n p) × ((words' ≡ words) × (ones' ≡ ones) × (twos' ≡ twos))
admit_refused_untouched did =
    let no = sym did.answer in (no, (rw no at did.in_words, rw no at did.in_ones, rw no at did.in_twos))

-- and lists that a test fails, or a card, are refused so
pub write_refused_when : {kind l : ℕ} {words ones twos before after : List ℕ} {r : Answer ℕ} {n p : ℕ}
    → Writes most_entries kind l words ones twos before r after
    → writing most_entries kind l words ones twos (length before) ≡ refused n p
    → (r ≡ refused n p) × (after ≡ before)
write_refused_when did e = (did.answer ∙ e, rw e at did.bytes)

pub admit_refused_when : {card words ones twos words' ones' twos' : List ℕ} {r : Answer Format} {n p : ℕ}
    → Listed most_entries card words ones twos r words' ones' twos'
    → listing most_entries card words ones twos ≡ refused n p
    → (r ≡ refused n p) × ((words' ≡ words) × (ones' ≡ ones) × (twos' ≡ twos))
admit_refused_when did e = (did.answer ∙ e, (rw e at did.in_words, rw e at did.in_ones, rw e at did.in_twos))

-- ---- demand 2

-- "A build is a sequence whose words, in order, can be matched one to one with the card's entries, each at an allowed place counted from
-- 0": what fits a card is what is matched with its entries, and nothing else
module _ (card : List ℕ) (room : ℕ) (hold : Passes card room) {s : List ℕ} where
  pub fits_matches : Fits card s → Matches (told_by card).l (entries_on card) s
  fits_matches b = build_matches (card_letters card room hold) (card_entries card room hold) b

  pub matches_fits : Matches (told_by card).l (entries_on card) s → Fits card s
  matches_fits m = matches_build (card_letters card room hold) (card_entries card room hold) (card_words card room hold) m

module _ {card before after : List ℕ} {budget : ℕ} where
  -- "Sole means exactly one sequence fits"
  pub sole_means : {n k : ℕ} → Builds most_entries card budget before (given (Sole n k)) after
      → (s : List ℕ) × (Fits card s × ((t : List ℕ) → Fits card t → t ≡ s))
      × ((n ≡ length s) × Letters s before after)
  sole_means b = (means b).2

  -- "several means two or more and gives the alphabetically first"
  pub several_means : {n k : ℕ} → Builds most_entries card budget before (given (Several n k)) after
      → (s : List ℕ)
      × (Fits card s × ((t : List ℕ) × Fits card t × (t ≡ s → ⊥)) × ((t : List ℕ) → Fits card t → (t ≡ s) ⊎ Before s t))
      × ((n ≡ length s) × Letters s before after)
  several_means b = (means b).2

  -- "none means none"
  pub none_means : {k : ℕ} → Builds most_entries card budget before (given (None k)) after → ((t : List ℕ) → Fits card t → ⊥) × (after ≡ before)
  none_means b = (means b).2

  -- "Unsettled comes only on span cards, exactly when the walk of 01 needs more placements than the budget": only then, and (`unsettled_when`)
  -- always then
  pub unsettled_means : {k : ℕ} → Builds most_entries card budget before (given (Unsettled k)) after
      → (((told_by card).kind ≡ span) × (k ≡ budget) × (budget < placements (told_by card).l (slots_on card))) × (after ≡ before)
  unsettled_means b = (means b).1

  -- "On span cards placements are that walk's, cut at the budget.": here those of an answer that settles
  pub sole_placements : {n k : ℕ} → Builds most_entries card budget before (given (Sole n k)) after → PlacementsOf card budget k
  sole_placements b = (means b).1

  pub several_placements : {n k : ℕ} → Builds most_entries card budget before (given (Several n k)) after → PlacementsOf card budget k
  several_placements b = (means b).1

  pub none_placements : {k : ℕ} → Builds most_entries card budget before (given (None k)) after → PlacementsOf card budget k
  none_placements b = (means b).1

-- the same the other way round: of a card whose tests hold, what fits it and whether its placements are within the budget give the answer.
-- There are such placements where the walk's are within the budget, and on a pair card always
pub placed_when : (card : List ℕ) (room : ℕ) {budget : ℕ} → Passes card room
    → ((told_by card).kind ≡ span → placements (told_by card).l (slots_on card) ≤ budget)
    → (k : ℕ) × PlacementsOf card budget k
placed_when card room passes within = placed_within card room passes within

module _ {card before after : List ℕ} {budget : ℕ} {r : Answer BuildAnswer} (b : Builds most_entries card budget before r after)
    (passes : Passes card (length before)) where
  module _ {k : ℕ} (placed : PlacementsOf card budget k) where
    pub sole_when : {s : List ℕ} → Fits card s → ((t : List ℕ) → Fits card t → t ≡ s) → (r ≡ given (Sole (length s) k)) × Letters s before after
    sole_when {s} fits only = means_when b (given (Sole (length s) k)) (passes, placed, (s, (fits, only), (refl, refl)))

    pub several_when : {s : List ℕ} → Fits card s → (t : List ℕ) → Fits card t → (t ≡ s → ⊥)
        → ((u : List ℕ) → Fits card u → (u ≡ s) ⊎ Before s u)
        → (r ≡ given (Several (length s) k)) × Letters s before after
    several_when {s} fits t also other first-of-all =
        means_when b (given (Several (length s) k)) (passes, placed, (s, (fits, (t, also, other), first-of-all), (refl, refl)))

    pub none_when : ((t : List ℕ) → Fits card t → ⊥) → (r ≡ given (None k)) × (after ≡ before)
    none_when nobody = means_when b (given (None k)) (passes, placed, (nobody, refl))

  pub unsettled_when : (told_by card).kind ≡ span → budget < placements (told_by card).l (slots_on card)
      → (r ≡ given (Unsettled budget)) × (after ≡ before)
  unsettled_when kind over = means_when b (given (Unsettled budget)) (passes, ((kind, refl, over), refl))

-- "Entries that the writer accepts read back as themselves"
pub written_reads_back : {kind l : ℕ} {words ones twos before after : List ℕ} {r : Answer ℕ} {n : ℕ}
    → Writes most_entries kind l words ones twos before r after
    → r ≡ given n
    → GivesBack most_entries kind l words ones twos (take n after)
written_reads_back = read_back

-- "an admitted card written again gives its own bytes"
pub admitted_written_again : {card a b c a' b' c' : List ℕ} {q : Answer Format} {f : Format} → Listed most_entries card a b c q a' b' c'
    → q ≡ given f
    → {before after : List ℕ} {r : Answer ℕ}
    → Writes most_entries f.kind f.l (take f.m a') (take f.m b') (take f.m c') before r after
    → length card ≤ length before
    → (r ≡ given (length card)) × (after ≡ card ++ drop (length card) before)
admitted_written_again listed told did = written_again listed told did

-- ---- demand 3

module _ {card card' before before' after after' : List ℕ} {b : ℕ} {r : Answer BuildAnswer} (more : Widened card card')
    (p : Builds most_entries card b before r after) where
  -- "If both settle, a build on the first means one on the second, alphabetically no later"
  pub no_later : {c : ℕ} {r' : Answer BuildAnswer} → Builds most_entries card' c before' r' after' → HasBuild r → Settles r'
      → (s : List ℕ) × (t : List ℕ) × (Fits card s × Fits card' t) × (Letters s before after × Letters t before' after')
      × (HasBuild r' × ((t ≡ s) ⊎ Before t s))
  no_later q g k =
      let z = settles_given q.said (rw q.answer at k) in
      rw (p.output, q.output, q.answer)
      (rw z.2
      (later_told (Fits card) (Fits card') before before' z.1 p.said z.0 (said_fits p.said p.says)
      (rw z.2 at (said_fits q.said q.says)) (rw z.2 at (said_later more p.says q.says))
      (gives_build p.said (rw p.answer at g))))

  -- "several stays several"
  pub several_stays : {c : ℕ} {r' : Answer BuildAnswer} → Builds most_entries card' c before' r' after' → IsSeveral r → Settles r' → IsSeveral r'
  several_stays q (n, j, e) k =
      let a = said_several p.said (sym e ∙ p.answer) in
      let z = settles_given q.said (rw q.answer at k) in
      let later = said_later more p.says q.says in
      rw q.answer (rw z.2 (several_told a.0 j z.1 z.0 (rw a.1 at (rw z.2 at later))))

  -- "If a budget settles the second as sole or none, it settles the first in no more placements, as none or that same sole sequence.":
  -- where there is "room for the sequence" on the first too
  module _ (hold : Passes card (length before)) where
    pub sole_narrows : {n k : ℕ} → Builds most_entries card' b before' (given (Sole n k)) after'
        → (j : ℕ) × (j ≤ k) × ((r ≡ given (None j)) ⊎ ((r ≡ given (Sole n j)) × (take n after ≡ take n after')))
    sole_narrows q =
        let a = holds_given p.says hold in
        let z = said_sole q.said q.answer in
        let h = said_narrowed more p.says q.says in
        sole_narrowed_told a.0 z.0 before before' (rw a.1 at p.answer) (rw a.1 at p.output) z.2
        (rw z.1 at q.output) (rw (a.1, z.1) at h)

    pub none_narrows : {k : ℕ} → Builds most_entries card' b before' (given (None k)) after' → (j : ℕ) × (j ≤ k) × (r ≡ given (None j))
    none_narrows q =
        let a = holds_given p.says hold in
        let z = said_none q.said q.answer in
        let h = said_narrowed more p.says q.says in
        rw (p.answer, a.1) (none_narrowed a.0 (rw (a.1, z) at h))

-- what an answer gives is the sequence that stands there
pub sequence_stands : (s before : List ℕ) (k : ℕ) {after : List ℕ} → Letters s before after
    → (sequence_in (given (Sole (length s) k)) after ≡ map letter_of s) × (sequence_in (given (Several (length s) k)) after ≡ map letter_of s)
sequence_stands s before k e = rw e (letters_start s before, letters_start s before)

-- "On one card, a settled answer and its placements stay the same under every larger budget.": and so does the sequence, whatever the second
-- output was, if it has room
pub larger_budget_same : {card before before' after after' : List ℕ} {b c : ℕ} {r r' : Answer BuildAnswer} → b ≤ c → Settles r
    → Builds most_entries card b before r after
    → Builds most_entries card c before' r' after'
    → Passes card (length before')
    → (r ≡ r') × (sequence_in r after ≡ sequence_in r' after')
larger_budget_same {before} {before'} h s p q passes =
    let a = settles_given p.said (rw p.answer at s) in
    let same = says_one q.says (settled_larger h passes (rw a.2 at p.says)) in (
      p.answer ∙ ap answer_of (a.2 ∙ sym same) ∙ sym q.answer,
      rw (p.answer, p.output, q.answer, q.output) (rw (a.2, same) (same_sequence a.0 a.1 before before')),
    )

-- with one output for both, no byte of it differs
pub larger_budget_output : {card before after after' : List ℕ} {b c : ℕ} {r r' : Answer BuildAnswer} → b ≤ c → Settles r
    → Builds most_entries card b before r after
    → Builds most_entries card c before r' after'
    → (r ≡ r') × (after ≡ after')
larger_budget_output {before} h s p q =
    let a = settles_given p.said (rw p.answer at s) in
    let says = rw a.2 at p.says in
    told_one answer_of before (settled_larger h (says_holds says) says) q.says (p.answer ∙ ap answer_of a.2) q.answer
    (p.output ∙ ap (λ x. letters_after x before) a.2) q.output
