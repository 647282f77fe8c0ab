-- "For every pair card also report how many builds it has" (request 12), of `build_count::count_card`. That the number is unique, and the
-- same from the lists that a card is admitted into, stands in crates/build_count/proofs/Determined.antt. Assumes nothing.
use mathlib.Core.Path.{◌≡◌, refl, sym, ap, ◌∙◌, subst}
use mathlib.Core.Logic.{◌⊎◌, inl, inr}
use mathlib.Core.List.{List, map}
use Prim.Native.Nat.{ℕ, zero, suc}
use native.Mathlib.Omega.{arith}
use lib.Pow.{pow_pos}
use lib.ListN.{length}
use Rattle.base_answers.specs.Numbers.{Kind}
use Rattle.base_answers.specs.Answer.{Answer, given, refused, first, sound}
use Rattle.base_answers.proofs.Laws.{given_not_refused}
use Rattle.card_entries.specs.Slot.{slot_from}
use Rattle.card_entries.specs.Fault.{pair, span}
use Rattle.card_entries.specs.Entry.{entry_of}
use Rattle.card_entries.specs.Bounds.{most_entries}
use Rattle.card_layout.specs.Layout.{told_by, slots_on}
use Rattle.card_layout.specs.Card.{card_of}
use Rattle.card_layout.proofs.LaidLaws.{card_told}
use Rattle.card_reader.specs.Reading.{reading_order}
use Rattle.card_lists.specs.Lists.{lists_tests}
use Rattle.card_entries.specs.Hold.{format_for}
use Rattle.card_lists.proofs.Laws.{lists_held}
use Rattle.card_writer.proofs.ReadBackLaws.{accepted_order}
use Rattle.base_lists.specs.Members.{In}
use Rattle.build_sequence.specs.Build.{Build}
use Rattle.build_sequence.specs.Verdict.{Verdict, sole, several, no_build, Tells, settled}
use Rattle.build_sequence.specs.Many.{Many, Power, two_to, no_builds, how_many}
use Rattle.build_sequence.specs.Tables.{stored_in}
use Rattle.build_sequence.proofs.ManyLaws.{many_none, many_empty, NumberBy, many_by, exponent_one}
use Rattle.build_sequence.proofs.ManyOf.{distinct, many_enumerated}
use Rattle.build_sequence.proofs.Enumerator.{sequences}
use Rattle.build_sequence.proofs.Tables.{map_agree}
use Rattle.pair_theory.specs.Settling.{pair_entries}
use Rattle.build_card.specs.declared.BuildAnswer.{BuildAnswer}
use Rattle.build_card.specs.Building.{answer_of, Builds}
use Rattle.build_card.proofs.CardLaws.{order_held}
use Rattle.std.specs.Prelude.{Option, Some, None}
use Rattle.build_count.specs.Counting.{tells, refuses, OfCard, OfLists, number_of, Counts}
use Rattle.build_count.proofs.CountingLaws.{tests_hold, hold_tests, span_refused, counted_one}
use Rattle.build_count.proofs.CardLaws.{other_tests}
use Rattle.proved_demands.specs.Demanded.{Fits, Settles}
use Rattle.proved_demands.specs.Tables.{kind_of, OnCard}
use Rattle.proved_demands.proofs.MeaningLaws.{settles_given, means_tells, says_holds, says_means, made_slots}
use Rattle.proved_requests.specs.Counted.{OnPairCard, NumberMeans, GoesWith}
use Rattle.proved_requests.specs.Tables.{CountedTable, counted_tables}
use Rattle.proved_requests.proofs.Examples.{all_counted, all_stored, all_pairs}

-- ---- what the number means, both ways

module _ (card : List ℕ) where
  -- the entries of a pair card
  as_pairs : (told_by card).kind ≡ pair → {n : ℕ} → Many (Build (told_by card).l (pair_entries (slots_on card))) n → Many (Fits card) n
  as_pairs kind {n} m = subst (λ (k : ℕ). Many (Build (told_by card).l (map (entry_of k) (slots_on card))) n) (sym kind) m

  of_pairs : (told_by card).kind ≡ pair → {n : ℕ} → Many (Fits card) n → Many (Build (told_by card).l (pair_entries (slots_on card))) n
  of_pairs kind {n} m = subst (λ (k : ℕ). Many (Build (told_by card).l (map (entry_of k) (slots_on card))) n) kind m

  said_means : {a : Answer Power} → OfCard most_entries card a → NumberMeans card (number_of a)
  said_means (tells {p} e m) = let held = tests_hold (reading_order most_entries card) _ e in go p held.0 held.1 m
    where
      go : (p : Power) → first (reading_order most_entries card) sound ≡ given sound → (told_by card).kind ≡ pair
          → Many (Build (told_by card).l (pair_entries (slots_on card))) (how_many p)
          → NumberMeans card (number_of (given p))
      go (two_to k) order kind m = (record { admitted = order; kind = kind }, as_pairs kind m)
      go no_builds order kind m = (record { admitted = order; kind = kind }, many_empty (as_pairs kind m))
  said_means (refuses e) = e

  pub number_means : {q : Answer (Option ℕ)} → Counts number_of (OfCard most_entries card) q → NumberMeans card q
  number_means c = rw c.answer (said_means c.says)

  pub means_number : (q : Answer (Option ℕ)) → NumberMeans card q → Counts number_of (OfCard most_entries card) q
  means_number (given (Some k)) (on, m) =
      record {
        said = given (two_to k);
        says = tells (hold_tests (reading_order most_entries card) _ on.admitted on.kind) (of_pairs on.kind m);
        answer = refl;
      }
  means_number (given None) (on, none) =
      record {
        said = given no_builds;
        says = tells (hold_tests (reading_order most_entries card) _ on.admitted on.kind) (of_pairs on.kind (many_none none));
        answer = refl;
      }
  means_number (refused n p) e = record { said = refused n p; says = refuses e; answer = refl }

-- "For every pair card": one that is admitted is not refused
pub counted_always : (card : List ℕ) {q : Answer (Option ℕ)} → OnPairCard card → Counts number_of (OfCard most_entries card) q
    → ((k : ℕ) × (q ≡ given (Some k))) ⊎ (q ≡ given None)
counted_always card {q} on c = rw c.answer (go c.says)
  where
    go : {a : Answer Power} → OfCard most_entries card a → ((k : ℕ) × (number_of a ≡ given (Some k))) ⊎ (number_of a ≡ given None)
    go (tells {p = two_to k} e m) = inl (k, refl)
    go (tells {p = no_builds} e m) = inr refl
    go (refuses e) = absurd (given_not_refused (sym (hold_tests (reading_order most_entries card) _ on.admitted on.kind) ∙ e))

-- "Refusals: 5 on a span card."
pub span_refused_5 : (card : List ℕ) {q : Answer (Option ℕ)} → first (reading_order most_entries card) sound ≡ given sound → (told_by card).kind ≡ span
    → Counts number_of (OfCard most_entries card) q
    → q ≡ refused Kind 0
span_refused_5 card order kind c =
    c.answer ∙ ap number_of (counted_one c.says (refuses (span_refused (reading_order most_entries card) _ order kind)))

-- lists that hold have the number of the card that the writer makes of them
pub lists_as_card : (kind l : ℕ) (words ones twos : List ℕ) {q q' : Answer (Option ℕ)}
    → first (lists_tests most_entries kind l words ones twos) sound ≡ given sound
    → Counts number_of (OfLists most_entries kind l words ones twos) q
    → Counts number_of (OfCard most_entries (card_of (format_for kind l words) (slot_from words ones twos))) q'
    → q ≡ q'
lists_as_card kind l words ones twos hold c d =
    let f = format_for kind l words in
    let slots = slot_from words ones twos in
    let order = accepted_order kind l words ones twos (lists_held hold) in
    let on : OfCard most_entries (card_of f slots) c.said =
    rw (made_slots f slots, card_told f slots) (other_tests hold order c.says) in
    c.answer ∙ ap number_of (counted_one on d.says) ∙ sym d.answer

-- ---- it goes with build's verdict

power_agrees : (v : Verdict) (p : Power) (n : ℕ) → NumberBy v (how_many p) → GoesWith (number_of (given p)) (answer_of (given (settled v n)))
power_agrees (sole s) (two_to k) n e = ap (λ x. given (Some x)) (exponent_one k 0 e)
power_agrees (sole s) no_builds n e = absurd (omega arith)
power_agrees (several s) (two_to zero) n e = absurd (omega arith)
power_agrees (several s) (two_to (suc k)) n e = (k, refl)
power_agrees (several s) no_builds n e = absurd (omega arith)
power_agrees no_build (two_to k) n e = absurd (omega (arith, e, pow_pos k))
power_agrees no_build no_builds n e = refl

pub number_agrees : {card before after : List ℕ} {budget : ℕ} {q : Answer (Option ℕ)} {r : Answer BuildAnswer} → (told_by card).kind ≡ pair
    → Counts number_of (OfCard most_entries card) q
    → Builds most_entries card budget before r after
    → Settles r
    → GoesWith q r
number_agrees {card} {before} kind c b settles =
    let o = settles_given b.said (rw b.answer at settles) in
    let says = rw o.2 at b.says in
    let order = order_held most_entries card (length before) (says_holds says) in
    rw (c.answer, b.answer, o.2) (go order o.0 o.1 (means_tells (says_means says)) c.says)
  where
    go : first (reading_order most_entries card) sound ≡ given sound → (v : Verdict) (n : ℕ) → Tells (Fits card) v → {a : Answer Power}
        → OfCard most_entries card a
        → GoesWith (number_of a) (answer_of (given (settled v n)))
    go order v n t (tells {p} e m) = power_agrees v p n (many_by v t (as_pairs card kind m))
    go order v n t (refuses e) = absurd (given_not_refused (sym (hold_tests (reading_order most_entries card) _ order kind) ∙ e))

-- ---- the pair tables

-- P1 has two builds, P4 and P7 none, P5 one, two copies of P1 four
pub tables_counted : (t : CountedTable) → In t counted_tables → Many (Build 2 t.table.entries) (how_many t.builds)
tables_counted t h =
    rw (map_agree (λ u. length (distinct (sequences 2 u.table.entries))) (λ u. how_many u.builds) h all_counted) at
    (many_enumerated 2 t.table.entries)

-- what is answered for a card of a table
pub table_number : {card : List ℕ} {q : Answer (Option ℕ)} → Counts number_of (OfCard most_entries card) q
    → first (reading_order most_entries card) sound ≡ given sound
    → (t : CountedTable) → In t counted_tables → OnCard t.table card
    → q ≡ number_of (given t.builds)
table_number {card} c order t h on =
    let kind = on.kind ∙ map_agree (λ u. kind_of u.table) (λ u. pair) h all_pairs in
    let same : pair_entries (stored_in t.table) ≡ t.table.entries =
    map_agree (λ u. pair_entries (stored_in u.table)) (λ u. u.table.entries) h all_stored in
    let is : Many (Build (told_by card).l (pair_entries (slots_on card))) (how_many t.builds) =
    rw (on.letters, on.entries, same) (tables_counted t h) in
    c.answer ∙ ap number_of (counted_one c.says (tells {p = t.builds} (hold_tests (reading_order most_entries card) _ order kind) is))
