-- Laws of settling a card that was admitted into lists: what is answered from them is what is answered from the card. Assumes nothing.
use mathlib.Core.Path.{◌≡◌, sym, ap, ◌∙◌}
use mathlib.Core.List.{List}
use Prim.Native.Nat.{ℕ, ◌≤◌}
use lib.ListN.{length, take}
use Rattle.std.specs.Prelude.{Result, Ok, Err}
use Rattle.base_answers.specs.declared.Refusal.{Refusal}
use Rattle.base_answers.specs.Answer.{Answer, given, refused, first, sound, number_of, place_of, says}
use Rattle.card_entries.specs.declared.Format.{Format}
use Rattle.card_entries.specs.Bounds.{most_entries}
use Rattle.card_reader.specs.Fetching.{admission}
use Rattle.card_reader.specs.Listing.{Listed}
use Rattle.card_reader.proofs.FetchingLaws.{admission_admits}
use Rattle.card_reader.proofs.ListingLaws.{listed_admitted, listed_words, listed_ones, listed_twos, listed_not_admitted}
use Rattle.card_lists.proofs.Laws.{held_lists}
use Rattle.card_reader.proofs.AdmittedLaws.{its_words, its_ones, its_twos, its_hold, format_same}
use Rattle.build_sequence.specs.Verdict.{Outcome}
use Rattle.build_card.specs.declared.BuildAnswer.{BuildAnswer}
use Rattle.build_card.specs.Building.{build_tests, answer_of}
use Rattle.card_layout.specs.Layout.{slots_on}
use Rattle.build_card.proofs.CardLaws.{reader_refuses, its_entries}
use Rattle.build_narrow.specs.Settling.{lists_build_tests, Settled, OfCard, OfLists, SettlesInto}
use Rattle.build_narrow.proofs.TestLaws.{tests_refuse, build_as_card}
use Rattle.build_narrow.proofs.SettlingLaws.{refused_settles, other_tests}

-- ---- the same from a card and from its lists

module _ (card : List ℕ) {f : Format} (admitted : admission most_entries card ≡ given f) where
  -- the tests of building answer the same
  its_tests : (room : ℕ)
      → first (lists_build_tests most_entries f.kind f.l (its_words most_entries card admitted) (its_ones most_entries card admitted)
      (its_twos most_entries card admitted) room) sound
      ≡ first (build_tests most_entries card room) sound
  its_tests room =
      let had = admission_admits most_entries card admitted in
      build_as_card most_entries f.kind f.l (its_words most_entries card admitted) (its_ones most_entries card admitted)
      (its_twos most_entries card admitted) room card
      (held_lists (its_hold most_entries card admitted))
      had.order
      (sym (format_same most_entries card admitted ∙ had.told))

  its_settled : (room : ℕ) {a : Answer Outcome}
      → OfLists most_entries f.kind f.l (its_words most_entries card admitted) (its_ones most_entries card admitted)
      (its_twos most_entries card admitted) room a
      → OfCard most_entries card room a
  its_settled room {a} c =
      let had = admission_admits most_entries card admitted in
      let on : Settled (build_tests most_entries card room) f.kind f.l (slots_on card) a =
      rw (its_entries most_entries card admitted) at (other_tests (its_tests room) c) in
      rw had.told at on

-- ---- the card, by what it is admitted into

module _ {card words ones twos words' ones' twos' : List ℕ} {q : Result Format Refusal}
    (did : Listed most_entries card words ones twos (says q) words' ones' twos') where
  listed_says : (room : ℕ) {f : Format} {a : Answer Outcome} → q ≡ Ok f
      → OfLists most_entries f.kind f.l (take f.m words') (take f.m ones') (take f.m twos') room a
      → OfCard most_entries card room a
  listed_says room e c =
      let told = ap says e in
      its_settled card (listed_admitted did told) room (rw (listed_words did told, listed_ones did told, listed_twos did told) at c)

  pub listed_settles : {f : Format} {before after : List ℕ} {r : Answer BuildAnswer} → q ≡ Ok f
      → SettlesInto answer_of (OfLists most_entries f.kind f.l (take f.m words') (take f.m ones') (take f.m twos') (length before))
      before r after
      → SettlesInto answer_of (OfCard most_entries card (length before)) before r after
  listed_settles {before = before} e c = record {
    said = c.said;
    says = listed_says (length before) e c.says;
    answer = c.answer;
    output = c.output;
  }

  pub card_refused : {n : Refusal} {before : List ℕ} → q ≡ Err n → most_entries ≤ length words → most_entries ≤ length ones
      → most_entries ≤ length twos
      → SettlesInto answer_of (OfCard most_entries card (length before)) before (refused (number_of n) (place_of n)) before
  card_refused {n} {before} e a b c =
      let said : Listed most_entries card words ones twos (refused (number_of n) (place_of n)) words' ones' twos' = rw e at did in
      refused_settles
      (tests_refuse _ _ (build_tests most_entries card (length before))
      (reader_refuses most_entries card (length before) (listed_not_admitted said a b c)))
