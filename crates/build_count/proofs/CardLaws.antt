-- Laws of counting from a card that was admitted into lists: what is answered from them is what is answered from the card. Assumes nothing.
use mathlib.Core.Path.{◌≡◌, sym, ap, ◌∙◌}
use mathlib.Core.List.{List}
use Prim.Native.Nat.{ℕ, ◌≤◌}
use lib.ListN.{length, take}
use Rattle.std.specs.Prelude.{Option, Result, Ok, Err}
use Rattle.base_answers.specs.declared.Refusal.{Refusal}
use Rattle.base_answers.specs.Answer.{Answer, given, refused, Test, first, sound, number_of as number_at, place_of, says}
use Rattle.base_answers.proofs.Laws.{first_holds}
use Rattle.card_entries.specs.declared.Format.{Format}
use Rattle.card_entries.specs.declared.Slot.{Slot}
use Rattle.card_entries.specs.Slot.{entries_in}
use Rattle.card_entries.specs.Bounds.{most_entries}
use Rattle.card_reader.specs.Reading.{reading_order}
use Rattle.card_reader.specs.Fetching.{admission}
use Rattle.card_reader.specs.Listing.{Listed}
use Rattle.card_reader.proofs.FetchingLaws.{admission_admits}
use Rattle.card_reader.proofs.ListingLaws.{listed_admitted, listed_not_admitted}
use Rattle.card_lists.proofs.Laws.{held_lists}
use Rattle.card_reader.proofs.AdmittedLaws.{its_words, its_ones, its_twos, its_hold}
use Rattle.build_sequence.specs.Many.{Power}
use Rattle.card_layout.specs.Layout.{slots_on}
use Rattle.build_card.proofs.CardLaws.{its_entries, listed_entries}
use Rattle.build_count.specs.Counting.{count_tests, Counted, tells, refuses, OfCard, OfLists, number_of, Counts}
use Rattle.build_count.specs.ByKind.{ByKind}
use Rattle.build_count.proofs.CountingLaws.{refused_counts, kind_counts}

-- ---- the card, by what it is admitted into

module _ {card words ones twos words' ones' twos' : List ℕ} {q : Result Format Refusal}
    (did : Listed most_entries card words ones twos (says q) words' ones' twos') where
  pub listed_counts : {f : Format} {r : Answer (Option ℕ)} → q ≡ Ok f
      → ByKind f.kind f.l (entries_in (take f.m words') (take f.m ones') (take f.m twos')) r
      → Counts number_of (OfCard most_entries card) r
  listed_counts {f} {r} e b =
      let had = admission_admits most_entries card (listed_admitted did (ap says e)) in
      let over : ByKind f.kind f.l (slots_on card) r = rw (listed_entries did e) at b in
      kind_counts had.order (rw had.told at over)

  pub card_refused : {n : Refusal} → q ≡ Err n → most_entries ≤ length words → most_entries ≤ length ones → most_entries ≤ length twos
      → Counts number_of (OfCard most_entries card) (refused (number_at n) (place_of n))
  card_refused {n} e a b c =
      let said : Listed most_entries card words ones twos (refused (number_at n) (place_of n)) words' ones' twos' = rw e at did in
      refused_counts (listed_not_admitted said a b c)

-- ---- the same from a card and from its lists

-- other tests that hold too
pub other_tests : {ts ts' : List Test} {kind l : ℕ} {es : List Slot} {a : Answer Power} → first ts sound ≡ given sound
    → first ts' sound ≡ given sound
    → Counted ts kind l es a
    → Counted ts' kind l es a
unfolding count_tests
other_tests {ts} {ts'} {kind} e f = go
  where
    same : first (count_tests kind ts') sound ≡ first (count_tests kind ts) sound
    same = first_holds _ sound ts' f ∙ sym (first_holds _ sound ts e)

    go : {l : ℕ} {es : List Slot} {a : Answer Power} → Counted ts kind l es a → Counted ts' kind l es a
    go (tells h m) = tells (same ∙ h) m
    go (refuses h) = refuses (same ∙ h)

pub its_counted : (card : List ℕ) {f : Format} (admitted : admission most_entries card ≡ given f) {a : Answer Power}
    → OfLists most_entries f.kind f.l (its_words most_entries card admitted) (its_ones most_entries card admitted)
    (its_twos most_entries card admitted) a
    → OfCard most_entries card a
its_counted card {f} admitted {a} c =
    let had = admission_admits most_entries card admitted in
    let on : Counted (reading_order most_entries card) f.kind f.l (slots_on card) a =
    rw (its_entries most_entries card admitted) at (other_tests (held_lists (its_hold most_entries card admitted)) had.order c) in
    rw had.told at on
