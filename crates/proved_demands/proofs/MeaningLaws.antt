-- Laws of what build says of a card, by which the demands are read off. Assumes nothing.
use mathlib.Core.Path.{◌≡◌, refl, sym}
use mathlib.Core.Logic.{◌⊎◌, inl, inr, ⊎_map, ⊎_elim}
use mathlib.Core.List.{List, map}
use Prim.Native.Nat.{ℕ, ◌+◌, ◌^◌, ◌<◌}
use native.Mathlib.Omega.{arith}
use lib.ListN.{length, length-map}
use lib.Dec.{eqb}
use borrow.Author.Tests.{leb-true, eqb-true}
use Rattle.base_answers.specs.Answer.{Answer, given, refused, first, sound}
use Rattle.base_lists.specs.Row.{row}
use Rattle.base_lists.proofs.RowLaws.{length_row, row_same}
use Rattle.base_lists.proofs.TestLaws.{both, either}
use Rattle.card_entries.specs.declared.Format.{Format}
use Rattle.card_entries.specs.declared.Slot.{Slot}
use Rattle.card_entries.specs.Entry.{entry_of}
use Rattle.card_entries.specs.declared.Entry.{Entry}
use Rattle.card_entries.specs.Fault.{pair, span, least_length}
use Rattle.card_entries.proofs.Laws.{sound_has}
use Rattle.card_entries.specs.Hold.{Hold, format_for}
use Rattle.card_entries.proofs.HoldLaws.{slots_each, hold_of_kind}
use Rattle.card_entries.specs.Bounds.{least_entries, most_entries}
use Rattle.card_layout.specs.Layout.{told_by, slot_of, slots_on, entries_on}
use Rattle.card_layout.specs.Card.{card_of}
use Rattle.card_layout.proofs.CardLaws.{card_slot}
use Rattle.card_layout.proofs.LaidLaws.{card_told}
use Rattle.card_reader.proofs.SoundLaws.{Reads, holds_reads}
use Rattle.base_lists.specs.Members.{In}
use Rattle.build_sequence.specs.Build.{Build}
use Rattle.build_sequence.specs.Verdict.{Verdict, sole, several, no_build, Tells, Outcome, settled, unsettled}
use Rattle.base_lists.proofs.ListLaws.{in_row}
use Rattle.build_sequence.proofs.BuildLaws.{entries_fit}
use Rattle.span_theory.specs.Walk.{placements}
use Rattle.span_theory.specs.Settling as spans
use Rattle.pair_theory.specs.Settling as pairs
use Rattle.build_card.specs.declared.BuildAnswer.TheVariants.{Sole, Several, None, Unsettled}
use Rattle.build_card.specs.Building.{build_tests, Means, on_pairs, on_spans, Says, tells, refuses, answer_of}
use Rattle.build_card.proofs.CardLaws.{order_held}
use Rattle.proved_demands.specs.Demanded.{Passes, PlacementsOf, HasBuild, Settles}

-- ---- what an outcome means, whichever the kind

module _ {kind l budget : ℕ} {es : List Slot} where
  pub means_tells : {v : Verdict} {n : ℕ} → Means kind l es budget (settled v n) → Tells (Build l (map (entry_of kind) es)) v
  means_tells (on_pairs e (pairs.settles t)) = rw e t
  means_tells (on_spans e (spans.settles a b t)) = rw e t

  pub means_unsettled : {n : ℕ} → Means kind l es budget (unsettled n) → (kind ≡ span) × (n ≡ budget) × (budget < placements l es)
  means_unsettled (on_spans e (spans.goes_on a b)) = (e, a, b)
  means_unsettled {n = n} (on_pairs _ h) = elim h [ ]

-- the placements of what settles a card
pub means_placements : {card : List ℕ} {budget : ℕ} {v : Verdict} {n : ℕ}
    → Means (told_by card).kind (told_by card).l (slots_on card) budget (settled v n)
    → PlacementsOf card budget n
means_placements (on_pairs e (pairs.settles t)) = record { on_spans = λ f. absurd (omega (arith, e, f)); on_pairs = λ f. refl }
means_placements (on_spans e (spans.settles a b t)) = record { on_spans = λ f. (a, b); on_pairs = λ f. absurd (omega (arith, e, f)) }

-- ---- what is said, had back from the answer

module _ {n k : ℕ} where
  pub said_sole : (a : Answer Outcome) → given (Sole n k) ≡ answer_of a → (s : List ℕ) × (a ≡ given (settled (sole s) k)) × (n ≡ length s)
  said_sole (given (settled (sole s) j)) e = (s, cc, cc)
  said_sole (given (settled (several s) j)) e = cc
  said_sole (given (settled no_build j)) e = cc
  said_sole (given (unsettled j)) e = cc
  said_sole (refused i j) e = cc

  pub said_several : (a : Answer Outcome) → given (Several n k) ≡ answer_of a
      → (s : List ℕ) × (a ≡ given (settled (several s) k)) × (n ≡ length s)
  said_several (given (settled (several s) j)) e = (s, cc, cc)
  said_several (given (settled (sole s) j)) e = cc
  said_several (given (settled no_build j)) e = cc
  said_several (given (unsettled j)) e = cc
  said_several (refused i j) e = cc

module _ {k : ℕ} where
  pub said_none : (a : Answer Outcome) → given (None k) ≡ answer_of a → a ≡ given (settled no_build k)
  said_none (given (settled no_build j)) e = cc
  said_none (given (settled (sole s) j)) e = cc
  said_none (given (settled (several s) j)) e = cc
  said_none (given (unsettled j)) e = cc
  said_none (refused i j) e = cc

  pub said_unsettled : (a : Answer Outcome) → given (Unsettled k) ≡ answer_of a → a ≡ given (unsettled k)
  said_unsettled (given (unsettled j)) e = cc
  said_unsettled (given (settled (sole s) j)) e = cc
  said_unsettled (given (settled (several s) j)) e = cc
  said_unsettled (given (settled no_build j)) e = cc
  said_unsettled (refused i j) e = cc

pub said_refused : {n p : ℕ} (a : Answer Outcome) → refused n p ≡ answer_of a → a ≡ refused n p
said_refused (refused i j) e = cc
said_refused (given (settled (sole s) j)) e = cc
said_refused (given (settled (several s) j)) e = cc
said_refused (given (settled no_build j)) e = cc
said_refused (given (unsettled j)) e = cc

-- what settles a card is a verdict
pub settles_given : (a : Answer Outcome) → Settles (answer_of a) → (v : Verdict) × (n : ℕ) × (a ≡ given (settled v n))
settles_given a s = ⊎_elim built nobody s
  where
    built : HasBuild (answer_of a) → (v : Verdict) × (n : ℕ) × (a ≡ given (settled v n))
    built (n, k, e) =
        ⊎_elim (λ h. let z = said_sole a (sym h) in (sole z.0, k, z.1)) (λ h. let z = said_several a (sym h) in (several z.0, k, z.1)) e

    nobody : (k : ℕ) × (answer_of a ≡ given (None k)) → (v : Verdict) × (n : ℕ) × (a ≡ given (settled v n))
    nobody (k, h) = (no_build, k, said_none a (sym h))

-- and a verdict settles it
pub verdict_settles : (v : Verdict) (n : ℕ) → Settles (answer_of (given (settled v n)))
verdict_settles (sole s) n = inl (length s, n, inl refl)
verdict_settles (several s) n = inl (length s, n, inr refl)
verdict_settles no_build n = inr (n, refl)

-- ---- what is said holds

module _ {limit budget room : ℕ} {card : List ℕ} where
  pub says_holds : {o : Outcome} → Says limit card budget room (given o) → first (build_tests limit card room) sound ≡ given sound
  says_holds (tells e m) = e

  pub says_means : {o : Outcome} → Says limit card budget room (given o)
      → Means (told_by card).kind (told_by card).l (slots_on card) budget o
  says_means (tells e m) = m

  pub says_refused : {n p : ℕ} → Says limit card budget room (refused n p) → first (build_tests limit card room) sound ≡ refused n p
  says_refused (refuses e) = e

-- the entries of a span card whose tests hold are admitted
pub card_holds : (card : List ℕ) (room : ℕ) → Passes card room → (told_by card).kind ≡ span
    → Hold most_entries (format_for span (told_by card).l (slots_on card)) (slots_on card)
card_holds card room e k = hold_of_kind (holds_reads most_entries card (order_held most_entries card room e)).hold k

-- what a card whose tests hold has: a kind, letters, entries, and words of so many letters
module _ (card : List ℕ) (room : ℕ) (e : Passes card room) where
  reads : Reads most_entries card
  reads = holds_reads most_entries card (order_held most_entries card room e)

  pub card_kind : ((told_by card).kind ≡ pair) ⊎ ((told_by card).kind ≡ span)
  card_kind =
      let kind = (told_by card).kind in
      ⊎_map (eqb-true kind pair) (eqb-true kind span) (either (eqb kind pair) (eqb kind span) reads.hold.a_kind)

  pub card_letters : 0 < (told_by card).l
  card_letters = let b = both _ _ reads.hold.letters in omega (arith, leb-true least_length (told_by card).l b.0)

  pub card_entries : 0 < length (entries_on card)
  card_entries =
      let b = both _ _ reads.hold.count in
      let slots = length_row (slot_of card) 0 (told_by card).m in
      omega (arith, leb-true least_entries (told_by card).m b.0, slots, length-map (slots_on card) (entry_of (told_by card).kind))

  pub card_words : (x : Entry) → In x (entries_on card) → x.word < 4 ^ (told_by card).l
  card_words = entries_fit (told_by card).l (told_by card).kind (slots_on card) fits
    where
      fits : (s : Slot) → In s (slots_on card) → s.word < 4 ^ (told_by card).l
      fits s h =
          let u = in_row (slot_of card) 0 (told_by card).m h in
          rw u.2 (sound_has (told_by card) u.0 (slot_of card u.0) (slots_each (slot_of card) reads.hold u.0 (omega (arith, u.1)))).0

-- the entries of a card that is made of slots are these
pub made_slots : (f : Format) (slots : ℕ → Slot) → slots_on (card_of f slots) ≡ row slots 0 f.m
made_slots f slots =
    rw (card_told f slots)
    (row_same (slot_of (card_of f slots)) slots 0 f.m
    (λ e h. let here : 0 + e ≡ e = omega arith in rw here (card_slot f slots e h)))
