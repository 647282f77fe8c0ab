-- The laws of admitting, of entry fetch and of a head's step that this crate's proofs and the crates above cite. Assumes nothing.
use mathlib.Core.Path.{◌≡◌, refl, sym, ap, ◌∙◌}
use mathlib.Core.List.{List}
use Prim.Native.Nat.{ℕ, ◌+◌, ◌*◌, ◌/◌, ◌≤◌, ◌<◌}
use lib.ListN.{length}
use borrow.Author.Tests.{lt-ltb, le-ltb}
use Rattle.base_answers.specs.declared.Refusal.{Refusal}
use Rattle.base_answers.specs.Numbers.{Absent}
use Rattle.base_answers.specs.Answer.{given, refused, sound, first, number_of, place_of, says}
use Rattle.base_answers.proofs.Laws.{first_fail, first_last, first_holds, first_refused, first_both, first_value, first_given_any, first_refused_any}
use Rattle.base_answers.proofs.Laws.{said_given, said_refused, told_holds, told_refused}
use Rattle.std.specs.Prelude.{Result, Ok, Err}
use Rattle.card_block.specs.Block.{block_bytes}
use Rattle.card_entries.specs.declared.Format.{Format}
use Rattle.card_layout.specs.Layout.{told_by, per_block, size_of, entry_at}
use Rattle.card_reader.specs.Reading.{head_tests, reading_order}
use Rattle.card_reader.specs.Fetching.{admission, entry_fetch, more, end, next_at, stepping}
use Rattle.card_layout.proofs.Laws.{entry_there}
use Rattle.card_reader.proofs.ReadingLaws.{HeadHolds, head_has, size_had}

-- ---- what a card that is admitted has

pub record Admits (limit : ℕ) (card : List ℕ) (f : Format) : Type 0 where
  pub told : f ≡ told_by card
  pub order : first (reading_order limit card) sound ≡ given sound
  pub head : HeadHolds limit card
  pub size : length card ≡ size_of (told_by card).m

module _ {limit : ℕ} {card : List ℕ} where
  pub order_admits : first (reading_order limit card) sound ≡ given sound → Admits limit card (told_by card)
  unfolding reading_order
  order_admits e =
      let head = (first_both _ _ (head_tests limit card) _ e).0 in
      record { told = refl; order = e; head = head_has limit card head; size = size_had limit card e }

module _ (limit : ℕ) (card : List ℕ) where
  pub admission_given : first (reading_order limit card) sound ≡ given sound → admission limit card ≡ given (told_by card)
  unfolding admission
  admission_given e = first_given_any (reading_order limit card) sound sound (told_by card) e

  pub admission_refused : {n p : ℕ} → first (reading_order limit card) sound ≡ refused n p → admission limit card ≡ refused n p
  unfolding admission
  admission_refused e = first_refused_any (reading_order limit card) sound (told_by card) e

  pub order_refused : {n p : ℕ} → admission limit card ≡ refused n p → first (reading_order limit card) sound ≡ refused n p
  unfolding admission
  order_refused e = first_refused_any (reading_order limit card) (told_by card) sound e

  pub admission_admits : {f : Format} → admission limit card ≡ given f → Admits limit card f
  unfolding admission
  admission_admits {f} e =
      let order = first_given_any (reading_order limit card) (told_by card) f sound e in
      let had = order_admits order in
      record { told = sym (first_value (reading_order limit card) (told_by card) f e); order = order; head = had.head; size = had.size }

-- what a result says of the card
module _ (limit : ℕ) (card : List ℕ) {r : Result Format Refusal} (e : says r ≡ admission limit card) where
  pub told_admitted : {f : Format} → r ≡ Ok f → Admits limit card f
  told_admitted q = admission_admits limit card (said_given (λ a. a) e q)

  pub told_not_admitted : {n : Refusal} → r ≡ Err n → admission limit card ≡ refused (number_of n) (place_of n)
  told_not_admitted = said_refused (λ a. a) e

-- ---- an entry and a step

module _ (limit : ℕ) (card : List ℕ) where
  pub entry_refused : (i : ℕ) {n p : ℕ} → admission limit card ≡ refused n p → entry_fetch limit card i ≡ refused n p
  unfolding entry_fetch
  entry_refused i e = first_refused _ _ (reading_order limit card) (order_refused limit card e)

  pub step_refused : (at : ℕ) {n p : ℕ} → admission limit card ≡ refused n p → stepping limit card at ≡ refused n p
  unfolding stepping
  step_refused at e = first_refused_any (reading_order limit card) sound (next_at card at) (order_refused limit card e)

  module _ {f : Format} (has : Admits limit card f) (i : ℕ) where
    -- the block of an entry stands on the card
    pub entry_on_card : i < f.m → block_bytes * (1 + i / per_block) + block_bytes ≤ length card
    entry_on_card h = entry_there (told_by card).m i (length card) (rw has.told at h) has.size

    pub entry_found : i < f.m → entry_fetch limit card i ≡ given (entry_at card i)
    unfolding entry_fetch
    entry_found h = first_holds _ _ _ has.order ∙ first_last _ _ _ _ (lt-ltb _ _ (rw has.told at h))

    pub entry_absent : f.m ≤ i → entry_fetch limit card i ≡ refused Absent 0
    unfolding entry_fetch
    entry_absent h = first_holds _ _ _ has.order ∙ first_fail _ _ _ _ _ (le-ltb _ _ (rw has.told at h))

    pub step_more : i < f.m → stepping limit card i ≡ given (more (entry_at card i) (i + 1))
    unfolding stepping next_at
    step_more h =
        first_given_any (reading_order limit card) sound sound (next_at card i) has.order ∙ rw (lt-ltb i (told_by card).m (rw has.told at h))

    pub step_end : f.m ≤ i → stepping limit card i ≡ given end
    unfolding stepping next_at
    step_end h =
        first_given_any (reading_order limit card) sound sound (next_at card i) has.order ∙ rw (le-ltb i (told_by card).m (rw has.told at h))

-- ---- what the check applies by itself

-- to an admission, to an entry's fetch, and to a step
pub ruleset admissions = (told_holds, told_refused, order_admits, admission_given, admission_refused)

pub ruleset fetches = (told_admitted, told_not_admitted, entry_on_card, entry_found, entry_absent, entry_refused)

pub ruleset steps = (told_admitted, told_not_admitted, entry_on_card, step_more, step_end, step_refused)
