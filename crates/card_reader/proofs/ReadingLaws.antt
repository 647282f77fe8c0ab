-- The laws of the reading order that this crate's proofs cite: what each test that fails or holds says of the whole. No contract cites
-- this file. Assumes nothing.
use mathlib.Core.Path.{◌≡◌, sym, ◌∙◌}
use mathlib.Core.Bool.{true, false}
use mathlib.Core.List.{List, [], ◌∷◌}
use Prim.Native.Nat.{ℕ, ◌+◌, ◌*◌, ◌≤◌, ◌<◌}
use native.Mathlib.Omega.{arith}
use lib.ListN.{length}
use borrow.Author.Tests.{le-leb, lt-leb, leb-true, eqb-true, eq-eqb, ne_eqb}
use Rattle.base_answers.specs.Numbers.{Short, Spare, Size}
use Rattle.base_answers.specs.Answer.{given, refused, sound, test, first}
use Rattle.base_lists.specs.Row.{in_turn}
use Rattle.base_answers.proofs.Laws.{first_pass, first_fail, first_last, first_passed, first_holds, first_refused, first_both}
use Rattle.base_answers.proofs.Laws.{turn_holds, turn_refused, turns_end, told_holds, told_refused}
use Rattle.card_block.specs.Block.{block_bytes, block_at, block_tests, fetch_tests}
use Rattle.card_block.proofs.Laws.{block_refused, block_held, part_none, part_holds, part_block, part_length}
use Rattle.card_entries.specs.declared.Format.{Format}
use Rattle.card_entries.specs.Fault.{least_length, most_length}
use Rattle.card_entries.proofs.Laws.{within_both}
use Rattle.card_layout.specs.Layout.{form_of, format_of, told_by, entry_blocks, size_of, entries_before, entries_in_block, head_spare, slots_spare, the_form}
use Rattle.card_entries.specs.Bounds.{least_entries, is_within, is_kind}
use Rattle.card_reader.specs.Reading.{field_tests, head_tests, slots_tests, later_tests, reading_order}

-- ---- the fields of block 0

module _ (limit : ℕ) (b : List ℕ) where
  pub fields_sound : form_of b ≡ the_form → is_kind (format_of b).kind ≡ true → is_within least_length most_length (format_of b).l ≡ true
      → is_within least_entries limit (format_of b).m ≡ true → head_spare b ≡ true → first (field_tests limit b) sound ≡ given sound
  unfolding field_tests
  fields_sound form kind letters count spare =
      first_pass _ _ _ _ _ (eq-eqb _ _ form)
      ∙ first_pass _ _ _ _ _ kind
      ∙ first_pass _ _ _ _ _ letters
      ∙ first_pass _ _ _ _ _ count
      ∙ first_last _ _ _ _ spare

-- ---- 1, and block 0

module _ (limit : ℕ) (card : List ℕ) where
  pub too_short : length card < block_bytes → first (head_tests limit card) sound ≡ refused Short 0
  unfolding head_tests
  too_short h = first_fail _ _ _ _ _ (lt-leb _ _ h)

  module _ (there : block_bytes ≤ length card) where
    pub head_refused : (first (fetch_tests card 0) sound ≡ given sound → ⊥)
        → first (head_tests limit card) sound ≡ first (fetch_tests card 0) sound
    unfolding head_tests
    head_refused refuses = first_pass _ _ _ _ _ (le-leb _ _ there) ∙ block_refused card 0 (omega arith) _ refuses

    pub head_held : first (fetch_tests card 0) sound ≡ given sound
        → first (field_tests limit (block_at card 0)) sound ≡ first (head_tests limit card) sound
    unfolding head_tests
    head_held e = sym (first_pass _ _ _ _ _ (le-leb _ _ there) ∙ block_held card 0 (omega arith) _ sound e)

-- ---- a later block

-- what the code hands on, and what it stands for
module _ {b block : List ℕ} {n count : ℕ} (eb : b ≡ block) (en : n ≡ count) where
  pub slots_same : (f : Format) {e before : ℕ} → e ≡ before → first (slots_tests f b e n) sound ≡ first (slots_tests f block before count) sound
  slots_same f ee = cc

  pub spare_same : slots_spare b n ≡ slots_spare block count
  spare_same = cc

module _ (f : Format) (card : List ℕ) (k : ℕ) (there : block_bytes * k + block_bytes ≤ length card) where
  pub later_refused : (first (fetch_tests card k) sound ≡ given sound → ⊥)
      → first (later_tests f card k) sound ≡ first (fetch_tests card k) sound
  unfolding later_tests
  later_refused refuses = block_refused card k there _ refuses

  module _ (held : first (fetch_tests card k) sound ≡ given sound) where
    pub slot_refused : {n p : ℕ} → first (slots_tests f (block_at card k) (entries_before k) (entries_in_block f.m k)) sound ≡ refused n p
        → first (later_tests f card k) sound ≡ refused n p
    unfolding later_tests
    slot_refused e = block_held card k there _ sound held ∙ first_refused _ _ _ e

    module _ (slots : first (slots_tests f (block_at card k) (entries_before k) (entries_in_block f.m k)) sound ≡ given sound) where
      -- all but the spare bytes are right
      slots_right : first (later_tests f card k) sound ≡ first (test (slots_spare (block_at card k) (entries_in_block f.m k)) Spare k ∷ []) sound
      unfolding later_tests
      slots_right = block_held card k there _ sound held ∙ first_holds _ _ _ slots

      pub later_not_spare : slots_spare (block_at card k) (entries_in_block f.m k) ≡ false → first (later_tests f card k) sound ≡ refused Spare k
      later_not_spare h = slots_right ∙ first_fail _ _ _ _ _ h

      pub later_sound : slots_spare (block_at card k) (entries_in_block f.m k) ≡ true → first (later_tests f card k) sound ≡ given sound
      later_sound h = slots_right ∙ first_last _ _ _ _ h

-- ---- the whole order

module _ (limit : ℕ) (card : List ℕ) where
  pub reading_stops : {n p : ℕ} → first (head_tests limit card) sound ≡ refused n p → first (reading_order limit card) sound ≡ refused n p
  unfolding reading_order
  reading_stops e = first_refused _ _ _ e

  module _ (head : first (head_tests limit card) sound ≡ given sound) where
    pub size_wrong : (length card ≡ size_of (told_by card).m → ⊥) → first (reading_order limit card) sound ≡ refused Size 0
    unfolding reading_order
    size_wrong n = first_holds _ _ _ head ∙ first_fail _ _ _ _ _ (ne_eqb _ _ n)

    pub reading_goes_on : length card ≡ size_of (told_by card).m
        → first (in_turn (later_tests (told_by card) card) 1 (entry_blocks (told_by card).m)) sound ≡ first (reading_order limit card) sound
    unfolding reading_order
    reading_goes_on e = sym (first_holds _ _ _ head ∙ first_pass _ _ _ _ _ (eq-eqb _ _ e))

-- ---- what a head, and what a card that is admitted, has

-- fields that hold
pub record FieldsHold (limit : ℕ) (b : List ℕ) : Type 0 where
  pub form : form_of b ≡ the_form
  pub a_kind : is_kind (format_of b).kind ≡ true
  pub letters : is_within least_length most_length (format_of b).l ≡ true
  pub count : is_within least_entries limit (format_of b).m ≡ true
  pub spare : head_spare b ≡ true

pub fields_had : (limit : ℕ) (b : List ℕ) → first (field_tests limit b) sound ≡ given sound → FieldsHold limit b
unfolding field_tests
fields_had limit b e =
    let form = first_passed _ _ _ _ _ _ e in
    let a_kind = first_passed _ _ _ _ _ _ form.1 in
    let letters = first_passed _ _ _ _ _ _ a_kind.1 in
    let count = first_passed _ _ _ _ _ _ letters.1 in
    let spare = first_passed _ _ _ _ _ _ count.1 in
    record { form = eqb-true _ _ form.0; a_kind = a_kind.0; letters = letters.0; count = count.0; spare = spare.0 }

pub record HeadHolds (limit : ℕ) (card : List ℕ) : Type 0 where
  pub there : block_bytes ≤ length card
  pub letters : (told_by card).l ≤ most_length
  pub least : least_entries ≤ (told_by card).m
  pub most : (told_by card).m ≤ limit

pub head_has : (limit : ℕ) (card : List ℕ) → first (head_tests limit card) sound ≡ given sound → HeadHolds limit card
unfolding head_tests
head_has limit card e =
    let short = first_passed _ _ _ _ _ _ e in
    let fields = fields_had limit (block_at card 0) (first_both _ _ (block_tests (block_at card 0) 0) _ short.1).1 in
    let m-in = within_both least_entries limit _ fields.count in
    record {
      there = leb-true _ _ short.0;
      letters = (within_both least_length most_length _ fields.letters).1;
      least = m-in.0;
      most = m-in.1;
    }

-- the size of a card that holds
pub size_had : (limit : ℕ) (card : List ℕ) → first (reading_order limit card) sound ≡ given sound → length card ≡ size_of (told_by card).m
unfolding reading_order
size_had limit card e = eqb-true _ _ (first_passed _ _ _ _ _ _ (first_both _ _ (head_tests limit card) _ e).1).0

-- ---- what the check applies by itself

-- to tests in turn
pub ruleset turns = (turn_holds, turn_refused, turns_end, told_holds, told_refused)

-- to the part of a block that is fetched
pub ruleset parts = (part_none, part_holds, part_block, part_length)

-- to block 0, to a later block, and to the whole order
pub ruleset heads = (parts, too_short, head_refused, head_held)

pub ruleset laters = (parts, told_holds, told_refused, slots_same, spare_same, later_refused, slot_refused, later_sound, later_not_spare)

pub ruleset cards = (told_holds, told_refused, head_has, reading_stops, size_wrong, reading_goes_on)
