-- Both round trips of demand 2, over the contracts of the reader and of the writer. `limit` is the most entries that a card may have.
--   read-back           "Entries that the writer accepts read back as themselves": kind, l, m, and each entry by fetch and by the head
--   read-into           and, into lent lists, the lists that were given
--   written-accepted, accepted-written    a card is written exactly where its kind, l, m, lengths and entries hold (`ListsHold`) and
--                       there is room
--   written-again       "an admitted card written again gives its own bytes"
--   again-no-room       and room is all that it can lack
-- Assumes nothing.
use mathlib.Core.Path.{◌≡◌, refl, sym, ap, ◌∙◌}
use mathlib.Core.Bool.{true}
use mathlib.Core.List.{List, ◌++◌}
use Prim.Native.Nat.{ℕ, ◌+◌, ◌≤◌, ◌<◌}
use native.Mathlib.Omega.{arith}
use lib.ListN.{length, take, drop}
use lib.Seq.{take_at}
use Rattle.base_answers.specs.Numbers.{Room}
use Rattle.base_answers.specs.Answer.{Answer, given, refused}
use Rattle.base_lists.specs.Row.{row}
use Rattle.base_lists.proofs.RowLaws.{row_same}
use Rattle.card_entries.specs.declared.Format.{Format}
use Rattle.card_entries.specs.declared.Slot.{Slot}
use Rattle.card_entries.specs.Entry.{entry_of}
use Rattle.card_entries.specs.Slot.{slot_from}
use Rattle.card_entries.proofs.SlotLaws.{word_from, one_from, two_from}
use Rattle.card_layout.specs.Layout.{size_of, slot_of, entry_at}
use Rattle.card_layout.specs.Card.{card_of}
use Rattle.card_layout.proofs.CardLaws.{length_card}
use Rattle.card_layout.proofs.LaidLaws.{card_told}
use Rattle.card_reader.specs.Fetching.{admission, entry_fetch, Lists}
use Rattle.card_reader.specs.Listing.{has_room, Listed}
use Rattle.card_reader.proofs.FetchingLaws.{admission_given, admission_admits, entry_found}
use Rattle.card_reader.proofs.ListingLaws.{room_fits, listed_given, listed_admitted, listed_words, listed_ones, listed_twos}
use Rattle.card_reader.proofs.Steps.{lists_all}
use Rattle.card_entries.specs.Hold.{format_for, ListsHold}
use Rattle.card_reader.proofs.AdmittedLaws.{its_words, its_ones, its_twos, length_its, admitted_size, its_hold}
use Rattle.card_writer.specs.Writing.{Writes}
use Rattle.card_writer.specs.GivesBack.{GivesBack}
use Rattle.card_writer.proofs.WritingLaws.{wrote_accepted, wrote_room, wrote_size, wrote_bytes, wrote_card, wrote_nothing}
use Rattle.card_writer.proofs.ReadBackLaws.{accepted_order, written_entry_is, written_numbers}
use Rattle.card_writer.proofs.AgainLaws.{again_card}

-- the card that the writer made, read
module _ {limit kind l : ℕ} {words ones twos before after : List ℕ} {r : Answer ℕ} {n : ℕ}
    (did : Writes limit kind l words ones twos before r after) (said : r ≡ given n) where
  abbrev made : List ℕ
  made = card_of (format_for kind l words) (slot_from words ones twos)

  -- the card is the first n bytes of the output
  pub made_is : take n after ≡ card_of (format_for kind l words) (slot_from words ones twos)
  made_is =
      ap (take n) (wrote_bytes did said)
      ∙ take_at made (drop (length made) before) n (length_card (format_for kind l words) (slot_from words ones twos) ∙ wrote_size did said)

  made_admitted : admission limit made ≡ given (format_for kind l words)
  made_admitted =
      admission_given limit made (accepted_order kind l words ones twos (wrote_accepted did said))
      ∙ ap given (card_told (format_for kind l words) (slot_from words ones twos))

  made_fetched : (e : ℕ) → e < length words → entry_fetch limit made e ≡ given (entry_of kind (slot_from words ones twos e))
  made_fetched e h =
      entry_found limit made (admission_admits limit made made_admitted) e h ∙ ap given (written_entry_is kind l words ones twos e h)

  made_stepped : Lists limit made 0 (row (λ e. entry_of kind (slot_from words ones twos e)) 0 (length words))
  made_stepped =
      let same = row_same (entry_at made) (λ e. entry_of kind (slot_from words ones twos e)) 0 (length words) (λ e h.
      let here : 0 + e ≡ e = omega arith in
      rw here (written_entry_is kind l words ones twos e h)) in
      rw same at (lists_all limit made made_admitted)

  pub read_back : GivesBack limit kind l words ones twos (take n after)
  read_back = rw made_is (record { admitted = made_admitted; fetched = made_fetched; stepped = made_stepped })

  -- admitted into lent lists that have room, it fills their first slots with the lists that were given
  pub read_into : {a b c a' b' c' : List ℕ} {q : Answer Format} → Listed limit (take n after) a b c q a' b' c'
      → has_room (length words) (length a) (length b) (length c) ≡ true
      → (q ≡ given (format_for kind l words))
      × (take (length words) a' ≡ words) × (take (length words) b' ≡ ones) × (take (length words) c' ≡ twos)
  read_into listed room =
      let has = wrote_accepted did said in
      let numbers = written_numbers kind l words ones twos in
      let told = listed_given listed read_back.admitted (room_fits _ _ _ _ room) in
      let of-card : (number_of : Slot → ℕ) → row (λ e. number_of (slot_of (take n after) e)) 0 (length words)
      ≡ row (λ e. number_of (slot_of made e)) 0 (length words) =
      λ number_of. rw made_is in (
        told,
        listed_words listed told ∙ of-card (λ s. s.word) ∙ numbers (λ s. s.word) words refl (word_from words ones twos),
        listed_ones listed told ∙ of-card (λ s. s.one) ∙ numbers (λ s. s.one) ones has.as_ones (one_from words ones twos),
        listed_twos listed told ∙ of-card (λ s. s.two) ∙ numbers (λ s. s.two) twos has.as_twos (two_from words ones twos),
      )

-- what is written was accepted and had room
pub written_accepted : {limit kind l : ℕ} {words ones twos before after : List ℕ} {r : Answer ℕ} {n : ℕ}
    → Writes limit kind l words ones twos before r after → r ≡ given n
    → ListsHold limit (format_for kind l words) words ones twos × (size_of (length words) ≤ length before)
written_accepted did said = (wrote_accepted did said, wrote_room did said)

-- lists that are accepted are written, where there is room
pub accepted_written : {limit kind l : ℕ} {words ones twos before after : List ℕ} {r : Answer ℕ}
    → Writes limit kind l words ones twos before r after → ListsHold limit (format_for kind l words) words ones twos
    → size_of (length words) ≤ length before
    → r ≡ given (size_of (length words))
accepted_written did has room = (wrote_card did has room).0

-- a card that was admitted into lists, and its lists written
module _ {limit : ℕ} {card a b c a' b' c' : List ℕ} {q : Answer Format} {f : Format}
    (listed : Listed limit card a b c q a' b' c') (told : q ≡ given f)
    {before after : List ℕ} {r : Answer ℕ}
    (did : Writes limit f.kind f.l (take f.m a') (take f.m b') (take f.m c') before r after) where
  abbrev admitted : admission limit card ≡ given f
  admitted = listed_admitted listed told

  -- what was written are the card's own lists
  own_lists :
      Writes limit f.kind f.l (its_words limit card admitted) (its_ones limit card admitted) (its_twos limit card admitted) before r after
  own_lists = rw (listed_words listed told, listed_ones listed told, listed_twos listed told) at did

  own_size : size_of (length (its_words limit card admitted)) ≡ length card
  own_size = ap size_of (length_its limit card admitted) ∙ sym (admitted_size limit card admitted)

  pub written_again : length card ≤ length before → (r ≡ given (length card)) × (after ≡ card ++ drop (length card) before)
  written_again room =
      let wrote = wrote_card own_lists (its_hold limit card admitted) (rw own_size room) in
      rw (own_size, again_card limit card admitted listed.of_bytes) at wrote

  pub again_no_room : length before < length card → (r ≡ refused Room 0) × (after ≡ before)
  again_no_room short = wrote_nothing own_lists (its_hold limit card admitted) (rw own_size short)
