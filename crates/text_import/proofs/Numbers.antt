-- Which numbers importing refuses by: those of the text rules, and of the card's 6, 7, 11 and 12. The kind comes from the marks, the three lists
-- from the same lines, and each word has the l of the first, so that 5, 13 and 10 do not occur; nor does 12 where there is room for every card.
-- Assumes nothing.
use mathlib.Core.Path.{◌≡◌, refl, sym, ap, ◌∙◌}
use mathlib.Core.List.{List}
use Prim.Native.Nat.{ℕ, ◌^◌, ◌≤◌, ◌<◌}
use native.Mathlib.Omega.{arith}
use lib.ListN.{length}
use Rattle.base_answers.specs.Numbers.{Room}
use Rattle.base_answers.specs.Answer.{Answer, given, refused}
use Rattle.base_answers.proofs.Only.{Only, only_refused}
use Rattle.base_answers.proofs.Laws.{refusal_same}
use Rattle.card_entries.specs.declared.Slot.{Slot}
use Rattle.card_entries.specs.Slot.{slot_from}
use Rattle.card_layout.specs.Layout.{size_of}
use Rattle.card_lists.specs.Lists.{lists_tests}
use Rattle.card_lists.proofs.Laws.{fit_only}
use Rattle.card_writer.proofs.RefusalNumbers.{writing_only, writing_never}
use Rattle.text_probes.specs.declared.scanning.Outline.{Outline}
use Rattle.text_probes.specs.Lines.{lines_of, lines_in, line_in}
use Rattle.text_probes.specs.Testing.{outline_of, scanning}
use Rattle.text_probes.proofs.RefusalNumbers.{text_only}
use Rattle.text_import.specs.Importing.{
  kind_in,
  letters_in,
  words_in,
  ones_in,
  twos_in,
  importing,
  RefusesBy,
  no_text,
  mixed,
  uneven,
  place_0,
  letters,
  count,
  places,
  no_room,
}
use Rattle.text_import.proofs.WordBack.{value_below}
use Rattle.text_import.proofs.SoundCard.{slot_for, words_many, lists_slot, own_line}
use Rattle.text_import.proofs.ImportingLaws.{importing_writes, text_refused, is_kind_lem, lists_same}

-- ---- the card of a sound text

module _ (text : List ℕ) {s : Outline} (sounds : scanning text ≡ given s) where
  -- each word is below 4^l: it is the value of l codes
  word_below : (e : ℕ) → e < length (lines_of text) → (slot_from (words_in text) (ones_in text) (twos_in text) e).word < 4 ^ letters_in text
  unfolding slot_for
  word_below e h =
      let own = own_line text sounds e h in
      let is = ap (λ (t : Slot). t.word) (lists_slot text e h) in
      rw is (rw own.letters at (value_below (line_in text e).word own.fine.codes))

  card_only : (limit : ℕ) → Only RefusesBy (lists_tests limit (kind_in text) (letters_in text) (words_in text) (ones_in text) (twos_in text))
  card_only limit =
      fit_only limit (kind_in text) (letters_in text) (words_in text) (ones_in text) (twos_in text) (is_kind_lem (outline_of (lines_in text)).mark)
      (lists_same limit text sounds) (λ e h. word_below e (omega (arith, h, words_many text))) letters count places

-- ---- importing

-- 5, 10 and 13 do not occur
pub refused_numbers : (limit : ℕ) (text : List ℕ) (room : ℕ) {n p : ℕ} → importing limit text room ≡ refused n p → RefusesBy n
refused_numbers limit text room {n} {p} e = go (scanning text) refl
  where
    go : (a : Answer Outline) → scanning text ≡ a → RefusesBy n
    go (refused q k) own =
        let same = text_refused limit text room own in
        only_refused {P = RefusesBy} (text_only no_text mixed uneven place_0 text) (outline_of (lines_in text)) (own ∙ refusal_same (sym same ∙ e))
    go (given s) own = writing_only _ _ _ _ _ _ _ (card_only text own limit) no_room (sym (importing_writes limit text room own) ∙ e)

-- with room for the longest card 12 does not either
pub importing_never : (limit : ℕ) (text : List ℕ) (room : ℕ) → size_of limit ≤ room → {p : ℕ} → importing limit text room ≡ refused Room p → ⊥
importing_never limit text room enough {p} e = go (scanning text) refl
  where
    go : (a : Answer Outline) → scanning text ≡ a → ⊥
    go (refused q k) own =
        let same : q ≡ Room = cc (text_refused limit text room own) in
        only_refused {P = λ n. n ≡ Room → ⊥}
        (text_only (λ z. omega arith) (λ z. omega arith) (λ z. omega arith) (λ z. omega arith) text) (outline_of (lines_in text)) own same
    go (given s) own = writing_never _ _ _ _ _ _ _ enough (sym (importing_writes limit text room own) ∙ e)
