-- The laws of importing that this crate's proofs and the crates above cite. Assumes nothing.
use mathlib.Core.Path.{◌≡◌, refl, sym, ap, ◌∙◌}
use mathlib.Core.Bool.{Bool, true, false, cond}
use mathlib.Core.List.{List, map}
use Prim.Native.Nat.{ℕ, ◌≤◌}
use native.Mathlib.Omega.{arith}
use lib.ListN.{length, take, length-map}
use lib.Seq.{take_all}
use lib.Dec.{eqb}
use borrow.Author.Tests.{eq-eqb}
use Rattle.base_answers.specs.Numbers.{WordLength, Count}
use Rattle.base_answers.specs.Answer.{Answer, given, refused, sound}
use Rattle.base_answers.proofs.Laws.{first_holds, first_refused, first_refused_any, first_given_any, first_value}
use Rattle.card_entries.specs.Slot.{slot_from}
use Rattle.card_entries.specs.Fault.{pair, span, least_length, most_length}
use Rattle.card_entries.specs.Bounds.{least_entries, most_entries, is_within, is_kind}
use Rattle.card_entries.proofs.Laws.{within_both}
use Rattle.card_layout.proofs.CardLaws.{length_card}
use Rattle.card_lists.specs.Lists.{same_length}
use Rattle.card_entries.specs.Hold.{format_for}
use Rattle.card_lists.proofs.Laws.{length_wrong, count_wrong}
use Rattle.card_writer.specs.Writing.{writing, Writes}
use Rattle.card_writer.proofs.WritingLaws.{writing_is, lists_refused}
use Rattle.text_probes.specs.declared.scanning.Outline.{Outline}
use Rattle.text_probes.specs.Lines.{lines_of, line_of, lines_in}
use Rattle.text_probes.specs.Testing.{outline_of, text_tests, scanning, kind_of}
use Rattle.text_probes.specs.Listing.{value_of, one_of, two_of, twos_of}
use Rattle.text_probes.specs.Keeping.{word_kept, one_kept, two_kept, Keeps, closed_for}
use Rattle.text_probes.proofs.SoundLaws.{sound_outline, sound_count}
use Rattle.text_probes.proofs.KeptLaws.{words_kept, twos_kept}
use Rattle.text_import.specs.Importing.{kind_in, letters_in, words_in, ones_in, twos_in, card_in, importing, Imports}
use Rattle.text_import.proofs.SoundCard.{words_many}

-- of a sound text it is what writing its lists answers
pub importing_writes : (limit : ℕ) (text : List ℕ) (room : ℕ) {s : Outline} → scanning text ≡ given s
    → importing limit text room ≡ writing limit (kind_in text) (letters_in text) (words_in text) (ones_in text) (twos_in text) room
unfolding importing
importing_writes limit text room {s} holds =
    first_holds _ _ (text_tests text) (first_given_any (text_tests text) (outline_of (lines_in text)) s sound holds)
    ∙ sym (writing_is limit (kind_in text) (letters_in text) (words_in text) (ones_in text) (twos_in text) room)

-- of any other what its tests do
pub text_refused : (limit : ℕ) (text : List ℕ) (room : ℕ) {n p : ℕ} → scanning text ≡ refused n p → importing limit text room ≡ refused n p
unfolding importing
text_refused limit text room e = first_refused _ _ (text_tests text) (first_refused_any (text_tests text) (outline_of (lines_in text)) sound e)

-- what is given is the card's length
pub card_long : (limit : ℕ) (text : List ℕ) (room : ℕ) {n : ℕ} → importing limit text room ≡ given n → n ≡ length (card_in text)
unfolding importing card_in
card_long limit text room e =
    sym
    (length_card (format_for (kind_in text) (letters_in text) (words_in text)) (slot_from (words_in text) (ones_in text) (twos_in text))
    ∙ first_value _ _ _ e)

module _ (limit : ℕ) (text before : List ℕ) where
  pub import_refused : {n p : ℕ} → scanning text ≡ refused n p → Imports limit text before (refused n p) before
  import_refused e = let says = text_refused limit text (length before) e in record { answer = sym says; bytes = rw says }

  module _ {s : Outline} (holds : scanning text ≡ given s) where
    pub import_sound : {r : Answer ℕ} {after : List ℕ}
        → Writes limit (kind_of s.mark) s.l (words_in text) (ones_in text) (twos_in text) before r after
        → Imports limit text before r after
    unfolding card_in
    import_sound did =
        let shape = sound_outline text holds in
        let own = rw shape at did in
        record {
          answer = own.answer ∙ sym (importing_writes limit text (length before) holds);
          bytes = own.bytes ∙ rw (importing_writes limit text (length before) holds) refl;
        }

-- ---- the rules of a card

pub few_letters : {l : ℕ} → is_within least_length most_length l ≡ true → l ≤ most_length
few_letters {l} e = (within_both least_length most_length l e).1

pub few_entries : {m : ℕ} → is_within least_entries most_entries m ≡ true → m ≤ most_entries
few_entries {m} e = (within_both least_entries most_entries m e).1

pub is_kind_lem : (mark : ℕ) → is_kind (kind_of mark) ≡ true
is_kind_lem mark = go (eqb mark span)
  where
    go : (t : Bool) → is_kind (cond t span pair) ≡ true
    go true = refl
    go false = refl

module _ (limit : ℕ) (text : List ℕ) {s : Outline} (holds : scanning text ≡ given s) where
  words_long : length (words_in text) ≡ s.m
  words_long = words_many text ∙ sym (sound_count text holds)

  pub lists_same : same_length (words_in text) (ones_in text) (twos_in text) ≡ true
  lists_same =
      let words = length-map (lines_in text) (λ x. value_of x.word) in
      let ones = length-map (lines_in text) (λ x. one_of x.listed) in
      let twos = length-map (lines_in text) (λ x. two_of (kind_in text) x.listed) in
      rw (eq-eqb (length (words_in text)) (length (ones_in text)) (words ∙ sym ones))
      (eq-eqb (length (words_in text)) (length (twos_in text)) (words ∙ sym twos))

  pub sound_length : {before : List ℕ} → is_within least_length most_length s.l ≡ false
      → Writes limit (kind_of s.mark) s.l (words_in text) (ones_in text) (twos_in text) before (refused WordLength 0) before
  sound_length e = lists_refused (length_wrong limit (kind_of s.mark) s.l _ _ _ (is_kind_lem s.mark) e)

  pub sound_many : {before : List ℕ} → is_within least_length most_length s.l ≡ true → is_within least_entries limit s.m ≡ false
      → Writes limit (kind_of s.mark) s.l (words_in text) (ones_in text) (twos_in text) before (refused Count 0) before
  sound_many letters e =
      lists_refused (count_wrong limit (kind_of s.mark) s.l _ _ _ (is_kind_lem s.mark) letters lists_same (rw words_long e))

  -- the lists that were kept
  module _ {words ones twos : List ℕ} (keeps : Keeps (lines_in text) s.m words ones twos) where
    all_lines : take s.m (lines_in text) ≡ lines_in text
    all_lines = take_all s.m (lines_in text) (omega (arith, length-map (lines_of text) line_of, sound_count text holds))

    pub sound_written : {before after : List ℕ} {r : Answer ℕ} → s.m ≤ length words → s.m ≤ length ones → s.m ≤ length twos → s.l ≤ most_length
        → Writes limit (kind_of s.mark) s.l (take s.m words) (take s.m ones)
        (closed_for (kind_of s.mark) (take s.m ones) (take s.m twos)) before r after
        → Writes limit (kind_of s.mark) s.l (words_in text) (ones_in text) (twos_in text) before r after
    sound_written g h k short did =
        let mark : s.mark ≡ (outline_of (lines_in text)).mark = ap (λ (t : Outline). t.mark) (sound_outline text holds) in
        let is-words : take s.m words ≡ words_in text = keeps.in_words g ∙ ap (map word_kept) all_lines ∙ words_kept text holds short in
        let is-ones : take s.m ones ≡ ones_in text = keeps.in_ones h ∙ ap (map one_kept) all_lines in
        let is-twos : closed_for (kind_of s.mark) (take s.m ones) (take s.m twos) ≡ twos_in text =
        ap (λ (l : List ℕ). closed_for (kind_of s.mark) l (take s.m twos)) is-ones
        ∙ ap (closed_for (kind_of s.mark) (ones_in text)) (keeps.in_twos k ∙ ap (map two_kept) all_lines)
        ∙ twos_kept text holds (kind_of s.mark) ∙ ap (λ (m : ℕ). twos_of (kind_of m) (lines_in text)) mark in
        rw is-words at (rw is-ones at (rw is-twos at did))
