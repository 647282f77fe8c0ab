-- What an imported list became: its card, line by line. Assumes nothing.
use mathlib.Core.Path.{◌≡◌, refl, sym, ap, ◌∙◌}
use mathlib.Core.Logic.{◌↔◌}
use mathlib.Core.List.{List, []}
use Prim.Native.Nat.{ℕ, ◌*◌, ◌≤◌, ◌<◌}
use native.Mathlib.Omega.{arith}
use lib.ListN.{length, get_or, take}
use Rattle.base_answers.specs.Answer.{Answer, given}
use Rattle.base_answers.proofs.Laws.{first_both, first_given_any}
use Rattle.card_entries.specs.declared.Entry.{Entry}
use Rattle.card_entries.specs.declared.Format.{Format}
use Rattle.card_entries.specs.Fault.{pair, span, least_length, most_length}
use Rattle.card_entries.proofs.Allowed.{entry_word}
use Rattle.build_sequence.specs.Build.{letters_of}
use Rattle.card_entries.specs.Bounds.{least_entries}
use Rattle.card_entries.specs.Hold.{format_for, ListsHold}
use Rattle.card_layout.specs.Layout.{told_by, entry_at}
use Rattle.card_entries.proofs.Laws.{within_both}
use Rattle.card_writer.specs.Writing.{Writes}
use Rattle.card_writer.proofs.WritingLaws.{wrote_accepted}
use Rattle.card_writer.proofs.RoundTrip.{made_is}
use Rattle.text_probes.specs.Line.{most_line}
use Rattle.text_probes.specs.Lines.{lines_of, lines_in, line_in}
use Rattle.text_probes.specs.Testing.{line_letters, outline_of, text_tests, scanning}
use Rattle.text_probes.proofs.LineLaws.{fine_is}
use Rattle.text_probes.proofs.LengthLaws.{line_few}
use Rattle.text_probes.proofs.TextLaws.{lines_whole, whole_most}
use Rattle.text_probes.proofs.MarkLaws.{span_marked, pair_marked, pair_unmarked}
use Rattle.text_import.specs.Importing.{kind_in, letters_in, words_in, ones_in, twos_in, card_in, importing, Imports}
use Rattle.text_import.proofs.ImportingLaws.{importing_writes}
use Rattle.text_import.proofs.WordBack.{letters_value}
use Rattle.text_probes.specs.Faults.{HasMark}
use Rattle.text_import.proofs.SoundCard.{slot_for, words_many, told_in, entry_in, own_line, own_text}

module _ {limit : ℕ} {text before after : List ℕ} {r : Answer ℕ} {n : ℕ}
    (did : Imports limit text before r after) (said : r ≡ given n) where
  -- the text is sound
  pub imported_sound : scanning text ≡ given (outline_of (lines_in text))
  unfolding importing
  imported_sound = first_given_any _ _ _ (outline_of (lines_in text)) (first_both _ _ (text_tests text) _ (sym did.answer ∙ said)).0

  -- "Card rules are applied after the text rules": the rest is the writer's
  pub imported_writes : Writes limit (kind_in text) (letters_in text) (words_in text) (ones_in text) (twos_in text) before r after
  unfolding card_in
  imported_writes =
      let same = importing_writes limit text (length before) imported_sound in
      record { answer = did.answer ∙ same; bytes = did.bytes ∙ rw same refl }

  pub imported_accepted : ListsHold limit (format_for (kind_in text) (letters_in text) (words_in text)) (words_in text) (ones_in text) (twos_in text)
  imported_accepted = wrote_accepted imported_writes said

  -- "Import turns a list into a card": the first n bytes of the output
  pub imported_card : take n after ≡ card_in text
  unfolding card_in
  imported_card = made_is imported_writes said

  imported_told : told_by (take n after) ≡ told_by (card_in text)
  imported_told = ap told_by imported_card

  -- ---- its kind, l and m

  -- "one entry a line"
  pub same_count : (told_by (take n after)).m ≡ length (lines_of text)
  same_count = ap (λ (f : Format). f.m) (imported_told ∙ told_in text) ∙ words_many text

  letters_told : (told_by (take n after)).l ≡ letters_in text
  letters_told = ap (λ (f : Format). f.l) (imported_told ∙ told_in text)

  -- each word has l letters
  pub same_letters : (e : ℕ) → e < length (lines_of text) → line_letters (line_in text e) ≡ (told_by (take n after)).l
  same_letters e h = (own_line text imported_sound e h).letters ∙ sym letters_told

  some_line : 0 < length (lines_of text)
  some_line = omega (arith, (within_both least_entries limit (length (words_in text)) imported_accepted.hold.count).0, words_many text)

  -- "l comes from the first word."
  pub first_letters : (told_by (take n after)).l ≡ line_letters (line_in text 0)
  first_letters = sym (same_letters 0 some_line)

  kind_told : (told_by (take n after)).kind ≡ kind_in text
  kind_told = ap (λ (f : Format). f.kind) (imported_told ∙ told_in text)

  -- "A list with any comma is a pair card, with any hyphen a span card, with neither a pair card."
  pub span_if_hyphen : ((told_by (take n after)).kind ≡ span) ↔ HasMark text span
  span_if_hyphen = rw kind_told (span_marked text imported_sound)

  pub pair_if_comma : HasMark text pair → (told_by (take n after)).kind ≡ pair
  pair_if_comma has = kind_told ∙ pair_marked text imported_sound has

  pub pair_if_no_hyphen : ((told_by (take n after)).kind ≡ pair) ↔ (HasMark text span → ⊥)
  pair_if_no_hyphen = rw kind_told (pair_unmarked text imported_sound)

  -- ---- its words

  -- entry e has the word of line e, letter by letter
  pub same_words : (e : ℕ) → e < length (lines_of text) → letters_of (told_by (take n after)).l (entry_at (take n after) e).word ≡ (line_in text e).word
  unfolding slot_for
  same_words e h =
      let word = ap (λ (x : Entry). x.word) (entry_in text e h) ∙ entry_word (kind_in text) (slot_for (kind_in text) (line_in text e)) in
      ap (λ (l : ℕ). letters_of l (entry_at (take n after) e).word) (sym (same_letters e h))
      ∙ ap (λ (c : List ℕ). letters_of (line_letters (line_in text e)) (entry_at c e).word) imported_card
      ∙ ap (λ (w : ℕ). letters_of (line_letters (line_in text e)) w) word
      ∙ letters_value (line_in text e).word (own_line text imported_sound e h).fine.codes

  -- ---- its length

  line_short : (e : ℕ) → e < length (lines_of text) → length (get_or (lines_of text) e []) ≤ most_line
  line_short e h =
      let own = own_line text imported_sound e h in
      let few = (within_both least_length most_length (letters_in text) imported_accepted.hold.letters).1 in
      omega (
        arith,
        ap length (own_text text imported_sound e h),
        line_few (line_in text e) (fine_is (line_in text e) own.fine) (omega (arith, own.letters)),
      )

  -- no longer list is imported
  pub imported_short : length text ≤ most_line * limit
  imported_short =
      let most = whole_most most_line (lines_of text) line_short in
      let many = (within_both least_entries limit (length (words_in text)) imported_accepted.hold.count).1 in
      omega (arith, ap length (lines_whole text), words_many text)
