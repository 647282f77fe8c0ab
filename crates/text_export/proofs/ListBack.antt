-- The list of an admitted card is sound, and its lines stand for the card's own entries. Assumes nothing.
use mathlib.Core.Path.{◌≡◌, sym, ap, ◌∙◌}
use mathlib.Core.Logic.{⊎_elim}
use mathlib.Core.Bool.{true}
use mathlib.Core.List.{List, [], map}
use Prim.Native.Nat.{ℕ, ◌+◌, ◌≤◌, ◌<◌}
use native.Mathlib.Omega.{arith}
use lib.ListN.{length, get_or}
use lib.Dec.{eqb}
use borrow.Author.Tests.{eqb-true}
use Rattle.base_answers.specs.Answer.{given}
use Rattle.base_lists.specs.Row.{row}
use Rattle.base_lists.proofs.RowLaws.{length_row, row_at, row_same, map_row}
use Rattle.base_lists.proofs.TestLaws.{either}
use Rattle.card_entries.specs.declared.Slot.{Slot}
use Rattle.card_entries.specs.Fault.{pair, span}
use Rattle.build_sequence.proofs.LetterLaws.{length_letters}
use Rattle.card_layout.specs.Layout.{told_by, slot_of}
use Rattle.card_reader.specs.Fetching.{admission}
use Rattle.card_reader.proofs.AdmittedLaws.{its_reads, its_words, its_ones, its_twos}
use Rattle.text_probes.specs.Line.{Line, most_number, fine}
use Rattle.text_probes.specs.Lines.{lines_of, line_of, lines_in, line_in}
use Rattle.text_probes.specs.Testing.{line_mark, line_letters, outline_of, scanning}
use Rattle.text_probes.specs.Listing.{value_of, one_of, two_of, twos_of}
use Rattle.text_probes.proofs.TextLaws.{lines_many}
use Rattle.text_probes.proofs.MarkLaws.{span_marked, pair_unmarked}
use Rattle.text_import.specs.Importing.{kind_in, letters_in, words_in, ones_in, twos_in}
use Rattle.text_import.proofs.WordBack.{value_letters}
use Rattle.text_import.proofs.SoundCard.{own_line}
use Rattle.text_export.specs.Exporting.{listed_for, line_for, list_of}
use Rattle.text_export.proofs.LinesBack.{Fines, read_back, Agreeing, text_sound}
use Rattle.text_export.proofs.EntryBack.{Back}
use Rattle.text_export.proofs.AdmittedLines as its

-- a text stands for this kind, these letters of a word and these three lists
pub record StandsFor (text : List ℕ) (kind l : ℕ) (words ones twos : List ℕ) : Type 0 where
  pub same_kind : kind_in text ≡ kind
  pub same_letters : letters_in text ≡ l
  pub same_words : words_in text ≡ words
  pub same_ones : ones_in text ≡ ones
  pub same_twos : twos_in text ≡ twos

module _ (limit : ℕ) (few : limit ≤ most_number) (card : List ℕ) (admitted : admission limit card ≡ given (told_by card)) where
  abbrev m : ℕ
  m = (told_by card).m

  abbrev kind : ℕ
  kind = (told_by card).kind

  abbrev l : ℕ
  l = (told_by card).l

  abbrev line_at : ℕ → Line
  line_at e = line_for kind l (slot_of card e)

  abbrev some_entry : 0 < m
  some_entry = (its.count limit few card admitted).0

  abbrev back : (e : ℕ) → e < m → Back kind (slot_of card e) (listed_for kind (slot_of card e))
  back = its.back limit few card admitted

  abbrev line_fine : (e : ℕ) → e < m → fine (line_at e) ≡ true
  line_fine = its.line_fine limit few card admitted

  many : length (row line_at 0 m) ≡ m
  many = length_row line_at 0 m

  row_is : (e : ℕ) → e < m → get_or (row line_at 0 m) e (line_of []) ≡ line_at e
  row_is e h = let here : 0 + e ≡ e = omega arith in rw here at (row_at line_at (line_of []) 0 m e h)

  fines : Fines (row line_at 0 m)
  fines i h = let short : i < m = omega (arith, many) in rw (row_is i short) (line_fine i short)

  agreeing : (i : ℕ) → i < length (row line_at 0 m) → Agreeing kind l (get_or (row line_at 0 m) i (line_of []))
  agreeing i h =
      let short : i < m = omega (arith, many) in
      rw (row_is i short)
      (record { mark = (back i short).mark; letters = length_letters l (slot_of card i).word; no_zero = (back i short).no_zero })

  lines_are : lines_in (list_of card) ≡ row line_at 0 m
  lines_are = read_back (row line_at 0 m) fines

  -- the list is sound
  pub listed_sound : scanning (list_of card) ≡ given (outline_of (lines_in (list_of card)))
  listed_sound = text_sound kind l (row line_at 0 m) fines agreeing (omega (arith, many, some_entry))

  -- each line is that of its entry
  pub line_listed : (e : ℕ) → e < (told_by card).m → line_in (list_of card) e ≡ line_for (told_by card).kind (told_by card).l (slot_of card e)
  line_listed e h = ap (λ (xs : List Line). get_or xs e (line_of [])) lines_are ∙ row_is e h

  listed_many : length (lines_of (list_of card)) ≡ m
  listed_many = sym (lines_many (list_of card)) ∙ ap length lines_are ∙ many

  letters_same : letters_in (list_of card) ≡ l
  letters_same =
      sym (own_line (list_of card) listed_sound 0 (omega (arith, listed_many, some_entry))).letters
      ∙ ap line_letters (line_listed 0 some_entry) ∙ length_letters l (slot_of card 0).word

  kind_same : kind_in (list_of card) ≡ kind
  kind_same = ⊎_elim of_pair of_span (either (eqb kind pair) (eqb kind span) (its_reads limit card admitted).hold.a_kind)
    where
      of_span : eqb kind span ≡ true → kind_in (list_of card) ≡ kind
      of_span q =
          let is : kind ≡ span = eqb-true kind span q in
          (span_marked (list_of card) listed_sound).1 (record {
            line = 0;
            within = omega (arith, listed_many, some_entry);
            marked = ap line_mark (line_listed 0 some_entry) ∙ (back 0 some_entry).spanned is;
          })
          ∙ sym is

      of_pair : eqb kind pair ≡ true → kind_in (list_of card) ≡ kind
      of_pair q =
          let is : kind ≡ pair = eqb-true kind pair q in
          (pair_unmarked (list_of card) listed_sound).1 (λ has.
          let there : has.line < m = omega (arith, listed_many, has.within) in
          let own : line_mark (line_at has.line) ≡ span = ap line_mark (sym (line_listed has.line there)) ∙ has.marked in
          ⊎_elim (λ z. omega arith) (λ z. omega arith) (back has.line there).mark)
          ∙ sym is

  numbers_same : (f : Line → ℕ) (g : Slot → ℕ) → ((e : ℕ) → e < m → f (line_at e) ≡ g (slot_of card e))
      → map f (lines_in (list_of card)) ≡ row (λ e. g (slot_of card e)) 0 m
  numbers_same f g same =
      ap (map f) lines_are ∙ map_row f line_at 0 m
      ∙ row_same (λ i. f (line_at i)) (λ e. g (slot_of card e)) 0 m (λ i h. let here : 0 + i ≡ i = omega arith in rw here (same i h))

  words_same : words_in (list_of card) ≡ its_words limit card admitted
  words_same =
      numbers_same (λ x. value_of x.word) (λ s. s.word) (λ e h.
      value_letters l (slot_of card e).word (its.word_fits limit few card admitted e h))

  ones_same : ones_in (list_of card) ≡ its_ones limit card admitted
  ones_same = numbers_same (λ x. one_of x.listed) (λ s. s.one) (λ e h. (back e h).one)

  twos_same : twos_in (list_of card) ≡ its_twos limit card admitted
  twos_same =
      ap (λ (k : ℕ). twos_of k (lines_in (list_of card))) kind_same
      ∙ numbers_same (λ x. two_of kind x.listed) (λ s. s.two) (λ e h. (back e h).two)

  -- the list stands for the card's kind, l and entries
  pub listed_stands : StandsFor (list_of card) kind l (its_words limit card admitted) (its_ones limit card admitted) (its_twos limit card admitted)
  listed_stands = record {
    same_kind = kind_same;
    same_letters = letters_same;
    same_words = words_same;
    same_ones = ones_same;
    same_twos = twos_same;
  }
