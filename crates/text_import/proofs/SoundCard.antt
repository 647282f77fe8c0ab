-- The card of a sound text, entry by entry: entry e is that of line e. Assumes nothing.
use mathlib.Core.Path.{◌≡◌, refl, sym, ap, ◌∙◌}
use mathlib.Core.Bool.{false}
use mathlib.Core.List.{List, [], map}
use Prim.Native.Nat.{ℕ, ◌<◌}
use native.Mathlib.Omega.{arith}
use lib.ListN.{length, get_or, length-map}
use Rattle.base_answers.specs.Answer.{given}
use Rattle.card_entries.specs.declared.Slot.{Slot}
use Rattle.card_entries.specs.Slot.{slot_from}
use Rattle.card_entries.specs.Entry.{entry_of}
use Rattle.card_entries.proofs.SlotLaws.{slot_from_lem}
use Rattle.card_layout.specs.Layout.{told_by, slot_of, entry_at}
use Rattle.card_layout.specs.Card.{card_of}
use Rattle.card_layout.proofs.CardLaws.{card_slot}
use Rattle.card_layout.proofs.LaidLaws.{card_told}
use Rattle.card_entries.specs.Hold.{format_for}
use Rattle.card_writer.proofs.ReadBackLaws.{written_entry_is}
use Rattle.text_probes.specs.declared.line.Marked.{Marked}
use Rattle.text_probes.specs.declared.line.Marked.TheVariants.{Bare, Two, Run}
use Rattle.text_probes.specs.declared.scanning.Outline.{Outline}
use Rattle.text_probes.specs.Line.{Line, line_text}
use Rattle.text_probes.specs.Lines.{lines_of, line_of, lines_in, line_in}
use Rattle.text_probes.specs.Testing.{mark_of, has_zero, line_mark, line_letters, scanning, kind_of}
use Rattle.text_probes.specs.Listing.{value_of, one_of, two_of}
use Rattle.text_probes.proofs.LineLaws.{IsFine}
use Rattle.text_probes.proofs.SoundLaws.{sound_outline, sound_line, line_text_lem}
use Rattle.text_probes.proofs.TextLaws.{map_at, line_in_lem, lines_many}
use Rattle.text_import.specs.Importing.{kind_in, letters_in, words_in, ones_in, twos_in, card_in}

-- the line x as an entry is stored
unfoldable pub slot_for : ℕ → Line → Slot
slot_for kind x = record { word = value_of x.word; one = one_of x.listed; two = two_of kind x.listed }

pub slot_for_lem : (kind : ℕ) (x : Line) → slot_for kind x ≡ record { word = value_of x.word; one = one_of x.listed; two = two_of kind x.listed }
unfolding slot_for
slot_for_lem kind x = refl

module _ (text : List ℕ) where
  -- the card of its lists
  pub card_in_lem : card_in text ≡ card_of (format_for (kind_in text) (letters_in text) (words_in text)) (slot_from (words_in text) (ones_in text) (twos_in text))
  unfolding card_in
  card_in_lem = refl

  pub words_many : length (words_in text) ≡ length (lines_of text)
  words_many = length-map (lines_in text) (λ x. value_of x.word) ∙ lines_many text

  pub told_in : told_by (card_in text) ≡ format_for (kind_in text) (letters_in text) (words_in text)
  unfolding card_in
  told_in = card_told (format_for (kind_in text) (letters_in text) (words_in text)) (slot_from (words_in text) (ones_in text) (twos_in text))

  module _ (e : ℕ) (h : e < length (lines_of text)) where
    number_at : (f : Line → ℕ) → get_or (map f (lines_in text)) e 0 ≡ f (line_in text e)
    number_at f = map_at f (lines_in text) e (line_of []) 0 (omega (arith, lines_many text))

    -- as it is stored
    pub lists_slot : slot_from (words_in text) (ones_in text) (twos_in text) e ≡ slot_for (kind_in text) (line_in text e)
    unfolding slot_for
    lists_slot =
        let word = number_at (λ x. value_of x.word) in
        let one = number_at (λ x. one_of x.listed) in
        let two = number_at (λ x. two_of (kind_in text) x.listed) in
        slot_from_lem (words_in text) (ones_in text) (twos_in text) e ∙ (λ i. record { word = word i; one = one i; two = two i })

    pub slot_in : slot_of (card_in text) e ≡ slot_for (kind_in text) (line_in text e)
    unfolding card_in
    slot_in =
        card_slot (format_for (kind_in text) (letters_in text) (words_in text)) (slot_from (words_in text) (ones_in text) (twos_in text)) e
        (omega (arith, words_many))
        ∙ lists_slot

    pub entry_in : entry_at (card_in text) e ≡ entry_of (kind_in text) (slot_for (kind_in text) (line_in text e))
    unfolding card_in
    entry_in =
        written_entry_is (kind_in text) (letters_in text) (words_in text) (ones_in text) (twos_in text) e (omega (arith, words_many))
        ∙ ap (entry_of (kind_in text)) lists_slot

-- a mark is its own kind
marked_kind : (y : Marked) {mark : ℕ} → (mark_of y ≡ 0 → ⊥) → mark_of y ≡ mark → mark_of y ≡ kind_of mark
marked_kind (Bare p) n e = absurd (n refl)
marked_kind (Two p q) n e = rw (sym e) refl
marked_kind (Run p q) n e = rw (sym e) refl

-- what the line of an entry has
pub record OwnLine (text : List ℕ) (x : Line) : Type 0 where
  pub fine : IsFine x
  pub no_zero : has_zero x.listed ≡ false
  pub letters : line_letters x ≡ letters_in text
  pub mark : (line_mark x ≡ 0 → ⊥) → line_mark x ≡ kind_in text

module _ (text : List ℕ) {s : Outline} (holds : scanning text ≡ given s) (e : ℕ) (h : e < length (lines_of text)) where
  pub own_line : OwnLine text (line_in text e)
  own_line =
      let has = sound_line text holds e h in
      let shape = sound_outline text holds in
      rw (line_in_lem text e) (record {
        fine = (line_text_lem (get_or (lines_of text) e []) has.read).1;
        no_zero = has.no_zero;
        letters = has.letters ∙ ap (λ (t : Outline). t.l) shape;
        mark = λ n. marked_kind (line_of (get_or (lines_of text) e [])).listed n (has.mark n ∙ ap (λ (t : Outline). t.mark) shape);
      })

  pub own_text : line_text (line_in text e) ≡ get_or (lines_of text) e []
  own_text = ap line_text (line_in_lem text e) ∙ sym (line_text_lem (get_or (lines_of text) e []) (sound_line text holds e h).read).0
