-- Different lists give different cards: two cards of lists that are each of one length are the same only where kind, l and the lists are.
-- Assumes nothing.
use mathlib.Core.Path.{◌≡◌, refl, sym, ap, ◌∙◌}
use mathlib.Core.Bool.{true}
use mathlib.Core.List.{List}
use Prim.Native.Nat.{ℕ}
use Rattle.base_lists.specs.Row.{row}
use Rattle.card_entries.specs.declared.Format.{Format}
use Rattle.card_entries.specs.declared.Slot.{Slot}
use Rattle.card_entries.specs.Slot.{slot_from}
use Rattle.card_entries.proofs.SlotLaws.{word_from, one_from, two_from}
use Rattle.card_layout.specs.Layout.{told_by, slot_of}
use Rattle.card_layout.specs.Card.{card_of}
use Rattle.card_layout.proofs.LaidLaws.{card_told}
use Rattle.card_lists.specs.Lists.{same_length}
use Rattle.card_entries.specs.Hold.{format_for}
use Rattle.card_lists.proofs.Laws.{lengths_same}
use Rattle.card_writer.proofs.ReadBackLaws.{written_numbers}

-- what a card says, by its bytes alone
abbrev numbers_of : List ℕ → (Slot → ℕ) → List ℕ
numbers_of card number_of = row (λ e. number_of (slot_of card e)) 0 (told_by card).m

module _ (kind l : ℕ) (words ones twos : List ℕ) (even : same_length words ones twos ≡ true) where
  abbrev card : List ℕ
  card = card_of (format_for kind l words) (slot_from words ones twos)

  told : told_by card ≡ format_for kind l words
  told = card_told (format_for kind l words) (slot_from words ones twos)

  said : (numbers_of card (λ s. s.word) ≡ words) × (numbers_of card (λ s. s.one) ≡ ones) × (numbers_of card (λ s. s.two) ≡ twos)
  said =
      let numbers = written_numbers kind l words ones twos in (
        rw told (numbers (λ s. s.word) words refl (word_from words ones twos)),
        rw told (numbers (λ s. s.one) ones (sym (lengths_same words ones twos even).0) (one_from words ones twos)),
        rw told (numbers (λ s. s.two) twos (sym (lengths_same words ones twos even).1) (two_from words ones twos)),
      )

pub cards_apart : (kind l kind' l' : ℕ) (words ones twos words' ones' twos' : List ℕ)
    → same_length words ones twos ≡ true → same_length words' ones' twos' ≡ true
    → card_of (format_for kind l words) (slot_from words ones twos) ≡ card_of (format_for kind' l' words') (slot_from words' ones' twos')
    → (kind ≡ kind') × (l ≡ l') × (words ≡ words') × (ones ≡ ones') × (twos ≡ twos')
cards_apart kind l kind' l' words ones twos words' ones' twos' even even' same =
    let formats = sym (told kind l words ones twos even) ∙ ap told_by same ∙ told kind' l' words' ones' twos' even' in
    let mine = said kind l words ones twos even in
    let theirs = said kind' l' words' ones' twos' even' in (
      ap (λ (f : Format). f.kind) formats,
      ap (λ (f : Format). f.l) formats,
      sym mine.0 ∙ ap (λ (c : List ℕ). numbers_of c (λ s. s.word)) same ∙ theirs.0,
      sym mine.1 ∙ ap (λ (c : List ℕ). numbers_of c (λ s. s.one)) same ∙ theirs.1,
      sym mine.2 ∙ ap (λ (c : List ℕ). numbers_of c (λ s. s.two)) same ∙ theirs.2,
    )
