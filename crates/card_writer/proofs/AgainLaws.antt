-- The card of an admitted card's own lists is that card: the law behind the second round trip. Assumes nothing.
use mathlib.Core.Path.{◌≡◌, ap, ◌∙◌}
use mathlib.Core.List.{List}
use Prim.Native.Nat.{ℕ}
use Rattle.base_answers.specs.Answer.{given}
use Rattle.card_block.specs.Bytes.{AreBytes}
use Rattle.card_entries.specs.declared.Format.{Format}
use Rattle.card_entries.specs.Slot.{slot_from}
use Rattle.card_layout.specs.Layout.{slot_of}
use Rattle.card_layout.specs.Card.{card_of}
use Rattle.card_layout.proofs.CardLaws.{card_same}
use Rattle.card_layout.proofs.AgainLaws.{card_again}
use Rattle.card_reader.specs.Fetching.{admission}
use Rattle.card_entries.specs.Hold.{format_for}
use Rattle.card_reader.proofs.AdmittedLaws.{its_reads, its_told, its_words, its_ones, its_twos, format_same, slot_same}

pub again_card : (limit : ℕ) (card : List ℕ) {f : Format} (admitted : admission limit card ≡ given f) → AreBytes card
    → card_of (format_for f.kind f.l (its_words limit card admitted))
    (slot_from (its_words limit card admitted) (its_ones limit card admitted) (its_twos limit card admitted))
    ≡ card
again_card limit card {f} admitted bytes =
    let slots = slot_from (its_words limit card admitted) (its_ones limit card admitted) (its_twos limit card admitted) in
    ap (λ (g : Format). card_of g slots) (format_same limit card admitted)
    ∙ card_same f slots (slot_of card) (slot_same limit card admitted)
    ∙ ap (λ (g : Format). card_of g (slot_of card)) (its_told limit card admitted)
    ∙ card_again card bytes (its_reads limit card admitted).laid
