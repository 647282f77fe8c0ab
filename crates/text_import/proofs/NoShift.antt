-- "This is where the shift by one must be impossible": each entry of an imported card allows the place q exactly if its line lists q + 1.
-- Assumes nothing.
use mathlib.Core.Path.{◌≡◌, ap, ◌∙◌}
use mathlib.Core.List.{List}
use Prim.Native.Nat.{ℕ, ◌+◌, ◌<◌}
use lib.ListN.{length, take}
use Rattle.base_answers.specs.Answer.{Answer, given}
use Rattle.card_entries.specs.declared.Entry.{Entry}
use Rattle.card_entries.specs.declared.Places.{Places}
use Rattle.card_entries.specs.Entry.{allows}
use Rattle.card_entries.proofs.Allowed.{entry_places}
use Rattle.card_layout.specs.Layout.{entry_at}
use Rattle.text_probes.specs.declared.scanning.Outline.{Outline}
use Rattle.text_probes.specs.Line.{lists}
use Rattle.text_probes.specs.Lines.{lines_of, line_in}
use Rattle.text_probes.specs.Testing.{scanning}
use Rattle.text_probes.proofs.NoShift.{entry_no_shift}
use Rattle.text_import.specs.Importing.{kind_in, card_in, Imports}
use Rattle.text_import.proofs.SoundCard.{slot_for, entry_in, own_line}
use Rattle.text_import.proofs.Imported.{imported_sound, imported_card}

module _ (text : List ℕ) {s : Outline} (holds : scanning text ≡ given s) where
  pub sound_no_shift : (e : ℕ) → e < length (lines_of text) → (q : ℕ)
      → allows (entry_at (card_in text) e).places q ≡ lists (line_in text e).listed (q + 1)
  unfolding slot_for
  sound_no_shift e h q =
      let own = own_line text holds e h in
      ap (λ (x : Entry). allows x.places q) (entry_in text e h)
      ∙ ap (λ (ps : Places). allows ps q) (entry_places (kind_in text) (slot_for (kind_in text) (line_in text e)))
      ∙ entry_no_shift (kind_in text) (line_in text e).listed own.fine.small own.no_zero own.mark q

-- "each listed place p means card place p−1"
pub no_shift : {limit : ℕ} {text before after : List ℕ} {r : Answer ℕ} {n : ℕ}
    → Imports limit text before r after → r ≡ given n → (e : ℕ) → e < length (lines_of text) → (q : ℕ)
    → allows (entry_at (take n after) e).places q ≡ lists (line_in text e).listed (q + 1)
no_shift {text} did said e h q = rw (imported_card did said) (sound_no_shift text (imported_sound did said) e h q)
