-- The lines of an admitted card are fine, and each stands for its entry. Assumes nothing.
use mathlib.Core.Path.{◌≡◌, sym, ◌∙◌}
use mathlib.Core.Logic.{⊎_elim}
use mathlib.Core.Bool.{true}
use mathlib.Core.List.{List}
use Prim.Native.Nat.{ℕ, ◌^◌, ◌≤◌, ◌<◌}
use native.Mathlib.Omega.{arith}
use lib.Dec.{eqb}
use borrow.Author.Tests.{eqb-true}
use Rattle.base_answers.specs.Answer.{given}
use Rattle.base_lists.proofs.TestLaws.{either}
use Rattle.card_entries.specs.Fault.{pair, span, least_length, most_length}
use Rattle.card_entries.proofs.Laws.{span_holds_lem, pair_holds_lem, sound_has, within_both}
use Rattle.card_entries.proofs.HoldLaws.{slots_each}
use Rattle.build_sequence.proofs.LetterLaws.{length_letters}
use Rattle.card_entries.specs.Bounds.{least_entries}
use Rattle.card_layout.specs.Layout.{told_by, slot_of}
use Rattle.card_reader.specs.Fetching.{admission}
use Rattle.card_reader.proofs.SoundLaws.{Reads}
use Rattle.card_reader.proofs.AdmittedLaws.{its_reads}
use Rattle.text_probes.specs.Line.{Line, most_number, fine}
use Rattle.text_probes.proofs.LineLaws.{fine_is}
use Rattle.text_export.specs.Exporting.{listed_for, line_for}
use Rattle.text_export.proofs.EntryBack.{codes_letters, Back, span_back, pair_back}

module _ (limit : ℕ) (few : limit ≤ most_number) (card : List ℕ) (admitted : admission limit card ≡ given (told_by card)) where
  reads : Reads limit card
  reads = its_reads limit card admitted

  abbrev m : ℕ
  m = (told_by card).m

  abbrev kind : ℕ
  kind = (told_by card).kind

  abbrev l : ℕ
  l = (told_by card).l

  abbrev line_at : ℕ → Line
  line_at e = line_for kind l (slot_of card e)

  pub count : (0 < m) × (m ≤ most_number)
  count = let both = within_both least_entries limit m reads.hold.count in (omega (arith, both.0), omega (arith, both.1))

  pub letters : 0 < (told_by card).l
  letters = omega (arith, (within_both least_length most_length l reads.hold.letters).0)

  pub word_fits : (e : ℕ) → e < m → (slot_of card e).word < 4 ^ l
  word_fits e h = (sound_has (told_by card) e (slot_of card e) (slots_each (slot_of card) reads.hold e h)).0

  pub back : (e : ℕ) → e < m → Back kind (slot_of card e) (listed_for kind (slot_of card e))
  back e h =
      let s = slot_of card e in
      let holds = (sound_has (told_by card) e (slot_of card e) (slots_each (slot_of card) reads.hold e h)).1 in
      ⊎_elim
      (λ q. let is : pair ≡ kind = sym (eqb-true kind pair q) in
      rw is at (pair_back m count.1 (slot_of card e) (pair_holds_lem kind m s.one s.two (λ z. omega arith) ∙ holds)))
      (λ q. let is : span ≡ kind = sym (eqb-true kind span q) in
      rw is at (span_back m count.1 (slot_of card e) (span_holds_lem kind m s.one s.two (sym is) ∙ holds)))
      (either (eqb kind pair) (eqb kind span) reads.hold.a_kind)

  pub line_fine : (e : ℕ) → e < m → fine (line_at e) ≡ true
  line_fine e h =
      fine_is (line_at e) (record {
        some_letter = omega (arith, length_letters l (slot_of card e).word, letters);
        codes = codes_letters l (slot_of card e).word;
        small = (back e h).small;
      })
