-- In every struct that has a number, 0 says that nothing was refused: a refusal's number is above 0, and no byte differs after it. Assumes
-- nothing.
use mathlib.Core.Path.{◌≡◌, refl, sym, ◌∙◌}
use mathlib.Core.List.{List}
use Prim.Native.Nat.{ℕ, ◌<◌}
use native.Mathlib.Omega.{arith}
use lib.ListN.{length}
use Rattle.base_answers.specs.Answer.{Answer, given, refused, sound, Test, first, output_after}
use Rattle.base_answers.proofs.Laws.{given_not_refused}
use Rattle.base_answers.proofs.Only.{Numbered, only_refused}
use Rattle.card_block.specs.Block.{fetch_tests}
use Rattle.card_block.proofs.Laws.{fetch_numbered}
use Rattle.text_fasta.specs.Writing as fasta
use Rattle.text_fasta.specs.Reading.{reading}
use Rattle.text_fasta.proofs.RefusalNumbers as fasta_numbers
use Rattle.card_entries.specs.declared.Slot.{Slot}
use Rattle.card_entries.specs.Slot.{entries_in}
use Rattle.card_layout.specs.Layout.{told_by, slots_on}
use Rattle.card_reader.specs.Reading.{reading_order}
use Rattle.card_reader.specs.Fetching.{admission, entry_fetch, stepping}
use Rattle.card_reader.proofs.RefusalNumbers.{order_numbered, admission_number, entry_number, step_number}
use Rattle.card_lists.specs.Lists.{lists_tests}
use Rattle.card_lists.proofs.Laws.{lists_numbered}
use Rattle.card_writer.specs.Writing.{writing}
use Rattle.card_writer.proofs.RefusalNumbers.{writing_number}
use Rattle.text_import.specs.Importing.{importing}
use Rattle.text_import.proofs.RefusalNumbers.{importing_number}
use Rattle.text_export.specs.Exporting.{exporting}
use Rattle.text_export.proofs.RefusalNumbers.{exporting_number}
use Rattle.build_sequence.specs.Many.{Power, two_to, no_builds}
use Rattle.build_sequence.specs.Verdict.{sole, several, no_build, Outcome, settled, unsettled}
use Rattle.build_card.specs.Building.{build_tests, letters_after, Says, tells, refuses}
use Rattle.build_card.proofs.CardLaws.{build_only}
use Rattle.build_narrow.specs.Settling.{lists_build_tests, settle_tests, Settled, SettlesInto}
use Rattle.build_narrow.specs.Settling as settling
use Rattle.build_narrow.proofs.TestLaws as narrow
use Rattle.build_count.specs.Counting.{count_tests, Counted, OfCard, OfLists, Counts}
use Rattle.build_count.specs.Counting as counting
use Rattle.build_count.proofs.CountingLaws.{tests_numbered}
use Rattle.firmware.specs.declared.building.BuildAnswer.{BuildAnswer}
use Rattle.firmware.specs.Flat.{admit_answer, entry_answer, step_answer, held_answer, write_answer, fasta_answer}
use Rattle.firmware.specs.Building.{build_answer, Told}
use Rattle.firmware.specs.declared.count.CountAnswer.{CountAnswer}
use Rattle.firmware.specs.Counting.{count_answer}

module _ (limit : ℕ) (card : List ℕ) {n p : ℕ} where
  pub admit_tells : admission limit card ≡ refused n p → 0 < (admit_answer (admission limit card)).number
  admit_tells e = rw e (admission_number limit card e)

  pub entry_tells : (i : ℕ) → entry_fetch limit card i ≡ refused n p → 0 < (entry_answer (entry_fetch limit card i)).number
  entry_tells i e = rw e (entry_number limit card i e)

  pub step_tells : (at : ℕ) → stepping limit card at ≡ refused n p → 0 < (step_answer (stepping limit card at)).number
  step_tells at e = rw e (step_number limit card at e)

module _ (card : List ℕ) (k : ℕ) {n p : ℕ} where
  pub companion_tells : first (fetch_tests card k) sound ≡ refused n p → 0 < (held_answer (first (fetch_tests card k) sound)).number
  companion_tells e = rw e (only_refused (fetch_numbered card k) sound e)

pub write_tells : (limit kind l : ℕ) (words ones twos : List ℕ) (room : ℕ) {n p : ℕ}
    → writing limit kind l words ones twos room ≡ refused n p
    → 0 < (write_answer (writing limit kind l words ones twos room)).number
write_tells limit kind l words ones twos room e = rw e (writing_number limit kind l words ones twos room e)

pub import_tells : (limit : ℕ) (text : List ℕ) (room : ℕ) {n p : ℕ} → importing limit text room ≡ refused n p
    → 0 < (write_answer (importing limit text room)).number
import_tells limit text room e = rw e (importing_number limit text room e)

pub export_tells : (limit : ℕ) (card : List ℕ) (room : ℕ) {n p : ℕ} → exporting limit card room ≡ refused n p
    → 0 < (write_answer (exporting limit card room)).number
export_tells limit card room e = rw e (exporting_number limit card room e)

pub write_fasta_tells : (name letters : List ℕ) (room : ℕ) {n p : ℕ} → fasta.writing name letters room ≡ refused n p
    → 0 < (write_answer (fasta.writing name letters room)).number
write_fasta_tells name letters room e = rw e (fasta_numbers.writing_number name letters room e)

-- and of these four what is given has 0
pub write_zero : {a : Answer ℕ} {n : ℕ} → a ≡ given n → (write_answer a).number ≡ 0
write_zero e = rw e refl

-- reading a FASTA record, both ways
module _ (r : List ℕ) (names letters : ℕ) where
  pub read_fasta_tells : {n p : ℕ} → reading r names letters ≡ refused n p → 0 < (fasta_answer (reading r names letters)).number
  read_fasta_tells e = rw e (fasta_numbers.reading_number r names letters e)

  pub read_fasta_zero : {parts : ℕ × ℕ} → reading r names letters ≡ given parts → (fasta_answer (reading r names letters)).number ≡ 0
  read_fasta_zero e = rw e refl

-- ---- build, whose contract is a relation: both ways

build_numbered : (limit : ℕ) (card : List ℕ) (room : ℕ) → Numbered (build_tests limit card room)
build_numbered limit card room = build_only limit card room (λ n above most. above)

zero_given : (o : Outcome) → (build_answer (given o)).number ≡ 0
zero_given (settled (sole s) n) = refl
zero_given (settled (several s) n) = refl
zero_given (settled no_build n) = refl
zero_given (unsettled n) = refl

module _ {limit budget : ℕ} {card before after : List ℕ} {result : BuildAnswer} (w : Told limit card budget before result after) where
  pub build_tells : {n p : ℕ} → first (build_tests limit card (length before)) sound ≡ refused n p → 0 < result.number
  build_tells e = rw w.answer (go w.says)
    where
      go : {a : Answer Outcome} → Says limit card budget (length before) a → 0 < (build_answer a).number
      go (tells hold _) = absurd (given_not_refused (sym hold ∙ e))
      go (refuses fails) = only_refused (build_numbered limit card (length before)) sound fails

  pub build_zero : first (build_tests limit card (length before)) sound ≡ given sound → result.number ≡ 0
  build_zero e = rw w.answer (go w.says)
    where
      go : {a : Answer Outcome} → Says limit card budget (length before) a → (build_answer a).number ≡ 0
      go (tells {o} hold _) = zero_given o
      go (refuses fails) = absurd (given_not_refused (sym e ∙ fails))

-- ---- settling, of a card and of lists

module _ {ts : List Test} {kind l : ℕ} {es : List Slot} {before after : List ℕ} {result : BuildAnswer}
    (c : SettlesInto build_answer (Settled ts kind l es) before result after) where
  settle_tells : Numbered ts → {n p : ℕ} → first (settle_tests kind es ts) sound ≡ refused n p → 0 < result.number
  settle_tells numbered e = rw c.answer (go c.says)
    where
      go : {a : Answer Outcome} → Settled ts kind l es a → 0 < (build_answer a).number
      go (settling.tells hold _) = absurd (given_not_refused (sym hold ∙ e))
      go (settling.refuses fails) = only_refused (narrow.tests_numbered kind es ts numbered) sound fails

  settle_zero : first (settle_tests kind es ts) sound ≡ given sound → result.number ≡ 0
  settle_zero e = rw c.answer (go c.says)
    where
      go : {a : Answer Outcome} → Settled ts kind l es a → (build_answer a).number ≡ 0
      go (settling.tells {o} hold _) = zero_given o
      go (settling.refuses fails) = absurd (given_not_refused (sym e ∙ fails))

module _ (limit : ℕ) (card before : List ℕ) {after : List ℕ} {result : BuildAnswer}
    (c : SettlesInto build_answer (settling.OfCard limit card (length before)) before result after) where
  pub settle_card_tells : {n p : ℕ}
      → first (settle_tests (told_by card).kind (slots_on card) (build_tests limit card (length before))) sound ≡ refused n p
      → 0 < result.number
  settle_card_tells = settle_tells c (build_numbered limit card (length before))

  pub settle_card_zero : first (settle_tests (told_by card).kind (slots_on card) (build_tests limit card (length before))) sound ≡ given sound
      → result.number ≡ 0
  settle_card_zero = settle_zero c

module _ (limit kind l : ℕ) (words ones twos before : List ℕ) {after : List ℕ} {result : BuildAnswer}
    (c : SettlesInto build_answer (settling.OfLists limit kind l words ones twos (length before)) before result after) where
  pub settle_lists_tells : {n p : ℕ}
      → first (settle_tests kind (entries_in words ones twos) (lists_build_tests limit kind l words ones twos (length before))) sound
      ≡ refused n p
      → 0 < result.number
  settle_lists_tells = settle_tells c (narrow.lists_build_numbered limit kind l words ones twos (length before))

  pub settle_lists_zero :
      first (settle_tests kind (entries_in words ones twos) (lists_build_tests limit kind l words ones twos (length before))) sound
      ≡ given sound
      → result.number ≡ 0
  settle_lists_zero = settle_zero c

-- ---- the number of builds, of a card and of lists

module _ {ts : List Test} {kind l : ℕ} {es : List Slot} {result : CountAnswer} (c : Counts count_answer (Counted ts kind l es) result) where
  count_tells : Numbered ts → {n p : ℕ} → first (count_tests kind ts) sound ≡ refused n p → 0 < result.number
  count_tells numbered e = rw c.answer (go c.says)
    where
      go : {a : Answer Power} → Counted ts kind l es a → 0 < (count_answer a).number
      go (counting.tells hold _) = absurd (given_not_refused (sym hold ∙ e))
      go (counting.refuses fails) = only_refused (tests_numbered ts kind numbered) sound fails

  count_zero : first (count_tests kind ts) sound ≡ given sound → result.number ≡ 0
  count_zero e = rw c.answer (go c.says)
    where
      zero_in : (p : Power) → (count_answer (given p)).number ≡ 0
      zero_in (two_to k) = refl
      zero_in no_builds = refl

      go : {a : Answer Power} → Counted ts kind l es a → (count_answer a).number ≡ 0
      go (counting.tells {p} hold _) = zero_in p
      go (counting.refuses fails) = absurd (given_not_refused (sym e ∙ fails))

module _ (limit : ℕ) (card : List ℕ) {result : CountAnswer} (c : Counts count_answer (OfCard limit card) result) where
  pub count_card_tells : {n p : ℕ} → first (count_tests (told_by card).kind (reading_order limit card)) sound ≡ refused n p → 0 < result.number
  count_card_tells = count_tells c (order_numbered limit card)

  pub count_card_zero : first (count_tests (told_by card).kind (reading_order limit card)) sound ≡ given sound → result.number ≡ 0
  count_card_zero = count_zero c

module _ (limit kind l : ℕ) (words ones twos : List ℕ) {result : CountAnswer}
    (c : Counts count_answer (OfLists limit kind l words ones twos) result) where
  pub count_lists_tells : {n p : ℕ} → first (count_tests kind (lists_tests limit kind l words ones twos)) sound ≡ refused n p
      → 0 < result.number
  count_lists_tells = count_tells c (lists_numbered limit kind l words ones twos)

  pub count_lists_zero : first (count_tests kind (lists_tests limit kind l words ones twos)) sound ≡ given sound → result.number ≡ 0
  count_lists_zero = count_zero c

-- ---- "no byte of a lent buffer differs after it": where the number is above 0

letters_untouched : (a : Answer Outcome) (before : List ℕ) → 0 < (build_answer a).number → letters_after a before ≡ before
letters_untouched (given o) before h = absurd (omega (arith, zero_given o))
letters_untouched (refused n p) before h = refl

pub build_untouched : {limit budget : ℕ} {card before after : List ℕ} {result : BuildAnswer} → Told limit card budget before result after
    → 0 < result.number
    → after ≡ before
build_untouched {before = before} w h = w.output ∙ letters_untouched w.said before (rw w.answer at h)

-- settling, of a card and of lists
pub settle_untouched : {Says : Answer Outcome → Type 0} {before after : List ℕ} {result : BuildAnswer}
    → SettlesInto build_answer Says before result after
    → 0 < result.number
    → after ≡ before
settle_untouched {before = before} c h = c.output ∙ letters_untouched c.said before (rw c.answer at h)

-- an output that bytes are put into, whatever is given
output_untouched : {A : Type 0} (number : Answer A → ℕ) → ((x : A) → number (given x) ≡ 0) → (a : Answer A) (bytes before : List ℕ)
    → 0 < number a
    → output_after bytes before a ≡ before
output_untouched number zero (given x) bytes before h = absurd (omega (arith, zero x))
output_untouched number zero (refused n p) bytes before h = refl

-- writing, importing, exporting, and writing a FASTA record
pub write_untouched : (a : Answer ℕ) (bytes before : List ℕ) → 0 < (write_answer a).number → output_after bytes before a ≡ before
write_untouched = output_untouched (λ a. (write_answer a).number) (λ n. refl)

-- reading one, into either buffer
pub read_fasta_untouched : (a : Answer (ℕ × ℕ)) (bytes before : List ℕ) → 0 < (fasta_answer a).number → output_after bytes before a ≡ before
read_fasta_untouched = output_untouched (λ a. (fasta_answer a).number) (λ parts. refl)
