-- Laws of a turn of scanning: the line that was read, its tests, and the entry that is kept of it. Assumes nothing.
use mathlib.Core.Path.{◌≡◌, refl, sym, ap, ◌∙◌}
use mathlib.Core.Bool.{false}
use mathlib.Core.List.{List, []}
use mathlib.Core.Option.{Option, none, some}
use Prim.Native.Nat.{ℕ, ◌+◌, ◌≤◌, ◌<◌}
use native.Mathlib.Omega.{arith}
use lib.ListN.{length, drop, set, length-set}
use borrow.Author.Tests.{not-true}
use Rattle.base_answers.specs.Numbers.{Text}
use Rattle.base_answers.specs.Answer.{Answer, given, refused, first}
use Rattle.base_answers.proofs.Laws.{first_passed, first_value, given_not_refused}
use Rattle.card_entries.specs.Fault.{pair}
use Rattle.text_probes.specs.declared.line.Marked.{Marked}
use Rattle.text_probes.specs.declared.scanning.Outline.{Outline}
use Rattle.text_probes.specs.Line.{Line}
use Rattle.text_probes.specs.Reading.{Read, read_first}
use Rattle.text_probes.specs.Lines.{line_of, lines_in}
use Rattle.text_probes.specs.Testing.{has_zero, said_tests, scanning}
use Rattle.text_probes.specs.Listing.{one_of, two_of}
use Rattle.text_probes.specs.Says.{Said, told_of, kept, outline_after}
use Rattle.text_probes.specs.Keeping.{Keeps}
use Rattle.text_probes.proofs.ScanLaws.{SoFar, scan_empty, scan_start, scan_end, scan_no_text, scan_refused, this_read, more_in, scan_rises, scan_goes_on}
use Rattle.text_probes.proofs.KeepLaws.{keeps_none, keeps_turn}

-- ---- what is told of a line

pub told_none : (o : Option (Read Line)) → none ≡ told_of o → o ≡ none
told_none none e = refl
told_none (some r) e = let z : ◌≡◌ {A = ℕ} 0 1 = cc in absurd (omega arith)

record IsTold (o : Option (Read Line)) (t : Said) : Type 0 where
  r : Read Line
  is : o ≡ some r
  letters : t.letters ≡ length r.what.word
  word : t.word ≡ kept 0 r.what.word
  listed : t.listed ≡ r.what.listed
  rest : t.rest ≡ r.rest

told_some : (o : Option (Read Line)) (t : Said) → some t ≡ told_of o → IsTold o t
told_some none t e = let z : ◌≡◌ {A = ℕ} 0 1 = cc in absurd (omega arith)
told_some (some r) t e =
    let same : t ≡ record { letters = length r.what.word; word = kept 0 r.what.word; listed = r.what.listed; rest = r.rest } = cc in
    record {
      r = r;
      is = refl;
      letters = ap (λ (u : Said). u.letters) same;
      word = ap (λ (u : Said). u.word) same;
      listed = ap (λ (u : Said). u.listed) same;
      rest = ap (λ (u : Said). u.rest) same;
    }

-- ---- the lines so far, and the entries that are kept

-- the three lists that the entries are kept in
pub record Lists : Type 0 where
  pub words : List ℕ
  pub ones : List ℕ
  pub twos : List ℕ

pub record Scanning (text words₀ : List ℕ) (s : Outline) (at : ℕ) (lists : Lists) : Type 0 where
  pub so_far : SoFar text s at
  pub keeps : Keeps (lines_in text) s.m lists.words lists.ones lists.twos
  pub words_long : length lists.words ≡ length words₀
  pub ones_long : length lists.ones ≡ length words₀
  pub twos_long : length lists.twos ≡ length words₀

-- what is promised of the lists
abbrev pub Kept : List ℕ → List ℕ → List ℕ → List ℕ → Type 0
Kept text words ones twos = (s : Outline) → scanning text ≡ given s → Keeps (lines_in text) s.m words ones twos

-- of a text that is refused nothing is
pub none_kept : (text words ones twos : List ℕ) {n p : ℕ} → refused n p ≡ scanning text → Kept text words ones twos
none_kept text words ones twos said s sound = absurd (given_not_refused (sym sound ∙ sym said))

pub scanning_none : (text : List ℕ) {words ones twos : List ℕ} → length ones ≡ length words → length twos ≡ length words → (length text ≡ 0 → ⊥)
    → Scanning text words (record { mark = 0; l = 0; m = 0 }) 0 (record { words = words; ones = ones; twos = twos })
scanning_none text {words} {ones} {twos} g h n =
    record { so_far = scan_start text n; keeps = keeps_none (lines_in text) words ones twos; words_long = refl; ones_long = g; twos_long = h }

module _ {text words₀ : List ℕ} {s : Outline} {at : ℕ} {lists : Lists} (scans : Scanning text words₀ s at lists) where
  -- the end
  pub scanning_all : length text ≤ at → (given s ≡ scanning text) × Kept text lists.words lists.ones lists.twos
  scanning_all h =
      let said = scan_end text s at scans.so_far h in
      (said, λ t sound. let same : s ≡ t = cc in rw (sym same) scans.keeps)

  module _ (h : at < length text) where
    pub turn_no_text : none ≡ told_of (read_first (drop at text)) → refused Text (s.m + 1) ≡ scanning text
    turn_no_text e = scan_no_text text s at scans.so_far h (told_none (read_first (drop at text)) e)

    module _ {t : Said} (told : some t ≡ told_of (read_first (drop at text))) where
      is_told : IsTold (read_first (drop at text)) t
      is_told = told_some (read_first (drop at text)) t told

      abbrev tested : Answer Outline
      tested = first (said_tests s t.letters t.listed) (outline_after s t.letters t.listed)

      same_tested : tested
          ≡ first (said_tests s (length is_told.r.what.word) is_told.r.what.listed)
          (outline_after s (length is_told.r.what.word) is_told.r.what.listed)
      same_tested =
          ap (λ (n : ℕ). first (said_tests s n t.listed) (outline_after s n t.listed)) is_told.letters
          ∙ ap (λ (y : Marked). first (said_tests s (length is_told.r.what.word) y) (outline_after s (length is_told.r.what.word) y)) is_told.listed

      pub turn_refused : {n p : ℕ} → tested ≡ refused n p → refused n p ≡ scanning text
      turn_refused said = scan_refused text s at scans.so_far h is_told.is (sym same_tested ∙ said)

      module _ {next : Outline} (sound : tested ≡ given next) where
        pub turn_no_zero : has_zero t.listed ≡ false
        unfolding said_tests
        turn_no_zero =
            let mark = first_passed _ _ _ _ _ _ sound in
            let letters = first_passed _ _ _ _ _ _ mark.1 in
            not-true (has_zero t.listed) (first_passed _ _ _ _ _ _ letters.1).0

        module _ {end : ℕ} (rest : drop end text ≡ t.rest) (inside : end ≤ length text) where
          pub turn_rises : at < end
          turn_rises = scan_rises text s at scans.so_far h is_told.is (rest ∙ is_told.rest) inside

          pub turn_on : {words' ones' twos' : List ℕ}
              → (words' ≡ set lists.words s.m t.word) × (ones' ≡ set lists.ones s.m (one_of t.listed))
              × (twos' ≡ set lists.twos s.m (two_of pair t.listed))
              → Scanning text words₀ next end (record { words = words'; ones = ones'; twos = twos' })
          turn_on put = record {
            so_far = scan_goes_on text s at scans.so_far h is_told.is (rest ∙ is_told.rest) inside (sym same_tested ∙ sound);
            keeps = keeps_turn (line_of []) is_told.r.what scans.keeps (more_in text s at scans.so_far h is_told.is)
                (this_read text s at scans.so_far h is_told.is) is_told.word is_told.listed
                (sym (ap (λ (u : Outline). u.m) (first_value _ _ _ sound))) put;
            words_long = ap length put.0 ∙ length-set lists.words s.m t.word ∙ scans.words_long;
            ones_long = ap length put.1 ∙ length-set lists.ones s.m (one_of t.listed) ∙ scans.ones_long;
            twos_long = ap length put.2 ∙ length-set lists.twos s.m (two_of pair t.listed) ∙ scans.twos_long;
          }

-- how scanning begins
pub ruleset begins = (scan_empty, none_kept, scanning_none)
