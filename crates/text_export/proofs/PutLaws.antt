-- Laws of the parts of a line that this crate's proofs cite. Assumes nothing.
use mathlib.Core.Path.{◌≡◌, refl, sym, ap, ◌∙◌}
use mathlib.Core.Bool.{Bool, true, false, ◌&&◌, cond}
use mathlib.Core.List.{List, [], ◌∷◌, ◌++◌, map, append-nil}
use mathlib.Core.Logic.{by_cases}
use Prim.Native.Nat.{ℕ, suc, ◌+◌, ◌-◌, ◌/◌, ◌%◌, ◌≤◌, ◌<◌}
use native.Mathlib.Omega.{arith}
use native.Mathlib.Decide.{ℕ_discrete}
use lib.ListN.{length, set, length-map}
use lib.Seq.{append_snoc}
use lib.Dec.{leb, eqb}
use borrow.Author.Tests.{eq-eqb, ne_eqb, leb-true}
use Rattle.base_lists.proofs.TestLaws.{both}
use Rattle.base_letters.specs.Letters.{letter_of}
use Rattle.card_entries.specs.declared.Slot.{Slot}
use Rattle.card_entries.specs.declared.Places.{Places}
use Rattle.card_entries.specs.declared.Places.TheVariants.{One, Two as Both, Span}
use Rattle.card_entries.specs.declared.Entry.{Entry}
use Rattle.card_entries.specs.Entry.{places_of, entry_of}
use Rattle.card_entries.specs.Fault.{span, no_place}
use Rattle.card_entries.proofs.Allowed.{entry_places}
use Rattle.card_entries.proofs.Laws.{span_places, one_place, two_places}
use Rattle.build_sequence.specs.Build.{letters_of}
use Rattle.build_sequence.proofs.LetterLaws.{length_letters}
use Rattle.base_text.specs.Text.{ascii}
use Rattle.base_text.specs.Putting.{Put}
use Rattle.base_text.proofs.PuttingLaws.{put_nothing, put_then, put_before, put_as}
use Rattle.text_probes.specs.declared.line.Marked.{Marked}
use Rattle.text_probes.specs.declared.line.Marked.TheVariants.{Bare, Two, Run}
use Rattle.text_probes.specs.Line.{most_number, listed_text, line_text, is_small}
use Rattle.text_probes.proofs.LineLaws.{line_parts}
use Rattle.text_probes.proofs.LengthLaws.{line_long as text-long}
use Rattle.text_export.specs.Exporting.{listed_for, line_for}

-- ---- what is listed

both_small : {p q : ℕ} → (leb p most_number && leb q most_number) ≡ true → (p ≤ most_number) × (q ≤ most_number)
both_small {p} {q} h = let each = both (leb p most_number) (leb q most_number) h in (leb-true p most_number each.0, leb-true q most_number each.1)

-- what is listed of such places, and that each number fits
abbrev pub listed_as : Places → Marked
listed_as (One p) = Bare (p + 1)
listed_as (Both p q) = Two (p + 1) (q + 1)
listed_as (Span p q) = Run (p + 1) (q + 1)

abbrev pub Few : Places → Type 0
Few (One p) = p + 1 ≤ most_number
Few (Both p q) = (p + 1 ≤ most_number) × (q + 1 ≤ most_number)
Few (Span p q) = (p + 1 ≤ most_number) × (q + 1 ≤ most_number)

module _ (kind : ℕ) (s : Slot) where
  pub for_span : kind ≡ span → Run (s.one + 1) (s.two + 1) ≡ listed_for kind s
  unfolding listed_for
  for_span e = rw (eq-eqb kind span e)

  pub for_one : (kind ≡ span → ⊥) → s.two ≡ no_place → Bare (s.one + 1) ≡ listed_for kind s
  unfolding listed_for
  for_one n e = rw (ne_eqb kind span n, eq-eqb s.two no_place e)

  pub for_two : (kind ≡ span → ⊥) → (s.two ≡ no_place → ⊥) → Two (s.one + 1) (s.two + 1) ≡ listed_for kind s
  unfolding listed_for
  for_two n e = rw (ne_eqb kind span n, ne_eqb s.two no_place e)

module _ (kind : ℕ) (s : Slot) {e : Entry} (is : e ≡ entry_of kind s) {y : Places} (of : e.places ≡ y) where
  stands : y ≡ places_of kind s.one s.two
  stands = sym of ∙ ap (λ (x : Entry). x.places) is ∙ entry_places kind s

  pub listed_so : listed_as y ≡ listed_for kind s
  listed_so =
      by_cases (ℕ_discrete kind span) (λ k. ap listed_as (stands ∙ sym (span_places kind s.one s.two k)) ∙ for_span kind s k) (λ k.
      by_cases (ℕ_discrete s.two no_place) (λ n. ap listed_as (stands ∙ sym (one_place kind s.one s.two k n)) ∙ for_one kind s k n)
      (λ n. ap listed_as (stands ∙ sym (two_places kind s.one s.two k n)) ∙ for_two kind s k n))

  -- the places that are listed fit
  pub few_so : is_small (listed_for kind s) ≡ true → Few y
  few_so small = go y (ap is_small listed_so ∙ small)
    where
      go : (y : Places) → is_small (listed_as y) ≡ true → Few y
      go (One p) h = leb-true (p + 1) most_number h
      go (Both p q) h = both_small h
      go (Span p q) h = both_small h

-- ---- how long

pub word_long : (l w : ℕ) → length (map letter_of (letters_of l w)) ≡ l
word_long l w = length-map (letters_of l w) letter_of ∙ length_letters l w

pub line_long : (kind l : ℕ) (s : Slot) → length (line_text (line_for kind l s)) ≡ l + 2 + length (listed_text (listed_for kind s))
line_long kind l s = text-long (line_for kind l s) ∙ ap (λ (n : ℕ). n + 2 + length (listed_text (listed_for kind s))) (length_letters l s.word)

-- ---- the letters

module _ (l w at : ℕ) (before : List ℕ) where
  -- the last letters of the word w stand from i on, and those before them are the letters of v
  pub record LettersFrom (i v : ℕ) (out : List ℕ) : Type 0 where
    pub started : at ≤ i
    pub last : List ℕ
    pub whole : letters_of (i - at) v ++ last ≡ letters_of l w
    pub put : Put (map letter_of last) i before (at + l) out

  pub letters_none : at + l ≤ length before → LettersFrom (at + l) w before
  letters_none h =
      let all : at + l - at ≡ l = omega arith in
      record { started = omega arith; last = []; whole = rw all (append-nil (letters_of l w)); put = put_nothing before (at + l) h }

  module _ {i v : ℕ} {out : List ℕ} (so_far : LettersFrom i v out) where
    pub letters_turn : at < i → LettersFrom (i - 1) (v / 4) (set out (i - 1) (letter_of (v % 4)))
    letters_turn h =
        let k = i - 1 - at in
        let left : i - at ≡ suc k = omega arith in
        record {
          started = omega arith;
          last = v % 4 ∷ so_far.last;
          whole = sym (append_snoc (letters_of k (v / 4)) (v % 4) so_far.last) ∙ rw left at so_far.whole;
          put = put_before so_far.put (letter_of (v % 4)) (omega arith);
        }

-- ---- a line

pub line_put : (kind l : ℕ) (s : Slot) {y : Marked} {at a b c d : ℕ} {l₀ l₁ l₂ l₃ l₄ : List ℕ}
    → Put (map letter_of (letters_of l s.word)) at l₀ a l₁ → Put (ascii "\t") a l₁ b l₂ → y ≡ listed_for kind s
    → Put (listed_text y) b l₂ c l₃ → Put (ascii "\n") c l₃ d l₄
    → Put (line_text (line_for kind l s)) at l₀ d l₄
line_put kind l s word tab is listed newline =
    put_as (put_then word (put_then tab (put_then (put_as listed (ap listed_text is)) newline))) (line_parts (line_for kind l s))
