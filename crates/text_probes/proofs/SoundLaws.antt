-- What a sound text has: each line is a line, lists no place 0, has l letters, and its mark, if it has one, is the list's. Assumes nothing.
use mathlib.Core.Path.{◌≡◌, refl, sym, ap, ◌∙◌}
use mathlib.Core.Logic.{⊎_elim}
use mathlib.Core.Bool.{Bool, true, false, cond}
use mathlib.Core.List.{List, [], ◌∷◌, ◌++◌}
use mathlib.Core.Option.{Option, none, some}
use Prim.Native.Nat.{ℕ, suc, ◌+◌, ◌<◌}
use native.Mathlib.Omega.{arith}
use lib.ListN.{length, get_or, take, drop, length-map, take-append-drop, get_or-map}
use lib.Seq.{take-suc}
use lib.Dec.{eqb}
use borrow.Author.Tests.{lt-ltb, eq-eqb, eqb-true, not-true}
use Rattle.base_answers.specs.Answer.{given, first, sound}
use Rattle.base_answers.proofs.Laws.{first_pass, first_passed, first_value, first_given_any, turns_hold, turns_held}
use Rattle.base_lists.proofs.TestLaws.{either}
use Rattle.text_probes.specs.declared.scanning.Outline.{Outline}
use Rattle.text_probes.specs.Line.{Line, line_text}
use Rattle.text_probes.specs.Reading.{read_line}
use Rattle.text_probes.specs.Lines.{is_some, or_nothing, lines_of, is_line, line_of, lines_in}
use Rattle.text_probes.specs.Testing.{
  has_zero,
  line_mark,
  line_letters,
  known,
  outline_of,
  agree,
  said_tests,
  line_tests,
  tests_at,
  text_tests,
  scanning,
}
use Rattle.text_probes.proofs.LineLaws.{IsFine, is_fine, read_line_lem}
use Rattle.text_probes.proofs.TestLaws.{known_more}

-- ---- a line that is one

pub line_reads : (bs : List ℕ) → is_line bs ≡ true → read_line bs ≡ some (line_of bs)
unfolding is_line line_of
line_reads bs h = go (read_line bs) h
  where
    go : (o : Option Line) → is_some o ≡ true → o ≡ some (or_nothing o)
    go none e = let z : ◌≡◌ {A = ℕ} 0 1 = cc in absurd (omega arith)
    go (some x) e = refl

pub line_text_lem : (bs : List ℕ) → is_line bs ≡ true → (bs ≡ line_text (line_of bs)) × IsFine (line_of bs)
line_text_lem bs h = let t = (read_line_lem bs (line_of bs)).0 (line_reads bs h) in (t.0, is_fine (line_of bs) t.1)

-- ---- numbers that agree with what is known

known_stays : (f : Line → ℕ) (xs ys : List Line) → (known f xs ≡ 0 → ⊥) → known f (xs ++ ys) ≡ known f xs
unfolding known
known_stays f [] ys n = absurd (n refl)
known_stays f (x ∷ xs) ys n = go (known_stays f xs ys) (eqb (f x) 0) refl n
  where
    go : ((known f xs ≡ 0 → ⊥) → known f (xs ++ ys) ≡ known f xs) → (t : Bool) → eqb (f x) 0 ≡ t → (cond t (known f xs) (f x) ≡ 0 → ⊥)
        → cond t (known f (xs ++ ys)) (f x) ≡ cond t (known f xs) (f x)
    go later true q n = later n
    go later false q n = refl

-- a number that is there is what is known, after it
agreed : (a b : ℕ) → agree a b ≡ true → (b ≡ 0 → ⊥) → cond (eqb a 0) b a ≡ b
agreed a b h n =
    ⊎_elim (λ e. rw (eq-eqb a 0 (eqb-true a 0 e)))
    (λ e. ⊎_elim (λ z. absurd (n (eqb-true b 0 z))) (λ s. go (eqb a 0) (eqb-true a b s)) (either (eqb b 0) (eqb a b) e))
    (either (eqb a 0) _ h)
  where
    go : (t : Bool) → a ≡ b → cond t b a ≡ b
    go true e = refl
    go false e = e

module _ (f : Line → ℕ) (xs : List Line) (d : Line) (e : ℕ) (h : e < length xs)
    (agrees : agree (known f (take e xs)) (f (get_or xs e d)) ≡ true) where
  pub known_is : (f (get_or xs e d) ≡ 0 → ⊥) → f (get_or xs e d) ≡ known f xs
  known_is n =
      let x : Line = get_or xs e d in
      let here : known f (take (suc e) xs) ≡ f x =
      ap (known f) (take-suc xs e d h) ∙ known_more f (take e xs) x ∙ agreed (known f (take e xs)) (f x) agrees n in
      let there : known f (take (suc e) xs) ≡ 0 → ⊥ = λ z. n (sym here ∙ z) in
      sym here ∙ sym (known_stays f (take (suc e) xs) (drop (suc e) xs) there) ∙ ap (known f) (take-append-drop (suc e) xs)

-- ---- a sound text

pub record SoundLine (s : Outline) (bs : List ℕ) : Type 0 where
  pub read : is_line bs ≡ true
  pub mark : (line_mark (line_of bs) ≡ 0 → ⊥) → line_mark (line_of bs) ≡ s.mark
  pub letters : line_letters (line_of bs) ≡ s.l
  pub no_zero : has_zero (line_of bs).listed ≡ false

-- a text is sound where it has a byte and the tests of each line hold
pub text_holds : (text : List ℕ) → 0 < length text
    → ((e : ℕ) → e < length (lines_of text) → first (tests_at text e) sound ≡ given sound)
    → scanning text ≡ given (outline_of (lines_in text))
unfolding text_tests
text_holds text some_byte each =
    first_pass _ _ _ _ _ (lt-ltb 0 (length text) some_byte)
    ∙ first_given_any _ _ _ (outline_of (lines_in text))
    (turns_hold (tests_at text) (length (lines_of text)) 0 (λ i h.
    let here : 0 + i ≡ i = omega arith in
    rw here (each i h)))

module _ (text : List ℕ) {s : Outline} (holds : scanning text ≡ given s) where
  pub sound_outline : s ≡ outline_of (lines_in text)
  sound_outline = sym (first_value (text_tests text) (outline_of (lines_in text)) s holds)

  pub sound_count : s.m ≡ length (lines_of text)
  sound_count = ap (λ (t : Outline). t.m) sound_outline ∙ length-map (lines_of text) line_of

  holds_at : (e : ℕ) → e < length (lines_of text) → first (tests_at text e) sound ≡ given sound
  unfolding text_tests
  holds_at e h =
      let here : 0 + e ≡ e = omega arith in
      rw here at (turns_held (tests_at text) (length (lines_of text)) 0 e (first_given_any _ _ _ sound (first_passed _ _ _ _ _ _ holds).1) h)

  pub sound_line : (e : ℕ) → e < length (lines_of text) → SoundLine s (get_or (lines_of text) e [])
  unfolding line_tests said_tests
  sound_line e h =
      let bs : List ℕ = get_or (lines_of text) e [] in
      let read = first_passed _ _ _ _ _ _ (holds_at e h) in
      let mark = first_passed _ _ _ _ _ _ read.1 in
      let letters = first_passed _ _ _ _ _ _ mark.1 in
      let no_zero = first_passed _ _ _ _ _ _ letters.1 in
      let same : get_or (lines_in text) e (line_of []) ≡ line_of bs = get_or-map line_of (lines_of text) e [] in
      let within : e < length (lines_in text) = omega (arith, length-map (lines_of text) line_of) in
      let some_letter = (line_text_lem bs read.0).1.some_letter in
      record {
        read = read.0;
        mark = λ n. rw same at (known_is line_mark (lines_in text) (line_of []) e within (rw same mark.0) (rw same n)) ∙ sym (ap (λ (t : Outline). t.mark) sound_outline);
        letters =
            rw same at (known_is line_letters (lines_in text) (line_of []) e within (rw same letters.0) (rw same (λ z. omega arith)))
            ∙ sym (ap (λ (t : Outline). t.l) sound_outline);
        no_zero = not-true (has_zero (line_of bs).listed) no_zero.0;
      }
