-- What each rule of a text says of a line, in the document's words: "24 Mixed at the first line whose mark differs from an earlier one,
-- 25 Uneven where a word's length isn't l, 26 Zero for place 0; … in that order within a line." Assumes nothing.
use mathlib.Core.Path.{◌≡◌, refl, sym, ap, ◌∙◌}
use mathlib.Core.Logic.{⊎_elim}
use mathlib.Core.Bool.{Bool, true, false, ◌||◌}
use mathlib.Core.List.{List, []}
use Prim.Native.Nat.{ℕ, ◌<◌}
use native.Mathlib.Omega.{arith}
use lib.ListN.{length, get_or, take}
use lib.Seq.{length-take-le, get_or-take, take-take}
use lib.Dec.{eqb}
use borrow.Author.Tests.{ne_eqb, eqb-true, eqb-false}
use Rattle.base_answers.specs.Answer.{given, sound, first}
use Rattle.base_answers.proofs.Laws.{first_passed}
use Rattle.text_probes.specs.Line.{Line}
use Rattle.text_probes.specs.Lines.{lines_of, is_line, line_of, lines_in, line_in}
use Rattle.text_probes.specs.Testing.{line_mark, line_letters, known, outline_of, agree, said_tests, line_tests, tests_at}
use Rattle.text_probes.proofs.NumberLaws.{lt_or_le}
use Rattle.text_probes.proofs.SoundLaws.{line_text_lem, known_is}
use Rattle.text_probes.proofs.TextLaws.{line_in_lem, lines_many}
use Rattle.text_probes.proofs.FaultLaws.{Breaks, no_line, mixed, uneven, has_zero_lem}
use Rattle.text_probes.specs.Faults.{Differs, Wrong, no_text, other_mark, other_length, place_0}
use Rattle.text_probes.proofs.MarkLaws.{known_some, known_first}

neither : (t u : Bool) → (t || u) ≡ false → (t ≡ false) × (u ≡ false)
neither true u e = let z : ◌≡◌ {A = ℕ} 0 1 = cc in absurd (omega arith)
neither false u e = (refl, e)

not_both : {t : Bool} → t ≡ true → t ≡ false → ⊥
not_both p q = let z : ◌≡◌ {A = ℕ} 0 1 = cc in omega arith

holds : (t : Bool) → (t ≡ false → ⊥) → t ≡ true
holds true n = refl
holds false n = absurd (n refl)

-- numbers that do not differ are equal
equal : (a b : ℕ) → ((a ≡ b → ⊥) → ⊥) → a ≡ b
equal a b n = eqb-true a b (holds (eqb a b) (λ q. n (eqb-false a b q)))

-- both are there, and they differ
apart : (a b : ℕ) → (a ≡ 0 → ⊥) → (b ≡ 0 → ⊥) → (a ≡ b → ⊥) → agree a b ≡ false
apart a b x y z = rw (ne_eqb a 0 x, ne_eqb b 0 y) (ne_eqb a b z)

disagree : (a b : ℕ) → agree a b ≡ false → (a ≡ 0 → ⊥) × (b ≡ 0 → ⊥) × (a ≡ b → ⊥)
disagree a b h =
    let outer = neither (eqb a 0) _ h in
    let inner = neither (eqb b 0) (eqb a b) outer.1 in
    (eqb-false a 0 outer.0, eqb-false b 0 inner.0, eqb-false a b inner.1)

module _ (text : List ℕ) (e : ℕ) (within : e < length (lines_of text)) (before : (i : ℕ) → i < e → first (tests_at text i) sound ≡ given sound) where
  abbrev start : List Line
  start = take e (lines_in text)

  start_long : length start ≡ e
  start_long = length-take-le e (lines_in text) (omega (arith, lines_many text))

  start_at : (i : ℕ) → i < e → get_or start i (line_of []) ≡ line_in text i
  start_at i h = get_or-take e (lines_in text) i (line_of []) h

  -- ---- the mark

  mark_known : (i : ℕ) → i < e → (line_mark (line_in text i) ≡ 0 → ⊥) → line_mark (line_in text i) ≡ known line_mark start
  unfolding line_tests said_tests
  mark_known i h n =
      let rest = (first_passed _ _ _ _ _ _ (before i h)).1 in
      let agrees : agree (known line_mark (take i (lines_in text))) (line_mark (line_in text i)) ≡ true =
      rw (line_in_lem text i) (first_passed _ _ _ _ _ _ rest).0 in
      rw (start_at i h) at (known_is line_mark start (line_of []) i (omega (arith, start_long))
      (rw (take-take i e (lines_in text) (omega arith), start_at i h) agrees) (rw (start_at i h) n))

  mark_differs : agree (known line_mark start) (line_mark (line_in text e)) ≡ false → Differs text e
  mark_differs h =
      let away = disagree (known line_mark start) (line_mark (line_in text e)) h in
      let k = known_some line_mark start (line_of []) away.0 in
      let earlier : k.at < e = omega (arith, k.within, start_long) in
      let same : line_mark (line_in text k.at) ≡ known line_mark start = ap line_mark (sym (start_at k.at earlier)) ∙ k.is in
      record {
        earlier = k.at;
        before = earlier;
        its_mark = λ z. away.0 (sym same ∙ z);
        own_mark = away.1;
        differs = λ z. away.2 (sym same ∙ z);
      }

  differs_mark : Differs text e → agree (known line_mark start) (line_mark (line_in text e)) ≡ false
  differs_mark d =
      rw (sym (mark_known d.earlier d.before d.its_mark))
      (apart (line_mark (line_in text d.earlier)) (line_mark (line_in text e)) d.its_mark d.own_mark d.differs)

  mark_same : (Differs text e → ⊥) → agree (known line_mark start) (line_mark (line_in text e)) ≡ true
  mark_same n = holds (agree (known line_mark start) (line_mark (line_in text e))) (λ f. n (mark_differs f))

  -- ---- the letters

  some_letter : (i : ℕ) → is_line (get_or (lines_of text) i []) ≡ true → 0 < line_letters (line_in text i)
  some_letter i read = rw (line_in_lem text i) (line_text_lem (get_or (lines_of text) i []) read).1.some_letter

  -- the first line is sound, where it stands before the line e
  first_letter : 0 < e → 0 < line_letters (line_in text 0)
  unfolding line_tests said_tests
  first_letter h = some_letter 0 (first_passed _ _ _ _ _ _ (before 0 h)).0

  letters_known : 0 < e → known line_letters start ≡ line_letters (line_in text 0)
  letters_known h =
      let first = start_at 0 h in
      known_first line_letters start (line_of []) (omega (arith, start_long)) (rw first (first_letter h)) ∙ ap line_letters first

  length_differs : agree (known line_letters start) (line_letters (line_in text e)) ≡ false
      → line_letters (line_in text e) ≡ line_letters (line_in text 0) → ⊥
  length_differs h same =
      let away = disagree (known line_letters start) (line_letters (line_in text e)) h in
      let k = known_some line_letters start (line_of []) away.0 in
      away.2 (letters_known (omega (arith, k.within, start_long)) ∙ sym same)

  differs_length : is_line (get_or (lines_of text) e []) ≡ true → (line_letters (line_in text e) ≡ line_letters (line_in text 0) → ⊥)
      → agree (known line_letters start) (line_letters (line_in text e)) ≡ false
  differs_length read n =
      ⊎_elim (λ h. rw (letters_known h)
      (apart (line_letters (line_in text 0)) (line_letters (line_in text e)) (λ z. omega (arith, first_letter h))
      (λ z. omega (arith, some_letter e read)) (λ z. n (sym z))))
      (λ h. let first : e ≡ 0 = omega arith in absurd (n (ap (λ (i : ℕ). line_letters (line_in text i)) first)))
      (lt_or_le 0 e)

  -- ---- the rules

  pub breaks_wrong : {n : ℕ} → Breaks (outline_of start) (get_or (lines_of text) e []) n → Wrong text e n
  breaks_wrong (no_line h) = no_text h
  breaks_wrong (mixed read h) = other_mark read (mark_differs (rw (line_in_lem text e) h))
  breaks_wrong (uneven read mark h) =
      other_length read (λ d. not_both (rw (line_in_lem text e) mark) (differs_mark d)) (length_differs (rw (line_in_lem text e) h))
  breaks_wrong (has_zero_lem read mark even h) =
      place_0 read (λ d. not_both (rw (line_in_lem text e) mark) (differs_mark d))
      (equal (line_letters (line_in text e)) (line_letters (line_in text 0)) (λ n. not_both (rw (line_in_lem text e) even) (differs_length read n)))
      (rw (line_in_lem text e) h)

  pub wrong_breaks : {n : ℕ} → Wrong text e n → Breaks (outline_of start) (get_or (lines_of text) e []) n
  wrong_breaks (no_text h) = no_line h
  wrong_breaks (other_mark read d) = mixed read (rw (line_in_lem text e) at (differs_mark d))
  wrong_breaks (other_length read same n) = uneven read (rw (line_in_lem text e) at (mark_same same)) (rw (line_in_lem text e) at (differs_length read n))
  wrong_breaks (place_0 read same even h) =
      has_zero_lem read (rw (line_in_lem text e) at (mark_same same))
      (rw (line_in_lem text e) at (holds (agree (known line_letters start) (line_letters (line_in text e))) (λ f. length_differs f even)))
      (rw (line_in_lem text e) at h)
