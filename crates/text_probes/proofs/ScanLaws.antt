-- Laws of scanning a text: the lines so far, a line more, and the end. Assumes nothing.
use mathlib.Core.Path.{◌≡◌, refl, sym, ap, ◌∙◌}
use mathlib.Core.List.{List, [], ◌∷◌, ◌++◌}
use mathlib.Core.Option.{none, some}
use Prim.Native.Nat.{ℕ, ◌+◌, ◌-◌, ◌≤◌, ◌<◌}
use native.Mathlib.Numerals.{add-one}
use native.Mathlib.Omega.{arith}
use lib.ListN.{length, get_or, take, drop, length-drop, length-map, get_or-map}
use lib.Seq.{take-suc, take_all}
use borrow.Author.Tests.{lt-ltb, le-ltb}
use Rattle.base_answers.specs.Numbers.{Text}
use Rattle.base_answers.specs.Answer.{given, refused, first, sound}
use Rattle.base_lists.specs.Row.{in_turn}
use Rattle.base_answers.proofs.Laws.{first_pass, first_fail, first_value, first_refused_any, first_given_any, turn_holds, turn_refused, turns_end}
use Rattle.text_probes.specs.declared.line.Marked.{Marked}
use Rattle.text_probes.specs.declared.scanning.Outline.{Outline}
use Rattle.text_probes.specs.Line.{Line}
use Rattle.text_probes.specs.Reading.{Read, read_first}
use Rattle.text_probes.specs.Lines.{lines_of, line_of, lines_in}
use Rattle.text_probes.specs.Testing.{line_letters, known, outline_of, said_tests, line_tests, tests_at, text_tests, scanning}
use Rattle.text_probes.specs.Says.{outline_after, next_outline}
use Rattle.text_probes.proofs.LinesLaws.{first_line, lines_passed, more_lines, this_line, end_within, left_next}
use Rattle.text_probes.proofs.FirstLaws.{Begins, begins, begins_none}
use Rattle.text_probes.proofs.TestLaws.{line_no_text, line_later, outline_more}

-- ---- the lines so far

pub record SoFar (text : List ℕ) (s : Outline) (at : ℕ) : Type 0 where
  pub within : at ≤ length text
  pub count : s.m ≤ at
  pub left : lines_of (drop at text) ≡ drop s.m (lines_of text)
  pub outline : s ≡ outline_of (take s.m (lines_in text))
  pub tests : first (in_turn (tests_at text) s.m (length (lines_of text) - s.m)) (outline_of (lines_in text)) ≡ scanning text

module _ (text : List ℕ) where
  pub scan_empty : length text ≡ 0 → refused Text 1 ≡ scanning text
  unfolding text_tests
  scan_empty e = sym (first_fail _ _ _ _ _ (le-ltb 0 (length text) (omega arith)))

  pub scan_start : (length text ≡ 0 → ⊥) → SoFar text (record { mark = 0; l = 0; m = 0 }) 0
  unfolding text_tests known
  scan_start n =
      let whole : length (lines_of text) - 0 ≡ length (lines_of text) = omega arith in
      record {
        within = omega arith;
        count = omega arith;
        left = refl;
        outline = refl;
        tests = rw whole (sym (first_pass _ _ _ _ _ (lt-ltb 0 (length text) (omega arith))));
      }

  module _ (s : Outline) (at : ℕ) (so_far : SoFar text s at) where
    pub scan_end : length text ≤ at → given s ≡ scanning text
    scan_end h =
        let beyond : length (lines_of text) ≤ s.m = lines_passed text at s.m so_far.left h in
        let all : take s.m (lines_in text) ≡ lines_in text = take_all s.m (lines_in text) (omega (arith, length-map (lines_of text) line_of)) in
        ap given (so_far.outline ∙ ap outline_of all)
        ∙ sym (turns_end (tests_at text) (length (lines_of text)) s.m (outline_of (lines_in text)) beyond)
        ∙ so_far.tests

    module _ (h : at < length text) where
      more : s.m < length (lines_of text)
      more = more_lines text at s.m so_far.left h

      this : get_or (lines_of text) s.m [] ≡ first_line (drop at text)
      this = this_line text at s.m so_far.left h

      -- its tests
      these_tests : tests_at text s.m ≡ line_tests s (first_line (drop at text))
      these_tests =
          ap (line_tests (outline_of (take s.m (lines_in text)))) this
          ∙ ap (λ (t : Outline). line_tests t (first_line (drop at text))) (sym so_far.outline)

      some_left : 0 < length (drop at text)
      some_left = omega (arith, length-drop at text)

      pub scan_no_text : read_first (drop at text) ≡ none → refused Text (s.m + 1) ≡ scanning text
      scan_no_text e =
          let own : first (tests_at text s.m) sound ≡ refused Text (s.m + 1) =
          rw these_tests (line_no_text s (first_line (drop at text)) sound (begins_none (drop at text) some_left e)) in
          sym (turn_refused (tests_at text) (length (lines_of text)) s.m (outline_of (lines_in text)) more own) ∙ so_far.tests

      module _ {r : Read Line} (read : read_first (drop at text) ≡ some r) where
        its : Begins (drop at text) r
        its = begins (drop at text) r read

        abbrev letters : ℕ
        letters = length r.what.word

        abbrev listed : Marked
        listed = r.what.listed

        -- the tests of this line, after that of its text
        these_later : {A : Type 0} (a : A) → first (tests_at text s.m) a ≡ first (said_tests s letters listed) a
        these_later a =
            rw these_tests (line_later s (first_line (drop at text)) a its.is_line_lem
            ∙ ap (λ (x : Line). first (said_tests s (line_letters x) x.listed) a) its.reads)

        pub scan_refused : {n p : ℕ} → first (said_tests s letters listed) (outline_after s letters listed) ≡ refused n p → refused n p ≡ scanning text
        scan_refused {n} {p} said =
            let own : first (tests_at text s.m) sound ≡ refused n p = these_later sound ∙ first_refused_any _ _ sound said in
            sym (turn_refused (tests_at text) (length (lines_of text)) s.m (outline_of (lines_in text)) more own) ∙ so_far.tests

        -- line m is the one that was read
        pub this_read : get_or (lines_in text) s.m (line_of []) ≡ r.what
        this_read = get_or-map line_of (lines_of text) s.m [] ∙ ap line_of this ∙ its.reads

        pub more_in : s.m < length (lines_in text)
        more_in = omega (arith, length-map (lines_of text) line_of, more)

        module _ {end : ℕ} (rest : drop end text ≡ r.rest) (inside : end ≤ length text) where
          ends : end ≡ at + length (first_line (drop at text))
          ends = omega (arith, its.long, length-drop at text, length-drop end text, ap length rest)

          pub scan_rises : at < end
          scan_rises = (end_within text at s.m so_far.left h ends).0

          pub scan_goes_on : {t : Outline} → first (said_tests s letters listed) (outline_after s letters listed) ≡ given t → SoFar text t end
          scan_goes_on {t} said =
              let own : first (tests_at text s.m) sound ≡ given sound = these_later sound ∙ first_given_any _ _ _ sound said in
              let is-next : t ≡ next_outline s r.what = sym (first_value _ _ _ said) in
              let counted : t.m ≡ s.m + 1 = ap (λ (u : Outline). u.m) is-next in
              let after : lines_of (drop end text) ≡ drop (s.m + 1) (lines_of text) = left_next text at s.m so_far.left h ends in
              let taken : take (s.m + 1) (lines_in text) ≡ take s.m (lines_in text) ++ (r.what ∷ []) =
              ap (λ (n : ℕ). take n (lines_in text)) (add-one s.m)
              ∙ take-suc (lines_in text) s.m (line_of []) more_in
              ∙ ap (λ (x : Line). take s.m (lines_in text) ++ (x ∷ [])) this_read in
              let outlined : next_outline s r.what ≡ outline_of (take (s.m + 1) (lines_in text)) =
              ap (λ (u : Outline). next_outline u r.what) so_far.outline
              ∙ sym (ap outline_of taken ∙ outline_more (take s.m (lines_in text)) r.what) in
              record {
                within = inside;
                count = omega (arith, so_far.count, scan_rises);
                left = rw counted after;
                outline = is-next ∙ outlined ∙ ap (λ (n : ℕ). outline_of (take n (lines_in text))) (sym counted);
                tests = rw counted
                    (turn_holds (tests_at text) (length (lines_of text)) s.m (outline_of (lines_in text)) more own ∙ so_far.tests);
              }
