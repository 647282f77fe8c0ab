-- What comes back of an imported list: the list itself, but that on a span list a bare p is p-p. Assumes nothing.
use mathlib.Core.Path.{◌≡◌, refl, sym, ap, ◌∙◌}
use mathlib.Core.Logic.{◌⊎◌, inl, inr, ⊎_elim}
use mathlib.Core.Bool.{Bool, true, false, cond}
use mathlib.Core.List.{List, [], ◌∷◌, ◌++◌, map}
use Prim.Native.Nat.{ℕ, suc, ◌+◌, ◌-◌, ◌<◌}
use native.Mathlib.Omega.{arith}
use lib.ListN.{length, get_or}
use lib.Dec.{leb, eqb}
use borrow.Author.Tests.{leb-true, ne_eqb, eqb-true, eqb-false}
use Rattle.base_answers.specs.Answer.{given}
use Rattle.base_lists.specs.Row.{row}
use Rattle.base_lists.proofs.RowLaws.{row_same, map_row, row_of}
use Rattle.base_lists.proofs.TestLaws.{both}
use Rattle.card_entries.specs.Fault.{pair, span, no_place}
use Rattle.build_sequence.specs.Build.{letters_of}
use Rattle.card_layout.specs.Layout.{told_by, slot_of}
use Rattle.text_probes.specs.declared.line.Marked.{Marked}
use Rattle.text_probes.specs.declared.line.Marked.TheVariants.{Bare, Two, Run}
use Rattle.text_probes.specs.declared.scanning.Outline.{Outline}
use Rattle.text_probes.specs.Line.{Line, line_text, most_number, is_small}
use Rattle.text_probes.specs.Lines.{lines_of, line_of, lines_in, line_in}
use Rattle.text_probes.specs.Testing.{mark_of, has_zero, line_mark, scanning}
use Rattle.text_probes.specs.Listing.{value_of, one_of, two_of}
use Rattle.text_probes.proofs.NoShift.{some_both}
use Rattle.text_probes.proofs.TextLaws.{whole, lines_whole, lines_many}
use Rattle.text_import.specs.Importing.{kind_in, letters_in, words_in, card_in}
use Rattle.text_import.proofs.WordBack.{letters_value}
use Rattle.text_import.proofs.SoundCard.{slot_for, slot_for_lem, OwnLine, words_many, told_in, slot_in, own_line, own_text}
use Rattle.text_export.specs.Exporting.{listed_for, line_for, text_of, lines_for, list_of}
use Rattle.text_export.specs.Back.{hyphened, spelled_out, back_of}
use Rattle.text_export.proofs.PutLaws.{for_span, for_one, for_two}

-- ---- a line that became an entry, listed

back_one : (p : ℕ) → 0 < p → p - 1 + 1 ≡ p
back_one p h = omega arith

-- what was listed is listed again
listed_again : (kind w : ℕ) (y : Marked) → is_small y ≡ true → has_zero y ≡ false → ((mark_of y ≡ 0 → ⊥) → mark_of y ≡ kind)
    → listed_for kind (record { word = w; one = one_of y; two = two_of kind y }) ≡ hyphened kind y
listed_again kind w (Bare p) small some of-kind = go (eqb kind span) refl
  where
    above : p - 1 + 1 ≡ p
    above = back_one p (some_both p 1 (rw some)).0

    go : (t : Bool) → eqb kind span ≡ t
        → listed_for kind (record { word = w; one = p - 1; two = cond (eqb kind span) (p - 1) no_place }) ≡ cond (eqb kind span) (Run p p) (Bare p)
    go true e = rw e (sym (for_span kind _ (eqb-true kind span e)) ∙ rw above refl)
    go false e = rw e (sym (for_one kind _ (eqb-false kind span e) refl) ∙ rw above refl)
listed_again kind w (Two p q) small some of-kind =
    let above = some_both p q some in
    let few = leb-true q most_number (both (leb p most_number) (leb q most_number) small).1 in
    let is-pair : pair ≡ kind = of-kind (λ z. omega arith) in
    sym (for_two kind _ (λ e. omega arith) (λ e. omega (arith, above.1))) ∙ rw (back_one p above.0, back_one q above.1) refl
listed_again kind w (Run p q) small some of-kind =
    let above = some_both p q some in
    sym (for_span kind _ (sym (of-kind (λ z. omega arith)))) ∙ rw (back_one p above.0, back_one q above.1) refl

line_again : {text : List ℕ} {x : Line} → OwnLine text x
    → line_for (kind_in text) (letters_in text) (slot_for (kind_in text) x) ≡ spelled_out (kind_in text) x
line_again {text} {x} own =
    let word : letters_of (letters_in text) (value_of x.word) ≡ x.word =
    ap (λ (l : ℕ). letters_of l (value_of x.word)) (sym own.letters) ∙ letters_value x.word own.fine.codes in
    let listed = listed_again (kind_in text) (value_of x.word) x.listed own.fine.small own.no_zero own.mark in
    ap (line_for (kind_in text) (letters_in text)) (slot_for_lem (kind_in text) x) ∙ (λ i. record { word = word i; listed = listed i })

-- ---- the lines of a text

-- each line as it is
map_own : (g : Line → Line) (xs : List Line) (d : Line) → ((e : ℕ) → e < length xs → g (get_or xs e d) ≡ get_or xs e d) → map g xs ≡ xs
map_own g [] d each = refl
map_own g (x ∷ xs) d each =
    ap (λ (y : Line). y ∷ map g xs) (each 0 (omega arith)) ∙ ap (λ (ys : List Line). x ∷ ys) (map_own g xs d (λ e h. each (suc e) (omega arith)))

-- a line comes back as it is where it has a mark, and on a pair list
hyphen_own : (kind : ℕ) (y : Marked) → (kind ≡ pair) ⊎ (mark_of y ≡ 0 → ⊥) → hyphened kind y ≡ y
hyphen_own kind (Bare p) h = ⊎_elim (λ e. rw (ne_eqb kind span (λ z. omega arith))) (λ n. absurd (n refl)) h
hyphen_own kind (Two p q) h = refl
hyphen_own kind (Run p q) h = refl

line_own : (kind : ℕ) (x : Line) → (kind ≡ pair) ⊎ (line_mark x ≡ 0 → ⊥) → spelled_out kind x ≡ x
line_own kind x h = ap (λ (y : Marked). record { word = x.word; listed = y }) (hyphen_own kind x.listed h)

text_lines : (ls : List (List ℕ)) → ((e : ℕ) → e < length ls → line_text (get_or (map line_of ls) e (line_of [])) ≡ get_or ls e [])
    → text_of (map line_of ls) ≡ whole ls
text_lines [] each = refl
text_lines (l ∷ ls) each =
    ap (λ (t : List ℕ). t ++ text_of (map line_of ls)) (each 0 (omega arith))
    ∙ ap (λ (t : List ℕ). l ++ t) (text_lines ls (λ e h. each (suc e) (omega arith)))

module _ (text : List ℕ) {s : Outline} (holds : scanning text ≡ given s) where
  lines_again : lines_for (told_by (card_in text)) (slot_of (card_in text)) ≡ map (spelled_out (kind_in text)) (lines_in text)
  lines_again =
      let kind : ℕ = kind_in text in
      let many : length (words_in text) ≡ length (lines_in text) = words_many text ∙ sym (lines_many text) in
      rw (told_in text)
      (row_same (λ e. line_for kind (letters_in text) (slot_of (card_in text) e)) (λ e. spelled_out kind (line_in text e)) 0 (length (words_in text)) (λ e h.
      let here : 0 + e ≡ e = omega arith in
      let within : e < length (lines_of text) = omega (arith, words_many text) in
      rw here (ap (line_for kind (letters_in text)) (slot_in text e within) ∙ line_again (own_line text holds e within)))
      ∙ sym (map_row (spelled_out kind) (line_in text) 0 (length (words_in text)))
      ∙ ap (λ (n : ℕ). map (spelled_out kind) (row (line_in text) 0 n)) many
      ∙ ap (map (spelled_out kind)) (row_of (line_of []) (lines_in text)))

  -- the list of its card
  pub list_again : list_of (card_in text) ≡ back_of text
  list_again = ap text_of lines_again

  -- the text of its lines is the text
  pub text_again : text_of (lines_in text) ≡ text
  text_again = text_lines (lines_of text) (λ e h. own_text text holds e h) ∙ lines_whole text

  -- a bare number on a span list is the one exception
  pub own_list : (kind_in text ≡ pair) ⊎ ((e : ℕ) → e < length (lines_of text) → line_mark (line_in text e) ≡ 0 → ⊥) → list_of (card_in text) ≡ text
  own_list h =
      let each : (e : ℕ) → e < length (lines_of text) → (kind_in text ≡ pair) ⊎ (line_mark (line_in text e) ≡ 0 → ⊥) =
      λ e g. ⊎_elim inl (λ marked. inr (marked e g)) h in
      list_again
      ∙ ap text_of (map_own (spelled_out (kind_in text)) (lines_in text) (line_of []) (λ e g.
      line_own (kind_in text) (line_in text e) (each e (omega (arith, lines_many text)))))
      ∙ text_again
