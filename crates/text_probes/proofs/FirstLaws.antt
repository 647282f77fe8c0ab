-- The first line of a text, read: it is read exactly where a line stands at the start of the text. Assumes nothing.
use mathlib.Core.Path.{◌≡◌, refl, sym, ap, ◌∙◌}
use mathlib.Core.Bool.{true, false}
use mathlib.Core.List.{List, [], ◌∷◌, ◌++◌, append_assoc}
use mathlib.Core.Option.{Option, none, some}
use Prim.Native.Nat.{ℕ, ◌+◌, ◌<◌}
use native.Mathlib.Omega.{arith}
use lib.ListN.{length, get_or, take, drop, length-append, take-append-drop}
use lib.Seq.{take-append-add, drop-append-add}
use Rattle.text_probes.specs.Line.{Line, line_text, fine}
use Rattle.text_probes.specs.Reading.{newline, Read, read_first, read_line}
use Rattle.text_probes.specs.Lines.{is_some, lines_of, is_line, line_of}
use Rattle.text_probes.proofs.FindLaws.{first_at, at_mark}
use Rattle.text_probes.proofs.LineLaws.{first_read, first_text, line_ends, read_line_lem}
use Rattle.text_probes.proofs.LinesLaws.{first_line, lines_first, first_is}

pub line_first : (x : Line) (ys : List ℕ) → fine x ≡ true → lines_of (line_text x ++ ys) ≡ line_text x ∷ lines_of ys
line_first x ys h =
    let e = line_ends x h in
    let whole : line_text x ++ ys ≡ e.body ++ (newline ∷ ys) =
    ap (λ (xs : List ℕ). xs ++ ys) e.text ∙ append_assoc e.body (newline ∷ []) ys in
    let at : first_at newline (e.body ++ (newline ∷ ys)) ≡ length e.body = at_mark newline e.body ys e.only in
    let some_byte : 0 < length (e.body ++ (newline ∷ ys)) = omega (arith, length-append e.body (newline ∷ ys)) in
    let front : take (length e.body + 1) (e.body ++ (newline ∷ ys)) ≡ e.body ++ (newline ∷ []) = take-append-add e.body (newline ∷ ys) 1 in
    let back : drop (length e.body + 1) (e.body ++ (newline ∷ ys)) ≡ ys = drop-append-add e.body (newline ∷ ys) 1 in
    let cut : lines_of (e.body ++ (newline ∷ ys)) ≡ (e.body ++ (newline ∷ [])) ∷ lines_of ys =
    rw (front, back) at (rw at at (lines_first (e.body ++ (newline ∷ ys)) some_byte)) in
    ap lines_of whole ∙ cut ∙ ap (λ (l : List ℕ). l ∷ lines_of ys) (sym e.text)

-- the text of a fine line is a line, and is read as that
pub reads_back : (x : Line) → fine x ≡ true → (is_line (line_text x) ≡ true) × (line_of (line_text x) ≡ x)
unfolding is_line line_of
reads_back x h = let e : read_line (line_text x) ≡ some x = (read_line_lem (line_text x) x).1 (refl, h) in rw e (refl, refl)

-- a line stands at the start
pub record Begins (xs : List ℕ) (r : Read Line) : Type 0 where
  pub is_line_lem : is_line (first_line xs) ≡ true
  pub reads : line_of (first_line xs) ≡ r.what
  pub long : length xs ≡ length (first_line xs) + length r.rest
  pub is_fine : fine r.what ≡ true

pub begins : (xs : List ℕ) (r : Read Line) → read_first xs ≡ some r → Begins xs r
begins xs r e =
    let read = first_read xs r e in
    let this : first_line xs ≡ line_text r.what =
    ap first_line read.text ∙ ap (λ (ls : List (List ℕ)). get_or ls 0 []) (line_first r.what r.rest read.is_fine) in
    let back = reads_back r.what read.is_fine in
    record {
      is_line_lem = ap is_line this ∙ back.0;
      reads = ap line_of this ∙ back.1;
      long = ap length read.text ∙ length-append (line_text r.what) r.rest ∙ ap (λ (n : ℕ). n + length r.rest) (ap length (sym this));
      is_fine = read.is_fine;
    }

-- none does
pub begins_none : (xs : List ℕ) → 0 < length xs → read_first xs ≡ none → is_line (first_line xs) ≡ false
unfolding is_line
begins_none xs h e = go (read_line (first_line xs)) refl
  where
    go : (o : Option Line) → read_line (first_line xs) ≡ o → is_some o ≡ false
    go none q = refl
    go (some x) q =
        let read = (read_line_lem (first_line xs) x).0 q in
        let start : take (length (first_line xs)) xs ++ drop (length (first_line xs)) xs ≡ xs = take-append-drop (length (first_line xs)) xs in
        let whole : xs ≡ line_text x ++ drop (length (first_line xs)) xs =
        sym start ∙ ap (λ (ys : List ℕ). ys ++ drop (length (first_line xs)) xs) ((first_is xs h).0 ∙ read.0) in
        let found = ap read_first whole ∙ first_text x (drop (length (first_line xs)) xs) read.1 in
        let z : ◌≡◌ {A = ℕ} 0 1 = cc in
        absurd (omega arith)
