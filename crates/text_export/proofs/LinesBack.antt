-- The text of fine lines has just these lines. Assumes nothing.
use mathlib.Core.Path.{◌≡◌, refl, sym, ap, ◌∙◌}
use mathlib.Core.Logic.{◌⊎◌, inr, ⊎_elim}
use mathlib.Core.Bool.{Bool, true, false, ◌||◌}
use mathlib.Core.List.{List, [], ◌∷◌, map}
use Prim.Native.Nat.{ℕ, suc, ◌≤◌, ◌<◌}
use native.Mathlib.Omega.{arith}
use lib.ListN.{length, get_or, take, length-append, length-map}
use lib.Seq.{length-take-le, get_or-take}
use lib.Dec.{eqb}
use borrow.Author.Tests.{eq-eqb}
use Rattle.base_answers.specs.Answer.{given, sound, first}
use Rattle.text_probes.specs.Line.{Line, line_text, fine}
use Rattle.text_probes.specs.Reading.{newline}
use Rattle.text_probes.specs.Lines.{lines_of, line_of, lines_in}
use Rattle.text_probes.specs.Testing.{has_zero, line_mark, line_letters, known, outline_of, agree, tests_at, scanning}
use Rattle.text_probes.proofs.LineLaws.{line_ends}
use Rattle.text_probes.proofs.LinesLaws.{lines_none}
use Rattle.text_probes.proofs.TextLaws.{map_at}
use Rattle.text_probes.proofs.FirstLaws.{line_first, reads_back}
use Rattle.text_probes.proofs.TestLaws.{line_later, later_sound, known_in}
use Rattle.text_probes.proofs.SoundLaws.{text_holds}
use Rattle.text_export.specs.Exporting.{text_of}

-- each line is fine
abbrev pub Fines : List Line → Type 0
Fines xs = (i : ℕ) → i < length xs → fine (get_or xs i (line_of [])) ≡ true

-- ---- the lines of a text

pub lines_back : (xs : List Line) → Fines xs → lines_of (text_of xs) ≡ map line_text xs
lines_back [] fines = lines_none
lines_back (x ∷ xs) fines =
    line_first x (text_of xs) (fines 0 (omega arith))
    ∙ ap (λ (ls : List (List ℕ)). line_text x ∷ ls) (lines_back xs (λ i h. fines (suc i) (omega arith)))

map_back : (xs : List Line) → Fines xs → map line_of (map line_text xs) ≡ xs
map_back [] fines = refl
map_back (x ∷ xs) fines =
    ap (λ (y : Line). y ∷ map line_of (map line_text xs)) (reads_back x (fines 0 (omega arith))).1
    ∙ ap (λ (ys : List Line). x ∷ ys) (map_back xs (λ i h. fines (suc i) (omega arith)))

pub read_back : (xs : List Line) → Fines xs → lines_in (text_of xs) ≡ xs
read_back xs fines = ap (map line_of) (lines_back xs fines) ∙ map_back xs fines

-- ---- what is known of lines that agree

pub record Agreeing (k l : ℕ) (x : Line) : Type 0 where
  pub mark : (line_mark x ≡ 0) ⊎ (line_mark x ≡ k)
  pub letters : line_letters x ≡ l
  pub no_zero : has_zero x.listed ≡ false

agree_in : (a b k : ℕ) → (a ≡ 0) ⊎ (a ≡ k) → (b ≡ 0) ⊎ (b ≡ k) → agree a b ≡ true
agree_in a b k =
    ⊎_elim (λ e q. rw (eq-eqb a 0 e))
    (λ e. ⊎_elim (λ q. rw (eq-eqb b 0 q) (or_true (eqb a 0))) (λ q. rw (eq-eqb a b (e ∙ sym q)) (or_true_2 (eqb a 0) (eqb b 0))))
  where
    or_true : (t : Bool) → (t || true) ≡ true
    or_true true = refl
    or_true false = refl

    or_true_2 : (t u : Bool) → (t || (u || true)) ≡ true
    or_true_2 true u = refl
    or_true_2 false u = or_true u

-- ---- a text of lines that agree is sound

module _ (k l : ℕ) (xs : List Line) (fines : Fines xs) (agreeing : (i : ℕ) → i < length xs → Agreeing k l (get_or xs i (line_of []))) where
  start_in : (f : Line → ℕ) (n : ℕ) → ((x : Line) → Agreeing k l x → (f x ≡ 0) ⊎ (f x ≡ n)) → (e : ℕ) → e ≤ length xs
      → (known f (take e xs) ≡ 0) ⊎ (known f (take e xs) ≡ n)
  start_in f n of e h =
      known_in f n (take e xs) (λ i g.
      let short : i < e = omega (arith, length-take-le e xs h) in
      rw (get_or-take e xs i (line_of []) short) (of (get_or xs i (line_of [])) (agreeing i (omega arith))))

  line_holds : (e : ℕ) → e < length xs → first (tests_at (text_of xs) e) sound ≡ given sound
  line_holds e h =
      let x : Line = get_or xs e (line_of []) in
      let own = agreeing e h in
      let this : get_or (lines_of (text_of xs)) e [] ≡ line_text (get_or xs e (line_of [])) =
      ap (λ (ls : List (List ℕ)). get_or ls e []) (lines_back xs fines) ∙ map_at line_text xs e (line_of []) [] h in
      let back = reads_back (get_or xs e (line_of [])) (fines e h) in
      let before : outline_of (take e (lines_in (text_of xs))) ≡ outline_of (take e xs) =
      ap (λ (ys : List Line). outline_of (take e ys)) (read_back xs fines) in
      let marks = start_in line_mark k (λ y a. a.mark) e (omega arith) in
      let letters = start_in line_letters l (λ y a. inr a.letters) e (omega arith) in
      rw (before, this)
      (line_later (outline_of (take e xs)) (line_text (get_or xs e (line_of []))) sound back.0
      ∙ rw back.1 (later_sound (outline_of (take e xs)) (line_letters x) x.listed sound
      (agree_in (known line_mark (take e xs)) (line_mark x) k marks own.mark)
      (agree_in (known line_letters (take e xs)) (line_letters x) l letters (inr own.letters)) own.no_zero))

  pub text_sound : 0 < length xs → scanning (text_of xs) ≡ given (outline_of (lines_in (text_of xs)))
  text_sound some_line =
      let many : length (lines_of (text_of xs)) ≡ length xs = ap length (lines_back xs fines) ∙ length-map xs line_text in
      text_holds (text_of xs) (text_some xs some_line fines) (λ i h. line_holds i (omega arith))
    where
      text_some : (ys : List Line) → 0 < length ys → Fines ys → 0 < length (text_of ys)
      text_some [] h all = absurd (omega arith)
      text_some (y ∷ ys) h all =
          let e = line_ends y (all 0 (omega arith)) in
          omega (arith, length-append (line_text y) (text_of ys), ap length e.text, length-append e.body (newline ∷ []))
