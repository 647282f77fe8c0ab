-- A line that is read is its text: `read_line` reads exactly the texts of fine lines. Assumes nothing.
use mathlib.Core.Path.{◌≡◌, refl, sym, ap, ◌∙◌}
use mathlib.Core.Logic.{◌↔◌}
use mathlib.Core.Bool.{Bool, true, false, cond, ◌&&◌}
use mathlib.Core.List.{List, [], ◌∷◌, ◌++◌, map, append_assoc, append-nil}
use mathlib.Core.Option.{Option, none, some}
use Prim.Native.Nat.{ℕ, ◌<◌}
use native.Mathlib.Omega.{arith}
use lib.ListN.{length}
use lib.Dec.{eqb, ltb}
use borrow.Author.Tests.{eq-eqb, eqb-true, ltb-true, lt-ltb}
use Rattle.base_lists.proofs.TestLaws.{both}
use Rattle.base_letters.specs.Letters.{letter_of}
use Rattle.base_letters.proofs.Inverse.{no_capital}
use Rattle.text_probes.specs.declared.line.Marked.{Marked}
use Rattle.text_probes.specs.Line.{Line, listed_text, line_text, are_codes, is_small, fine}
use Rattle.text_probes.specs.Reading.{
  tab,
  newline,
  Read,
  read_codes,
  read_listed,
  after,
  ended,
  line_from,
  tabbed,
  read_first,
  alone,
  whole_of,
  read_line,
}
use Rattle.text_probes.proofs.FindLaws.{first_at, lack_joined, lack_one}
use Rattle.text_probes.proofs.WordLaws.{letters_read, letters_text, word_lacks}
use Rattle.text_probes.proofs.ListedLaws.{Listed, listed_read, listed_text_lem, listed_lacks}

-- ---- what is fine

pub record IsFine (x : Line) : Type 0 where
  pub some_letter : 0 < length x.word
  pub codes : are_codes x.word ≡ true
  pub small : is_small x.listed ≡ true

pub is_fine : (x : Line) → fine x ≡ true → IsFine x
unfolding fine
is_fine x h =
    let parts = both (ltb 0 (length x.word)) (are_codes x.word && is_small x.listed) h in
    let later = both (are_codes x.word) (is_small x.listed) parts.1 in
    record { some_letter = ltb-true 0 (length x.word) parts.0; codes = later.0; small = later.1 }

pub fine_is : (x : Line) → IsFine x → fine x ≡ true
unfolding fine
fine_is x f = rw (lt-ltb 0 (length x.word) f.some_letter, f.codes) f.small

-- ---- the line at the start of a text

after_read : (b : ℕ) (xs ys : List ℕ) → after b xs ≡ some ys → xs ≡ b ∷ ys
unfolding after
after_read b [] ys e = let z : ◌≡◌ {A = ℕ} 0 1 = cc in absurd (omega arith)
after_read b (x ∷ xs) ys e = go (eqb x b) refl e
  where
    go : (t : Bool) → eqb x b ≡ t → cond t (some xs) none ≡ some ys → x ∷ xs ≡ b ∷ ys
    go true q e = let same : xs ≡ ys = cc in ap (λ (y : ℕ). y ∷ xs) (eqb-true x b q) ∙ ap (λ (zs : List ℕ). b ∷ zs) same
    go false q e = let z : ◌≡◌ {A = ℕ} 0 1 = cc in absurd (omega arith)

after_text : (b : ℕ) (xs : List ℕ) → after b (b ∷ xs) ≡ some xs
unfolding after
after_text b xs = rw (eq-eqb b b refl) refl

-- its parts, one after the other
pub line_parts : (x : Line) → map letter_of x.word ++ (tab ∷ (listed_text x.listed ++ (newline ∷ []))) ≡ line_text x
unfolding line_text
line_parts x = refl

line_joined : (x : Line) (rest : List ℕ)
    → line_text x ++ rest ≡ map letter_of x.word ++ (tab ∷ (listed_text x.listed ++ (newline ∷ rest)))
unfolding line_text
line_joined x rest =
    append_assoc (map letter_of x.word) (tab ∷ (listed_text x.listed ++ (newline ∷ []))) rest
    ∙ ap (λ (ys : List ℕ). map letter_of x.word ++ (tab ∷ ys)) (append_assoc (listed_text x.listed) (newline ∷ []) rest)

pub record First (xs : List ℕ) (r : Read Line) : Type 0 where
  pub text : xs ≡ line_text r.what ++ r.rest
  pub is_fine : fine r.what ≡ true

pub first_read : (xs : List ℕ) (r : Read Line) → read_first xs ≡ some r → First xs r
unfolding read_first
first_read xs r e = worded (ltb 0 (length (read_codes xs).what)) refl e
  where
    -- its newline
    closed : (y : Read Marked) (ys : List ℕ) → (read_codes xs).rest ≡ tab ∷ ys → Listed ys y → 0 < length (read_codes xs).what → (o : Option (List ℕ))
        → after newline y.rest ≡ o → ended (record { word = (read_codes xs).what; listed = y.what }) o ≡ some r → First xs r
    closed y ys at-tab has h none q e = let z : ◌≡◌ {A = ℕ} 0 1 = cc in absurd (omega arith)
    closed y ys at-tab has h (some rest) q e =
        let same : record { what = record { word = (read_codes xs).what; listed = y.what }; rest = rest } ≡ r = cc in
        let read = letters_read xs in
        rw (sym same) (record {
          text = read.0
              ∙ ap (λ (zs : List ℕ). map letter_of (read_codes xs).what ++ zs) (at-tab ∙ ap (λ (zs : List ℕ). tab ∷ zs) (has.text
              ∙ ap (λ (zs : List ℕ). listed_text y.what ++ zs) (after_read newline y.rest rest q)))
              ∙ sym (line_joined (record { word = (read_codes xs).what; listed = y.what }) rest);
          is_fine = fine_is (record { word = (read_codes xs).what; listed = y.what }) (record { some_letter = h; codes = read.1; small = has.small });
        })

    -- what it lists
    listing : (ys : List ℕ) → (read_codes xs).rest ≡ tab ∷ ys → 0 < length (read_codes xs).what → (o : Option (Read Marked)) → read_listed ys ≡ o
        → line_from (read_codes xs).what o ≡ some r → First xs r
    listing ys at-tab h none q e = let z : ◌≡◌ {A = ℕ} 0 1 = cc in absurd (omega arith)
    listing ys at-tab h (some y) q e = closed y ys at-tab (listed_read ys y q) h (after newline y.rest) refl e

    -- its tab
    tabs : 0 < length (read_codes xs).what → (o : Option (List ℕ)) → after tab (read_codes xs).rest ≡ o → tabbed (read_codes xs).what o ≡ some r → First xs r
    tabs h none q e = let z : ◌≡◌ {A = ℕ} 0 1 = cc in absurd (omega arith)
    tabs h (some ys) q e = listing ys (after_read tab (read_codes xs).rest ys q) h (read_listed ys) refl e

    -- its word
    worded : (t : Bool) → ltb 0 (length (read_codes xs).what) ≡ t
        → cond t (tabbed (read_codes xs).what (after tab (read_codes xs).rest)) none ≡ some r → First xs r
    worded true q e = tabs (ltb-true 0 (length (read_codes xs).what) q) (after tab (read_codes xs).rest) refl e
    worded false q e = let z : ◌≡◌ {A = ℕ} 0 1 = cc in absurd (omega arith)

pub first_text : (x : Line) (rest : List ℕ) → fine x ≡ true → read_first (line_text x ++ rest) ≡ some (record { what = x; rest = rest })
unfolding read_first
first_text x rest h =
    let f = is_fine x h in
    let word = letters_text x.word tab (listed_text x.listed ++ (newline ∷ rest)) f.codes (no_capital tab (omega arith)) in
    let listed = listed_text_lem newline rest refl (λ e. omega arith) (λ e. omega arith) x.listed f.small in
    rw (line_joined x rest) (rw word (rw (lt-ltb 0 (length x.word) f.some_letter, after_text tab (listed_text x.listed ++ (newline ∷ rest)))
    (rw listed (rw (after_text newline rest) refl))))

-- ---- a line

read_text : (bs : List ℕ) (x : Line) → read_line bs ≡ some x → (bs ≡ line_text x) × (fine x ≡ true)
unfolding read_line
read_text bs x e = go (read_first bs) refl e
  where
    stop : (r : Read Line) (rest : List ℕ) → r.rest ≡ rest → First bs r → alone r.what rest ≡ some x → (bs ≡ line_text x) × (fine x ≡ true)
    stop r [] q read e =
        let same : r.what ≡ x = cc in
        rw (sym same) (read.text ∙ ap (λ (ys : List ℕ). line_text r.what ++ ys) q ∙ append-nil (line_text r.what), read.is_fine)
    stop r (b ∷ rest) q read e = let z : ◌≡◌ {A = ℕ} 0 1 = cc in absurd (omega arith)

    go : (o : Option (Read Line)) → read_first bs ≡ o → whole_of o ≡ some x → (bs ≡ line_text x) × (fine x ≡ true)
    go none q e = let z : ◌≡◌ {A = ℕ} 0 1 = cc in absurd (omega arith)
    go (some r) q e = stop r r.rest refl (first_read bs r q) e

text_read : (x : Line) → fine x ≡ true → read_line (line_text x) ≡ some x
unfolding read_line
text_read x h = ap whole_of (ap read_first (sym (append-nil (line_text x))) ∙ first_text x [] h)

-- what is read is the line exactly if the bytes are its text, and it is fine
pub read_line_lem : (bs : List ℕ) (x : Line) → (read_line bs ≡ some x) ↔ ((bs ≡ line_text x) × (fine x ≡ true))
read_line_lem bs x = (read_text bs x, λ both. rw both.0 (text_read x both.1))

-- ---- the end of a line

-- a line's newline is its only one
pub record Ends (x : Line) : Type 0 where
  pub body : List ℕ
  pub text : line_text x ≡ body ++ (newline ∷ [])
  pub only : first_at newline body ≡ length body

pub line_ends : (x : Line) → fine x ≡ true → Ends x
unfolding line_text
line_ends x h = record {
  body = map letter_of x.word ++ (tab ∷ listed_text x.listed);
  text = sym (append_assoc (map letter_of x.word) (tab ∷ listed_text x.listed) (newline ∷ []));
  only =
      lack_joined newline (map letter_of x.word) (tab ∷ listed_text x.listed)
      (word_lacks newline x.word (no_capital newline (omega arith)) (is_fine x h).codes)
      (lack_one newline tab (listed_text x.listed) (λ e. omega arith)
      (listed_lacks newline x.listed refl (λ e. omega arith) (λ e. omega arith)));
}
