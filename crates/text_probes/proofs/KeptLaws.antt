-- What is kept of a sound text are its entries: of words that are short enough their values, and with the second places closed as its kind asks.
-- Assumes nothing.
use mathlib.Core.Path.{◌≡◌, refl, sym, ap, ◌∙◌}
use mathlib.Core.Bool.{Bool, true, false, cond}
use mathlib.Core.List.{List, [], ◌∷◌, map}
use Prim.Native.Nat.{ℕ, suc, ◌+◌, ◌*◌, ◌-◌, ◌^◌, ◌%◌, ◌≤◌, ◌<◌}
use native.Mathlib.Nat.{pow-succ', pow-le-pow_right}
use native.Mathlib.Omega.{arith}
use lib.ListN.{length, get_or, length-map, get_or-map}
use lib.Dec.{leb, ltb, eqb}
use borrow.Author.Tests.{leb-true, ltb-true, ne_eqb, eqb-true, eqb-false}
use Rattle.base_answers.specs.Answer.{given}
use Rattle.base_lists.proofs.TestLaws.{both}
use Rattle.base_letters.specs.Letters.{codes}
use Rattle.card_entries.specs.Fault.{pair, span, no_place, most_length}
use Rattle.text_probes.specs.declared.line.Marked.{Marked}
use Rattle.text_probes.specs.declared.line.Marked.TheVariants.{Bare, Two, Run}
use Rattle.text_probes.specs.declared.scanning.Outline.{Outline}
use Rattle.text_probes.specs.Line.{Line, most_number, are_codes, is_small}
use Rattle.text_probes.specs.Lines.{lines_of, line_of, lines_in}
use Rattle.text_probes.specs.Testing.{scanning}
use Rattle.text_probes.specs.Listing.{value_from, value_of, one_of, two_of, words_of, ones_of, twos_of}
use Rattle.text_probes.specs.Says.{kept}
use Rattle.text_probes.specs.Keeping.{word_kept, one_kept, two_kept, closed, closed_for}
use Rattle.text_probes.proofs.LineLaws.{IsFine}
use Rattle.text_probes.proofs.SoundLaws.{sound_line, line_text_lem}

-- ---- a word

kept_from : (k v : ℕ) (cs : List ℕ) → are_codes cs ≡ true → v < 4 ^ k → k + length cs ≤ 12 → kept v cs ≡ value_from v cs
kept_from k v [] h small few = refl
kept_from k v (c ∷ cs) h small few =
    let parts = both (ltb c codes) (are_codes cs) h in
    let below = ltb-true c codes parts.0 in
    let top : 4 ^ k ≤ 4 ^ 12 = pow-le-pow_right {n = 4} (omega arith) {i = k} {j = 12} (omega arith) in
    let whole : v % 2 ^ 30 ≡ v = omega arith in
    let up = pow-succ' 4 k in
    rw whole (kept_from (suc k) (codes * v + c) cs parts.1 (omega arith) (omega arith))

pub kept_value : (cs : List ℕ) → are_codes cs ≡ true → length cs ≤ most_length → kept 0 cs ≡ value_of cs
kept_value cs h few = kept_from 0 0 cs h (omega arith) (omega arith)

-- ---- the second place

-- on a pair list
pub two_pair : (kind : ℕ) (y : Marked) → (kind ≡ span → ⊥) → two_of pair y ≡ two_of kind y
two_pair kind (Bare p) n = rw (ne_eqb kind span n) refl
two_pair kind (Two p q) n = refl
two_pair kind (Run p q) n = refl

-- on a span list
two_span : (y : Marked) → is_small y ≡ true → cond (eqb (two_of pair y) no_place) (one_of y) (two_of pair y) ≡ two_of span y
two_span (Bare p) h = refl
two_span (Two p q) h =
    let few = leb-true q most_number (both (leb p most_number) (leb q most_number) h).1 in
    rw (ne_eqb (q - 1) no_place (λ e. omega arith)) refl
two_span (Run p q) h =
    let few = leb-true q most_number (both (leb p most_number) (leb q most_number) h).1 in
    rw (ne_eqb (q - 1) no_place (λ e. omega arith)) refl

-- ---- of each line

pub map_same : (f g : Line → ℕ) (xs : List Line) (d : Line) → ((e : ℕ) → e < length xs → f (get_or xs e d) ≡ g (get_or xs e d)) → map f xs ≡ map g xs
map_same f g [] d each = refl
map_same f g (x ∷ xs) d each =
    ap (λ (n : ℕ). n ∷ map f xs) (each 0 (omega arith))
    ∙ ap (λ (ys : List ℕ). g x ∷ ys) (map_same f g xs d (λ e h. each (suc e) (omega arith)))

closed_map : (f g : Line → ℕ) (xs : List Line) → closed (map f xs) (map g xs) ≡ map (λ x. cond (eqb (g x) no_place) (f x) (g x)) xs
closed_map f g [] = refl
closed_map f g (x ∷ xs) = ap (λ (ys : List ℕ). cond (eqb (g x) no_place) (f x) (g x) ∷ ys) (closed_map f g xs)

module _ (text : List ℕ) {s : Outline} (holds : scanning text ≡ given s) where
  -- line e is fine, and has l letters
  its : (e : ℕ) → e < length (lines_in text)
      → IsFine (get_or (lines_in text) e (line_of [])) × (length (get_or (lines_in text) e (line_of [])).word ≡ s.l)
  its e h =
      let line = sound_line text holds e (omega (arith, length-map (lines_of text) line_of)) in
      let same : get_or (lines_in text) e (line_of []) ≡ line_of (get_or (lines_of text) e []) = get_or-map line_of (lines_of text) e [] in
      rw same ((line_text_lem (get_or (lines_of text) e []) line.read).1, line.letters)

  pub words_kept : s.l ≤ most_length → map word_kept (lines_in text) ≡ words_of (lines_in text)
  words_kept short =
      map_same word_kept (λ x. value_of x.word) (lines_in text) (line_of []) (λ e h.
      let line = its e h in
      kept_value (get_or (lines_in text) e (line_of [])).word line.0.codes (omega (arith, line.1)))

  pub twos_kept : (kind : ℕ) → closed_for kind (ones_of (lines_in text)) (map two_kept (lines_in text)) ≡ twos_of kind (lines_in text)
  twos_kept kind = go (eqb kind span) refl
    where
      go : (t : Bool) → eqb kind span ≡ t
          → cond t (closed (ones_of (lines_in text)) (map two_kept (lines_in text))) (map two_kept (lines_in text)) ≡ twos_of kind (lines_in text)
      go true q =
          let is : kind ≡ span = eqb-true kind span q in
          closed_map one_kept two_kept (lines_in text)
          ∙ map_same (λ x. cond (eqb (two_kept x) no_place) (one_kept x) (two_kept x)) (λ x. two_of span x.listed) (lines_in text) (line_of [])
          (λ e h. two_span (get_or (lines_in text) e (line_of [])).listed (its e h).0.small)
          ∙ ap (λ (k : ℕ). twos_of k (lines_in text)) (sym is)
      go false q =
          map_same two_kept (λ x. two_of kind x.listed) (lines_in text) (line_of [])
          (λ e h. two_pair kind (get_or (lines_in text) e (line_of [])).listed (eqb-false kind span q))
