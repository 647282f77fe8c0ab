-- Laws of the byte that stands at a place of a text, and of the text after it. Assumes nothing.
use mathlib.Core.Path.{◌≡◌, refl}
use mathlib.Core.Logic.{⊎_elim}
use mathlib.Core.Bool.{Bool, true, false, cond}
use mathlib.Core.List.{List, [], ◌∷◌}
use mathlib.Core.Option.{Option, none, some}
use Prim.Native.Nat.{ℕ, ◌+◌, ◌≤◌, ◌<◌}
use native.Mathlib.Numerals.{add-one}
use native.Mathlib.Omega.{arith}
use lib.ListN.{length, get_or, drop, drop_of_length-le}
use lib.Seq.{drop-cons}
use lib.Dec.{eqb}
use borrow.Author.Tests.{lt-ltb}
use Rattle.text_probes.specs.declared.line.Word.{Word}
use Rattle.text_probes.specs.Reading.{tab, read_codes, after, tabbed, read_first}
use Rattle.text_probes.specs.Says.{stands, Spelled}
use Rattle.text_probes.proofs.NumberLaws.{lt_or_le}

pub here : (text : List ℕ) (i : ℕ) → i < length text → drop i text ≡ get_or text i 0 ∷ drop (i + 1) text
here text i h = rw (add-one i) (drop-cons text i 0 h)

pub past : (text : List ℕ) (i : ℕ) → length text ≤ i → drop i text ≡ []
past text i h = drop_of_length-le text h

-- ---- a byte that stands there

module _ (text : List ℕ) (at b : ℕ) where
  pub stood : stands (after b (drop at text)) ≡ true → (after b (drop at text) ≡ some (drop (at + 1) text)) × (at < length text)
  unfolding after
  stood e = ⊎_elim there (λ h. absurd (beyond h)) (lt_or_le at (length text))
    where
      beyond : length text ≤ at → ⊥
      beyond h = let none_there = rw (past text at h) at e in let z : ◌≡◌ {A = ℕ} 0 1 = cc in omega arith

      pick : (t : Bool) → stands (cond t (some (drop (at + 1) text)) none) ≡ true
          → cond t (some (drop (at + 1) text)) none ≡ some (drop (at + 1) text)
      pick true e = refl
      pick false e = let z : ◌≡◌ {A = ℕ} 0 1 = cc in absurd (omega arith)

      there : at < length text → (after b (drop at text) ≡ some (drop (at + 1) text)) × (at < length text)
      there h = (rw (here text at h) (pick (eqb (get_or text at 0) b) (rw (here text at h) at e)), h)

  pub not_stood : stands (after b (drop at text)) ≡ false → after b (drop at text) ≡ none
  not_stood e = go (after b (drop at text)) e
    where
      go : (o : Option (List ℕ)) → stands o ≡ false → o ≡ none
      go none e = refl
      go (some xs) e = let z : ◌≡◌ {A = ℕ} 0 1 = cc in absurd (omega arith)

-- ---- a word

-- there is one, and then what follows it
pub worded : (text : List ℕ) (at : ℕ) {w : Word} → Spelled text at w → (w.end ≡ at → ⊥)
    → read_first (drop at text) ≡ tabbed (read_codes (drop at text)).what (after tab (drop w.end text))
unfolding read_first
worded text at spelled other =
    let some_letter : 0 < length (read_codes (drop at text)).what =
    ⊎_elim (λ h. h) (λ h. absurd (other (omega (arith, spelled.end)))) (lt_or_le 0 (length (read_codes (drop at text)).what)) in
    rw (lt-ltb 0 (length (read_codes (drop at text)).what) some_letter, spelled.rest) refl

-- what a byte is that is read there
pub ruleset byte_there = (here, past)

-- what the parts of a line are
pub ruleset parts_there = (stood, not_stood, worded)
