-- Laws of the lines of a text: the first line ends after the first newline, or with the text. Assumes nothing.
use mathlib.Core.Path.{◌≡◌, refl, sym, ap, ◌∙◌}
use mathlib.Core.Logic.{⊎_elim}
use mathlib.Core.Bool.{Bool, true, false, cond}
use mathlib.Core.List.{List, [], ◌∷◌}
use Prim.Native.Nat.{ℕ, suc, ◌+◌, ◌≤◌, ◌<◌}
use native.Mathlib.Omega.{arith}
use lib.ListN.{length, get_or, take, drop, length-drop, drop_of_length-le}
use lib.Seq.{length-take-le, take_all, drop-drop, get_or-drop}
use lib.Dec.{eqb}
use Rattle.text_probes.specs.Reading.{newline}
use Rattle.text_probes.specs.Lines.{joined, lines_of}
use Rattle.text_probes.proofs.FindLaws.{first_at}
use Rattle.text_probes.proofs.NumberLaws.{lt_or_le}

pub lines_none : lines_of [] ≡ []
unfolding lines_of
lines_none = refl

-- how far the first line goes
abbrev reach : List ℕ → ℕ
reach xs = first_at newline xs + 1

lines_cons : (x : ℕ) (xs : List ℕ) → lines_of (x ∷ xs) ≡ take (reach (x ∷ xs)) (x ∷ xs) ∷ lines_of (drop (reach (x ∷ xs)) (x ∷ xs))
unfolding lines_of first_at
lines_cons x [] = go (eqb x newline)
  where
    go : (t : Bool) → cond t ((x ∷ []) ∷ []) ((x ∷ []) ∷ [])
        ≡ take (cond t 0 1 + 1) (x ∷ []) ∷ lines_of (drop (cond t 0 1 + 1) (x ∷ []))
    go true = refl
    go false = refl
lines_cons x (y ∷ ys) = go (lines_cons y ys) (eqb x newline)
  where
    go : lines_of (y ∷ ys) ≡ take (reach (y ∷ ys)) (y ∷ ys) ∷ lines_of (drop (reach (y ∷ ys)) (y ∷ ys)) → (t : Bool)
        → cond t ((x ∷ []) ∷ lines_of (y ∷ ys)) (joined x (lines_of (y ∷ ys)))
        ≡ take (cond t 0 (suc (first_at newline (y ∷ ys))) + 1) (x ∷ y ∷ ys)
        ∷ lines_of (drop (cond t 0 (suc (first_at newline (y ∷ ys))) + 1) (x ∷ y ∷ ys))
    go later true = refl
    go later false =
        let next : suc (first_at newline (y ∷ ys)) + 1 ≡ suc (reach (y ∷ ys)) = omega arith in
        ap (joined x) later ∙ rw next refl

pub lines_first : (xs : List ℕ) → 0 < length xs → lines_of xs ≡ take (reach xs) xs ∷ lines_of (drop (reach xs) xs)
lines_first [] h = absurd (omega arith)
lines_first (x ∷ xs) h = lines_cons x xs

-- the first line
abbrev pub first_line : List ℕ → List ℕ
first_line xs = get_or (lines_of xs) 0 []

module _ (xs : List ℕ) (some : 0 < length xs) where
  first_line_lem : first_line xs ≡ take (reach xs) xs
  first_line_lem = ap (λ (ls : List (List ℕ)). get_or ls 0 []) (lines_first xs some)

  -- it ends after its newline
  length_ended : first_at newline xs < length xs → length (first_line xs) ≡ reach xs
  length_ended h = ap length first_line_lem ∙ length-take-le (reach xs) xs (omega arith)

  -- or with the text
  length_open : length xs ≤ first_at newline xs → length (first_line xs) ≡ length xs
  length_open h = ap length (first_line_lem ∙ take_all (reach xs) xs (omega arith))

  -- it is the start of the text, and the other lines are those of what is left
  pub first_is : (take (length (first_line xs)) xs ≡ first_line xs) × (lines_of xs ≡ first_line xs ∷ lines_of (drop (length (first_line xs)) xs))
  first_is = ⊎_elim ended open_end (lt_or_le (first_at newline xs) (length xs))
    where
      ended : first_at newline xs < length xs
          → (take (length (first_line xs)) xs ≡ first_line xs) × (lines_of xs ≡ first_line xs ∷ lines_of (drop (length (first_line xs)) xs))
      ended h = rw (length_ended h) (sym first_line_lem, lines_first xs some ∙ ap (λ (l : List ℕ). l ∷ lines_of (drop (reach xs) xs)) (sym first_line_lem))

      open_end : length xs ≤ first_at newline xs
          → (take (length (first_line xs)) xs ≡ first_line xs) × (lines_of xs ≡ first_line xs ∷ lines_of (drop (length (first_line xs)) xs))
      open_end h =
          let all : take (reach xs) xs ≡ xs = take_all (reach xs) xs (omega arith) in
          let none : drop (reach xs) xs ≡ [] = drop_of_length-le xs {i = reach xs} (omega arith) in
          let none_too : drop (length xs) xs ≡ [] = drop_of_length-le xs {i = length xs} (omega arith) in
          rw (length_open h) (
            take_all (length xs) xs (omega arith) ∙ sym (first_line_lem ∙ all),
            lines_first xs some ∙ ap (λ (l : List ℕ). l ∷ lines_of (drop (reach xs) xs)) (sym first_line_lem)
                ∙ ap (λ (l : List ℕ). first_line xs ∷ lines_of l) (none ∙ sym none_too),
          )

  pub first_some : 0 < length (first_line xs)
  first_some = ⊎_elim (λ h. omega (arith, length_ended h)) (λ h. omega (arith, length_open h)) (lt_or_le (first_at newline xs) (length xs))

  pub first_most : length (first_line xs) ≤ length xs
  first_most = ⊎_elim (λ h. omega (arith, length_ended h)) (λ h. omega (arith, length_open h)) (lt_or_le (first_at newline xs) (length xs))

-- ---- a turn: e lines were passed, up to the byte `at`, and there are more

module _ (text : List ℕ) (at e : ℕ) (left : lines_of (drop at text) ≡ drop e (lines_of text)) where
  pub lines_passed : length text ≤ at → length (lines_of text) ≤ e
  lines_passed h =
      let none : drop at text ≡ [] = drop_of_length-le text h in
      let past : drop e (lines_of text) ≡ [] = sym left ∙ ap lines_of none ∙ lines_none in
      omega (arith, length-drop e (lines_of text), ap length past)

  module _ (h : at < length text) where
    left_some : 0 < length (drop at text)
    left_some = omega (arith, length-drop at text)

    lines_left : drop e (lines_of text) ≡ first_line (drop at text) ∷ lines_of (drop (length (first_line (drop at text))) (drop at text))
    lines_left = sym left ∙ (first_is (drop at text) left_some).1

    pub more_lines : e < length (lines_of text)
    more_lines = omega (arith, length-drop e (lines_of text), ap length lines_left)

    pub this_line : get_or (lines_of text) e [] ≡ first_line (drop at text)
    this_line =
        let here : e + 0 ≡ e = omega arith in
        rw here at (sym (get_or-drop e (lines_of text) 0 [])) ∙ ap (λ (ls : List (List ℕ)). get_or ls 0 []) lines_left

    module _ {end : ℕ} (ends : end ≡ at + length (first_line (drop at text))) where
      pub end_within : (at < end) × (end ≤ length text)
      end_within =
          (omega (arith, first_some (drop at text) left_some), omega (arith, first_most (drop at text) left_some, length-drop at text))

      pub left_next : lines_of (drop end text) ≡ drop (e + 1) (lines_of text)
      left_next =
          let step : drop end text ≡ drop (length (first_line (drop at text))) (drop at text) =
          rw ends (sym (drop-drop (length (first_line (drop at text))) at text)) in
          ap lines_of step ∙ sym (ap (drop 1) lines_left) ∙ drop-drop 1 e (lines_of text)
