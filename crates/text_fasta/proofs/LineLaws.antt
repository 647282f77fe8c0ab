-- Laws of letters in lines: line by line, and how many bytes they have. Assumes nothing.
use mathlib.Core.Path.{◌≡◌, refl, sym, ap, ◌∙◌}
use mathlib.Core.List.{List, [], ◌∷◌, ◌++◌, append-nil}
use Prim.Native.Nat.{ℕ, zero, suc, ◌+◌, ◌*◌, ◌≤◌, ◌<◌}
use native.Mathlib.Omega.{arith}
use lib.ListN.{length, take, drop, length-append, length-drop, drop_of_length-le, take-append-drop}
use lib.Seq.{take_all, take_at, drop_at, drop-drop, append_snoc}
use Rattle.base_lists.specs.Row.{in_turn}
use Rattle.base_lists.proofs.RowLaws.{turns_none, turns_first, turns_same}
use Rattle.text_fasta.specs.Record.{newline, line_letters, line_of, lines_for, in_lines}

pub lines_none : in_lines [] ≡ []
unfolding in_lines
lines_none = turns_none (line_of []) 0

-- line i + 1 is line i of the letters after the first line
line_after : (ls : List ℕ) (i : ℕ) → line_of ls (suc i) ≡ line_of (drop line_letters ls) i
line_after ls i =
    let further : line_letters * suc i ≡ line_letters + line_letters * i = omega arith in
    ap (λ (xs : List ℕ). take line_letters xs ++ (newline ∷ []))
    (ap (λ (k : ℕ). drop k ls) further ∙ sym (drop-drop (line_letters * i) line_letters ls))

lines_after : (ls : List ℕ) (n : ℕ) → in_turn (line_of ls) 1 n ≡ in_turn (line_of (drop line_letters ls)) 0 n
lines_after ls n =
    turns_same (line_of ls) (line_of (drop line_letters ls)) 1 0 n (λ i h.
    let next : 1 + i ≡ suc i = omega arith in
    let here : 0 + i ≡ i = omega arith in
    rw (next, here) (line_after ls i))

pub lines_more : (ls : List ℕ) → 0 < length ls → in_lines ls ≡ take line_letters ls ++ (newline ∷ in_lines (drop line_letters ls))
unfolding in_lines
lines_more ls h =
    let n : ℕ = lines_for (length (drop line_letters ls)) in
    let count : lines_for (length ls) ≡ suc n = omega (arith, length-drop line_letters ls) in
    let none : line_letters * 0 ≡ 0 = omega arith in
    ap (λ (k : ℕ). in_turn (line_of ls) 0 k) count
    ∙ turns_first (line_of ls) 0 n
    ∙ ap (λ (xs : List ℕ). line_of ls 0 ++ xs) (lines_after ls n)
    ∙ rw none (append_snoc (take line_letters ls) newline (in_turn (line_of (drop line_letters ls)) 0 n))

-- a line, and what follows it: it is full, or nothing does
pub data Cut (xs ys : List ℕ) : Type 0 where
  full : length xs ≡ line_letters → Cut xs ys
  last : length xs ≤ line_letters → ys ≡ [] → Cut xs ys

pub lines_cut : (xs ys : List ℕ) → 0 < length xs → Cut xs ys → in_lines (xs ++ ys) ≡ xs ++ (newline ∷ in_lines ys)
lines_cut xs ys h (full e) =
    lines_more (xs ++ ys) (omega (arith, length-append xs ys))
    ∙ rw (take_at xs ys line_letters e, drop_at xs ys line_letters e) refl
lines_cut xs ys h (last few e) =
    rw e
    (rw (append-nil xs)
    (lines_more xs h ∙ rw (take_all line_letters xs few, drop_of_length-le xs few) refl))

-- what holds of no letters, and of some where it does of those after their first line, holds of all
module _ (P : List ℕ → Type 0) (none : P []) (more : (ls : List ℕ) → 0 < length ls → P (drop line_letters ls) → P ls) where
  some_or_none : (ls : List ℕ) → (0 < length ls → P ls) → P ls
  some_or_none [] some = none
  some_or_none (x ∷ xs) some = some (omega arith)

  up_to : (k : ℕ) (ls : List ℕ) → length ls ≤ k → P ls
  up_to zero ls few = some_or_none ls (λ h. absurd (omega arith))
  up_to (suc k) ls few = some_or_none ls (λ h. more ls h (up_to k (drop line_letters ls) (omega (arith, length-drop line_letters ls))))

  pub by_lines : (ls : List ℕ) → P ls
  by_lines ls = up_to (length ls) ls (omega arith)

pub length_lines : (ls : List ℕ) → length (in_lines ls) ≡ length ls + lines_for (length ls)
length_lines = by_lines (λ ls. length (in_lines ls) ≡ length ls + lines_for (length ls)) (rw lines_none refl) more
  where
    more : (ls : List ℕ) → 0 < length ls
        → length (in_lines (drop line_letters ls)) ≡ length (drop line_letters ls) + lines_for (length (drop line_letters ls))
        → length (in_lines ls) ≡ length ls + lines_for (length ls)
    more ls h later =
        let rest = drop line_letters ls in
        omega (
          arith,
          ap length (lines_more ls h),
          length-append (take line_letters ls) (newline ∷ in_lines rest),
          ap length (take-append-drop line_letters ls),
          length-append (take line_letters ls) rest,
          length-drop line_letters ls,
        )
