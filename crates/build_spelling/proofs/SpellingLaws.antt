-- Laws of a sequence's letters, by their places. Assumes nothing.
use mathlib.Core.Path.{◌≡◌, sym, ap, ◌∙◌}
use mathlib.Core.Logic.{⊎_elim}
use mathlib.Core.List.{List, [], ◌∷◌, ◌++◌, map}
use Prim.Native.Nat.{ℕ, zero, suc, ◌+◌, ◌-◌, ◌^◌, ◌/◌, ◌%◌, ◌≤◌, ◌<◌}
use native.Mathlib.Nat.{pow-succ', div-one, div-div-eq-div-mul}
use native.Mathlib.Omega.{arith}
use lib.ListN.{length, get_or, get_or-append}
use lib.Seq.{get_or-append-add}
use Rattle.build_sequence.specs.Build.{letters_of, spell}
use Rattle.build_sequence.proofs.LetterLaws.{length_letters}
use Rattle.build_sequence.proofs.SpellingLaws.{spell_is}
use Rattle.base_lists.proofs.FillingLaws.{lt_or_le, get_d_map_in}

-- "first letter most significant": letter c of a word is told by the quotient by a power of 4
pub letter_at : (l w c : ℕ) → c < l → get_or (letters_of l w) c 0 ≡ w / 4 ^ (l - 1 - c) % 4
letter_at zero w c h = absurd (omega arith)
letter_at (suc k) w c h = ⊎_elim (λ g. before g (letter_at k (w / 4) c g)) last (lt_or_le c k)
  where
    before : c < k → get_or (letters_of k (w / 4)) c 0 ≡ w / 4 / 4 ^ (k - 1 - c) % 4
        → get_or (letters_of (suc k) w) c 0 ≡ w / 4 ^ (suc k - 1 - c) % 4
    before g one_less =
        let up : suc k - 1 - c ≡ suc (k - 1 - c) = omega arith in
        get_or-append (letters_of k (w / 4)) (w % 4 ∷ []) 0 c (omega (arith, length_letters k (w / 4)))
        ∙ one_less
        ∙ ap (λ (x : ℕ). x % 4) (div-div-eq-div-mul w 4 (4 ^ (k - 1 - c)) ∙ ap (λ (x : ℕ). w / x) (sym (pow-succ' 4 (k - 1 - c))))
        ∙ ap (λ (x : ℕ). w / 4 ^ x % 4) (sym up)

    last : k ≤ c → get_or (letters_of (suc k) w) c 0 ≡ w / 4 ^ (suc k - 1 - c) % 4
    last g =
        let here : c ≡ length (letters_of k (w / 4)) + 0 = omega (arith, length_letters k (w / 4)) in
        let none : suc k - 1 - c ≡ 0 = omega arith in
        ap (λ (x : ℕ). get_or (letters_of (suc k) w) x 0) here
        ∙ get_or-append-add (letters_of k (w / 4)) (w % 4 ∷ []) 0 0
        ∙ ap (λ (x : ℕ). x % 4) (sym (div-one w))
        ∙ ap (λ (x : ℕ). w / 4 ^ x % 4) (sym none)

-- the first l letters are the first word's
pub spell_first : (l : ℕ) (ws : List ℕ) (c : ℕ) → 0 < length ws → c < l
    → get_or (spell l ws) c 0 ≡ get_or ws 0 0 / 4 ^ (l - 1 - c) % 4
spell_first l [] c some h = absurd (omega arith)
spell_first l (w ∷ ws) c some h =
    rw (spell_is l w ws) (get_or-append (letters_of l w) (map (λ v. v % 4) ws) 0 c (omega (arith, length_letters l w)) ∙ letter_at l w c h)

-- each other letter is the last of a word
pub spell_later : (l : ℕ) (ws : List ℕ) (c : ℕ) → l ≤ c → c + 1 < length ws + l → get_or (spell l ws) c 0 ≡ get_or ws (c + 1 - l) 0 % 4
spell_later l [] c g h = absurd (omega arith)
spell_later l (w ∷ ws) c g h =
    let here : c ≡ length (letters_of l w) + (c - l) = omega (arith, length_letters l w) in
    let next : c + 1 - l ≡ suc (c - l) = omega arith in
    rw (spell_is l w ws) (
    ap (λ (x : ℕ). get_or (letters_of l w ++ map (λ v. v % 4) ws) x 0) here
    ∙ get_or-append-add (letters_of l w) (map (λ v. v % 4) ws) (c - l) 0
    ∙ get_d_map_in (λ v. v % 4) ws (c - l) (omega arith)
    )
    ∙ ap (λ (x : ℕ). get_or (w ∷ ws) x 0 % 4) (sym next)
