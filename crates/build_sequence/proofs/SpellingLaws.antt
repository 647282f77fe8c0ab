-- Laws of the sequence that a list of words spells, over plain lists of words. Lists of words compare as the sequences that they spell, so
-- that "alphabetically first" is the same for both.
--   Chain l p ws        == each word overlaps the one before it, and the first one follows p
--   Chained l ws        == the words of l letters ws are a chain, with nothing before the first
-- Assumes nothing.
use mathlib.Core.Path.{◌≡◌, refl, sym, ◌∙◌, ap}
use mathlib.Core.Logic.{inl, inr, ⊎_elim}
use mathlib.Core.Bool.{true}
use mathlib.Core.List.{List, [], ◌∷◌, ◌++◌, map, append_assoc}
use mathlib.Core.Option.{Option, none, some}
use Prim.Native.Nat.{ℕ, zero, suc, ◌+◌, ◌-◌, ◌^◌, ◌/◌, ◌%◌, ◌<◌}
use native.Mathlib.Omega.{arith}
use lib.ListN.{length, get_or, take, drop, length-append, length-map}
use lib.Seq.{take_at}
use Rattle.card_entries.specs.declared.Entry.{Entry}
use Rattle.base_lists.specs.Members.{In, first}
use Rattle.build_sequence.specs.Arrangement.{follows, Standing, nobody, stands, words}
use Rattle.build_sequence.specs.Build.{letters_of, spell}
use Rattle.build_sequence.specs.Verdict.{Before}
use Rattle.base_lists.proofs.ListLaws.{not_in_nil, in_append, in_map}
use Rattle.build_sequence.proofs.OrderLaws.{before_irr, before_append, append_before, before_or_after}
use Rattle.build_sequence.proofs.LetterLaws.{length_letters, letters_coded, letters_before, letters_cons, overlap_is}

pub data Chain (l : ℕ) : Option ℕ → List ℕ → Type 0 where
  ends : {p : Option ℕ} → Chain l p []
  goes : {p : Option ℕ} {w : ℕ} {ws : List ℕ} → follows l p w ≡ true → Chain l (some w) ws → Chain l p (w ∷ ws)

pub record Chained (l : ℕ) (ws : List ℕ) : Type 0 where
  pub chain : Chain l none ws
  pub fits : (w : ℕ) → In w ws → w < 4 ^ l

-- the words of entries that stand in their places are a chain
pub standing_chain : {l i : ℕ} {p : Option ℕ} {es : List Entry} → Standing l i p es → Chain l p (words es)
standing_chain nobody = ends
standing_chain (stands a f more) = goes f (standing_chain more)

-- ---- what is spelled

abbrev lasts : List ℕ → List ℕ
lasts ws = map (λ w. w % 4) ws

-- the letters of the first word, and the last letter of each other
pub spell_is : (l w : ℕ) (ws : List ℕ) → spell l (w ∷ ws) ≡ letters_of l w ++ map (λ v. v % 4) ws
unfolding spell
spell_is l w ws = refl

-- "A build has m+l−1 letters"
pub spell_length : (l : ℕ) (ws : List ℕ) → 0 < length ws → length (spell l ws) + 1 ≡ length ws + l
spell_length l [] h = absurd (omega arith)
spell_length l (w ∷ ws) h =
    rw (spell_is l w ws) (omega (arith, length-append (letters_of l w) (lasts ws), length_letters l w, length-map ws (λ x. x % 4)))

-- each is one of the four codes
pub spell_coded : (l : ℕ) (ws : List ℕ) {c : ℕ} → In c (spell l ws) → c < 4
unfolding spell
spell_coded l [] is = absurd (not_in_nil is)
spell_coded l (w ∷ ws) is =
    ⊎_elim (letters_coded l w) (λ last. let at = in_map (λ v. v % 4) ws last in omega (arith, at.2)) (in_append (letters_of l w) is)

-- without its first letter, a sequence is that of the other words
spell_cons : {k w : ℕ} {ws : List ℕ} → Chain (suc k) (some w) ws → 0 < length ws
    → (d : ℕ) × (spell (suc k) (w ∷ ws) ≡ d ∷ spell (suc k) ws)
unfolding spell
spell_cons ends h = absurd (omega arith)
spell_cons {k} {w} (goes {w = v} {ws = vs} f c) h =
    let s = letters_cons k w in
    let e : suc k - 1 ≡ k = omega arith in
    let below : w % 4 ^ k ≡ v / 4 = rw e at (overlap_is (suc k) w v f) in
    let others = v % 4 ∷ lasts vs in (
      s.0,
      ap (λ x. x ++ others) s.1 ∙ ap (λ x. s.0 ∷ (letters_of k x ++ others)) below ∙ ap (λ x. s.0 ∷ x)
          (sym (append_assoc (letters_of k (v / 4)) (v % 4 ∷ []) (lasts vs))),
    )

-- the l letters from j on are those of the j-th word
pub spell_window : {l : ℕ} {p : Option ℕ} {ws : List ℕ} → 0 < l → Chain l p ws → (j : ℕ) → j < length ws
    → take l (drop j (spell l ws)) ≡ letters_of l (get_or ws j 0)
spell_window {l = zero} pos c j h = absurd (omega arith)
spell_window {l = suc k} pos ends j h = absurd (omega arith)
spell_window {l = suc k} pos (goes {w} {ws} f c) zero h =
    rw (spell_is (suc k) w ws) (take_at (letters_of (suc k) w) (lasts ws) (suc k) (length_letters (suc k) w))
spell_window {l = suc k} pos (goes f c) (suc j) h = rw (spell_cons c (omega arith)).1 (spell_window pos c j (omega arith))

-- ---- the order of what is spelled

-- after one word, chains compare as the last letters of their words
lasts_before : {l p : ℕ} {ws vs : List ℕ} → Chain l (some p) ws → Chain l (some p) vs → Before ws vs → Before (lasts ws) (lasts vs)
lasts_before ends ends b = b
lasts_before ends (goes g d) b = tt
lasts_before (goes f c) ends b = b
lasts_before {l} {p} (goes {w} f c) (goes {w = v} g d) (inl h) = inl (omega (arith, overlap_is l p w f, overlap_is l p v g))
lasts_before {l} (goes {w} {ws} f c) (goes {w = v} {ws = vs} g d) (inr h) =
    let c' : Chain l (some v) ws = rw h.0 at c in inr (ap (λ x. x % 4) h.0, lasts_before c' d h.1)

spelled_before : {l : ℕ} {ws vs : List ℕ} → Chain l none ws → Chain l none vs → ((w : ℕ) → In w ws → w < 4 ^ l)
    → ((v : ℕ) → In v vs → v < 4 ^ l)
    → length ws ≡ length vs
    → Before ws vs
    → Before (spell l ws) (spell l vs)
unfolding spell
spelled_before ends ends fits fits' n b = absurd b
spelled_before ends (goes g d) fits fits' n b = absurd (omega arith)
spelled_before (goes f c) ends fits fits' n b = absurd b
spelled_before {l} (goes {w} {ws} f c) (goes {w = v} {ws = vs} g d) fits fits' n (inl h) =
    before_append (letters_of l w) (letters_of l v) (lasts ws) (lasts vs) (length_letters l w ∙ sym (length_letters l v))
    (letters_before l w v (fits w first) (fits' v first) h)
spelled_before {l} (goes {w} {ws} f c) (goes {w = v} {ws = vs} g d) fits fits' n (inr h) =
    let c' : Chain l (some v) ws = rw h.0 at c in
    rw h.0 (append_before (letters_of l v) (lasts ws) (lasts vs) (lasts_before c' d h.1))

module _ {l : ℕ} {ws vs : List ℕ} (c : Chained l ws) (d : Chained l vs) (n : length ws ≡ length vs) where
  -- lists of words compare as what they spell
  pub spell_before : Before ws vs → Before (spell l ws) (spell l vs)
  spell_before b = spelled_before c.chain d.chain c.fits d.fits n b

  -- those that spell one sequence are one
  pub spell_one : spell l ws ≡ spell l vs → ws ≡ vs
  spell_one e =
      ⊎_elim (λ same. same)
      (⊎_elim (λ b. absurd (before_irr (spell l vs) (rw e at (spell_before b))))
      (λ b. absurd (before_irr (spell l vs) (rw e at (spelled_before d.chain c.chain d.fits c.fits (sym n) b)))))
      (before_or_after ws vs)
