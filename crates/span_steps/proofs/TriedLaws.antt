-- Laws of what is tried of a list, of equal words the first. Assumes nothing.
use mathlib.Core.Path.{◌≡◌, refl, sym, ap, ◌∙◌}
use mathlib.Core.Logic.{⊎_elim}
use mathlib.Core.Bool.{Bool, true, false, cond, ◌&&◌, not, true≢false}
use mathlib.Core.List.{List, [], ◌∷◌}
use Prim.Native.Nat.{ℕ, ◌≤◌, ◌<◌}
use native.Mathlib.Omega.{arith}
use lib.Dec.{eqb}
use borrow.Author.Tests.{ne_eqb}
use Rattle.base_lists.specs.Members.{In, first, later, Rising, flat, rises, keep}
use Rattle.base_lists.proofs.ListLaws.{in_cons}
use Rattle.span_theory.proofs.Order.{firsts, firsts_after, firsts_after_none, firsts_after_more, firsts_none, firsts_more}
use Rattle.span_steps.specs.Steps.{tries}

-- ---- one after the other

module _ (ok : ℕ → Bool) (word : ℕ → ℕ) where
  pub tries_none : (w : ℕ) → tries ok word w [] ≡ []
  unfolding tries
  tries_none w = refl

  pub tries_skip : (w j : ℕ) (js : List ℕ) → ok j && not (eqb (word j) w) ≡ false → tries ok word w (j ∷ js) ≡ tries ok word w js
  unfolding tries
  tries_skip w j js h = rw h

  pub tries_take : (w j : ℕ) (js : List ℕ) → ok j && not (eqb (word j) w) ≡ true → tries ok word w (j ∷ js) ≡ j ∷ tries ok word (word j) js
  unfolding tries
  tries_take w j js h = rw h

  -- who is tried is in the list, and is able
  pub tries_in : (w : ℕ) (js : List ℕ) {j : ℕ} → In j (tries ok word w js) → In j js
  unfolding tries
  tries_in w (k ∷ js) {j} h = go (ok k && not (eqb (word k) w)) (tries_in (word k) js) (tries_in w js) h
    where
      go : (t : Bool) → (In j (tries ok word (word k) js) → In j js) → (In j (tries ok word w js) → In j js)
          → In j (cond t (k ∷ tries ok word (word k) js) (tries ok word w js))
          → In j (k ∷ js)
      go true new old m = ⊎_elim (λ e. rw e first) (λ g. later (new g)) (in_cons m)
      go false new old m = later (old m)
  tries_in w [] {j = j} h = elim h [ ]

  pub tries_ok : (w : ℕ) (js : List ℕ) {j : ℕ} → In j (tries ok word w js) → ok j ≡ true
  unfolding tries
  tries_ok w (k ∷ js) {j} h = go (ok k) refl (not (eqb (word k) w)) (tries_ok (word k) js) (tries_ok w js) h
    where
      go : (a : Bool) → ok k ≡ a → (b : Bool) → (In j (tries ok word (word k) js) → ok j ≡ true) → (In j (tries ok word w js) → ok j ≡ true)
          → In j (cond (a && b) (k ∷ tries ok word (word k) js) (tries ok word w js))
          → ok j ≡ true
      go true e true new old m = ⊎_elim (λ q. rw q e) new (in_cons m)
      go true e false new old m = old m
      go false e b new old m = old m
  tries_ok w [] {j = j} h = elim h [ ]

-- ---- the firsts of each word

module _ (ok : ℕ → Bool) (word last : ℕ → ℕ) where
  tries_after : (w : ℕ) (js : List ℕ) → firsts_after word last w (keep ok js) ≡ tries ok word w js
  unfolding tries
  tries_after w [] = firsts_after_none word last w
  tries_after w (j ∷ js) = go (ok j) (tries_after (word j) js) (tries_after w js)
    where
      by : (t : Bool) → firsts_after word last (word j) (keep ok js) ≡ tries ok word (word j) js
          → firsts_after word last w (keep ok js) ≡ tries ok word w js
          → cond t (firsts_after word last w (keep ok js)) (j ∷ firsts_after word last (word j) (keep ok js))
          ≡ cond (not t) (j ∷ tries ok word (word j) js) (tries ok word w js)
      by true new old = old
      by false new old = ap (λ r. j ∷ r) new

      go : (s : Bool) → firsts_after word last (word j) (keep ok js) ≡ tries ok word (word j) js
          → firsts_after word last w (keep ok js) ≡ tries ok word w js
          → firsts_after word last w (cond s (j ∷ keep ok js) (keep ok js))
          ≡ cond (s && not (eqb (word j) w)) (j ∷ tries ok word (word j) js) (tries ok word w js)
      go true new old = firsts_after_more word last w j (keep ok js) ∙ by (eqb (word j) w) new old
      go false new old = old

  -- the firsts of each word are what is tried where no word was tried yet
  pub tries_firsts : (w : ℕ) (js : List ℕ) → ((j : ℕ) → In j js → word j ≡ w → ⊥) → firsts word last (keep ok js) ≡ tries ok word w js
  unfolding tries
  tries_firsts w [] h = firsts_none word last
  tries_firsts w (j ∷ js) h = go (ok j) (tries_firsts w js (λ k m. h k (later m)))
    where
      go : (s : Bool) → firsts word last (keep ok js) ≡ tries ok word w js
          → firsts word last (cond s (j ∷ keep ok js) (keep ok js))
          ≡ cond (s && not (eqb (word j) w)) (j ∷ tries ok word (word j) js) (tries ok word w js)
      go true old = rw (firsts_more word last j (keep ok js), ne_eqb (word j) w (h j first)) (ap (λ r. j ∷ r) (tries_after (word j) js))
      go false old = old

-- ---- before or after

module _ (ok : ℕ → Bool) (word : ℕ → ℕ) (fits : ℕ → Bool) where
  -- w is no word of the list but that of its first ones
  data Low (w : ℕ) (js : List ℕ) : Type 0 where
    under : ((j : ℕ) → In j js → w ≤ word j) → Low w js
    over : ((j : ℕ) → In j js → word j < w) → Low w js

  low_rest : {w j : ℕ} {js : List ℕ} → Low w (j ∷ js) → Low w js
  low_rest (under h) = under (λ k m. h k (later m))
  low_rest (over h) = over (λ k m. h k (later m))

  abbrev Same : ℕ → ℕ → List ℕ → Type 0
  Same w v js = (j : ℕ) → In j js → fits (word j) ≡ true → eqb (word j) w ≡ eqb (word j) v

  -- a word that does not fit is not the last word tried
  apart : {v j : ℕ} {js : List ℕ} → ((k : ℕ) → In k js → word j ≤ word k) → Low v (j ∷ js) → fits (word j) ≡ false
      → Same (word j) v js
  apart {v} {j} {js} up low isnt k m is = ne_eqb (word k) (word j) other ∙ sym (ne_eqb (word k) v (go low))
    where
      other : word k ≡ word j → ⊥
      other e = true≢false (sym is ∙ ap fits e ∙ isnt)

      go : Low v (j ∷ js) → word k ≡ v → ⊥
      go (under h) e = other (omega (arith, h j first, up k m))
      go (over h) e = omega (arith, h k (later m))

  tries_fit : {js : List ℕ} → Rising (λ j k. word j ≤ word k) js → (w v : ℕ) → Same w v js → Low v js
      → tries (λ j. ok j && fits (word j)) word v js ≡ keep (λ j. fits (word j)) (tries ok word w js)
  unfolding tries
  tries_fit flat w v same low = refl
  tries_fit (rises {x = j} {xs = js} up r) w v same low =
      go (λ w' v'. tries_fit r w' v') (ok j) (fits (word j)) refl (eqb (word j) w) (eqb (word j) v) (same j first)
    where
      fitting : ℕ → List ℕ
      fitting u = tries (λ k. ok k && fits (word k)) word u js

      trying : ℕ → List ℕ
      trying u = tries ok word u js

      old : Same w v js
      old k m = same k (later m)

      go : ((w' v' : ℕ) → Same w' v' js → Low v' js → fitting v' ≡ keep (λ k. fits (word k)) (trying w'))
          → (a b : Bool) → fits (word j) ≡ b → (s t : Bool) → (b ≡ true → s ≡ t)
          → cond (a && b && not t) (j ∷ fitting (word j)) (fitting v)
          ≡ keep (λ k. fits (word k)) (cond (a && not s) (j ∷ trying (word j)) (trying w))
      go more false b e s t q = more w v old (low_rest low)
      go more true false e true t q = more w v old (low_rest low)
      go more true false e false t q = more (word j) v (apart up low e) (low_rest low) ∙ sym (rw e)
      go more true true e true true q = more w v old (low_rest low)
      go more true true e true false q = absurd (true≢false (q refl))
      go more true true e false true q = absurd (true≢false (sym (q refl)))
      go more true true e false false q =
          ap (λ r. j ∷ r) (more (word j) (word j) (λ k m h. refl) (under (λ k m. up k m))) ∙ sym (rw e)

  -- whether a word fits can be asked of what is tried
  pub tries_then : {js : List ℕ} (w : ℕ) → Rising (λ j k. word j ≤ word k) js → ((j : ℕ) → In j js → word j < w)
      → tries (λ j. ok j && fits (word j)) word w js ≡ keep (λ j. fits (word j)) (tries ok word w js)
  tries_then w r h = tries_fit r w w (λ j m e. refl) (over h)
