-- The verdict on a list of sequences, by computation, and on the entries of a small table.
--   Comparison            == how one sequence stands to another: the same, before or after it
--   compared s t          == how s stands to t
--   joined s v            == the verdict where s fits too, v being that without it
--   verdict_of ss          == the verdict where exactly the members of ss fit
-- Assumes nothing.
use mathlib.Core.Path.{◌≡◌, refl, sym, ◌∙◌}
use mathlib.Core.Logic.{◌⊎◌, inl, inr, ⊎_elim, ⊎_map}
use mathlib.Core.Bool.{Bool, true, false, cond}
use mathlib.Core.List.{List, [], ◌∷◌}
use Prim.Native.Nat.{ℕ}
use native.Mathlib.Omega.{arith}
use lib.Dec.{ltb}
use borrow.Author.Tests.{ltb-true, ltb-false}
use Rattle.card_entries.specs.declared.Entry.{Entry}
use Rattle.base_lists.specs.Members.{In, first, later}
use Rattle.build_sequence.specs.Build.{Build}
use Rattle.build_sequence.specs.Verdict.{Before, Verdict, sole, several, no_build, Tells}
use Rattle.base_lists.proofs.ListLaws.{not_in_nil, in_cons, in_cast}
use Rattle.build_sequence.proofs.OrderLaws.{before_irr, before_trans}
use Rattle.build_sequence.proofs.VerdictLaws.{tells_same}
use Rattle.build_sequence.proofs.Enumerator.{sequences, sequences_sound, sequences_complete}

pub data Comparison : Type 0 where
  same : Comparison
  before : Comparison
  after : Comparison

unfoldable pub compared : List ℕ → List ℕ → Comparison
compared [] [] = same
compared [] (d ∷ t) = before
compared (c ∷ s) [] = after
compared (c ∷ s) (d ∷ t) = cond (ltb c d) before (cond (ltb d c) after (compared s t))

-- which of three, by a comparison
abbrev pick : Comparison → Verdict → Verdict → Verdict → Verdict
pick same v w x = v
pick before v w x = w
pick after v w x = x

unfoldable pub joined : List ℕ → Verdict → Verdict
unfolding compared
joined s (sole t) = pick (compared s t) (sole s) (several s) (several t)
joined s (several t) = pick (compared s t) (several s) (several s) (several t)
joined s no_build = sole s

unfoldable pub verdict_of : List (List ℕ) → Verdict
unfolding joined
verdict_of [] = no_build
verdict_of (s ∷ ss) = joined s (verdict_of ss)

-- ---- comparing

-- what a comparison says
abbrev pub Compared : List ℕ → List ℕ → Comparison → Type 0
Compared s t same = s ≡ t
Compared s t before = Before s t
Compared s t after = Before t s

pub compared_says : (s t : List ℕ) → Compared s t (compared s t)
unfolding compared
compared_says [] [] = refl
compared_says [] (d ∷ t) = tt
compared_says (c ∷ s) [] = tt
compared_says (c ∷ s) (d ∷ t) = go (ltb c d) (ltb d c) refl refl (compared s t) (compared_says s t)
  where
    go : (x y : Bool) → ltb c d ≡ x → ltb d c ≡ y → (o : Comparison) → Compared s t o
        → Compared (c ∷ s) (d ∷ t) (cond x before (cond y after o))
    go true y e f o h = inl (ltb-true c d e)
    go false true e f o h = inl (ltb-true d c f)
    go false false e f same h = let q : c ≡ d = omega (arith, ltb-false c d e, ltb-false d c f) in cc
    go false false e f before h = inr (omega (arith, ltb-false c d e, ltb-false d c f), h)
    go false false e f after h = inr (omega (arith, ltb-false c d e, ltb-false d c f), h)

-- ---- one sequence more

module _ (Fits : List ℕ → Type 0) (s : List ℕ) where
  abbrev Also : List ℕ → Type 0
  Also t = (t ≡ s) ⊎ Fits t

  also_sole : (t : List ℕ) (o : Comparison) → Compared s t o → Tells Fits (sole t) → Tells Also (pick o (sole s) (several s) (several t))
  also_sole t same e p = (inl refl, λ u. ⊎_elim (λ q. q) (λ f. p.1 u f ∙ sym e))
  also_sole t before b p =
      (inl refl, (t, inr p.0, λ e. before_irr s (rw e at b)), λ u. ⊎_elim inl (λ f. inr (rw (p.1 u f) b)))
  also_sole t after b p =
      (inr p.0, (s, inl refl, λ e. before_irr t (rw e at b)), λ u. ⊎_elim (λ e. inr (rw e b)) (λ f. inl (p.1 u f)))

  also_several : (t : List ℕ) (o : Comparison) → Compared s t o → Tells Fits (several t)
      → Tells Also (pick o (several s) (several s) (several t))
  also_several t same e p = (
    inl refl,
    (p.1.0, inr p.1.1, λ q. p.1.2 (q ∙ e)),
    λ u. ⊎_elim inl (λ f. ⊎_map (λ q. q ∙ sym e) (λ b. rw e b) (p.2 u f)),
  )
  also_several t before b p = (
    inl refl,
    (t, inr p.0, λ e. before_irr s (rw e at b)),
    λ u. ⊎_elim inl (λ f. inr (⊎_elim (λ e. rw e b) (λ c. before_trans s t u b c) (p.2 u f))),
  )
  also_several t after b p =
      (inr p.0, (p.1.0, inr p.1.1, p.1.2), λ u. ⊎_elim (λ e. inr (rw e b)) (λ f. p.2 u f))

  joined_tells : (v : Verdict) → Tells Fits v → Tells Also (joined s v)
  unfolding joined
  joined_tells (sole t) p = also_sole t (compared s t) (compared_says s t) p
  joined_tells (several t) p = also_several t (compared s t) (compared_says s t) p
  joined_tells no_build p = (inl refl, λ u. ⊎_elim (λ e. e) (λ f. absurd (p u f)))

pub verdict_tells : (ss : List (List ℕ)) → Tells (λ s. In s ss) (verdict_of ss)
unfolding verdict_of
verdict_tells [] = λ s h. not_in_nil h
verdict_tells (s ∷ ss) =
    tells_same (Also (λ t. In t ss) s) (λ t. In t (s ∷ ss)) (λ t. ⊎_elim (λ e. in_cast e first) later) (λ t h. in_cons h)
    (joined s (verdict_of ss))
    (joined_tells (λ t. In t ss) s (verdict_of ss) (verdict_tells ss))

-- the verdict on the entries, by their arrangements
pub enumerated : (l : ℕ) (es : List Entry) → Tells (Build l es) (verdict_of (sequences l es))
enumerated l es =
    tells_same (λ s. In s (sequences l es)) (Build l es) (λ s h. sequences_sound h) (λ s b. sequences_complete b)
    (verdict_of (sequences l es))
    (verdict_tells (sequences l es))
