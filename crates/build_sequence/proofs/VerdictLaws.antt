-- Laws of true verdicts: there is one, it is the same for the same sequences, and where more sequences fit it is as demand 3 says. Assumes
-- nothing.
use mathlib.Core.Path.{◌≡◌, sym, ◌∙◌, ap}
use mathlib.Core.Logic.{◌⊎◌, inl, inr, ⊎_map}
use mathlib.Core.List.{List}
use Prim.Native.Nat.{ℕ}
use Rattle.build_sequence.specs.Verdict.{Before, Verdict, sole, several, no_build, Tells}
use Rattle.build_sequence.specs.Compared.{NoLater}
use Rattle.build_sequence.proofs.OrderLaws.{before_asym}

-- two verdicts that are both true are one
module _ (Fits : List ℕ → Type 0) where
  sole_or_several : (s t : List ℕ) → Tells Fits (sole s) → Tells Fits (several t) → ⊥
  sole_or_several s t p q = q.1.2 (p.1 q.1.0 q.1.1 ∙ sym (p.1 t q.0))

  first_one : {s t : List ℕ} → (t ≡ s) ⊎ Before s t → (s ≡ t) ⊎ Before t s → s ≡ t
  first_one (inl e) q = sym e
  first_one (inr b) (inl e) = e
  first_one {s} {t} (inr b) (inr c) = absurd (before_asym s t b c)

  pub tells_one : (v v' : Verdict) → Tells Fits v → Tells Fits v' → v ≡ v'
  tells_one (sole s) (sole t) p q = ap sole (q.1 s p.0)
  tells_one (sole s) (several t) p q = absurd (sole_or_several s t p q)
  tells_one (sole s) no_build p q = absurd (q s p.0)
  tells_one (several s) (sole t) p q = absurd (sole_or_several t s q p)
  tells_one (several s) (several t) p q = ap several (first_one (p.2 t q.0) (q.2 s p.0))
  tells_one (several s) no_build p q = absurd (q s p.0)
  tells_one no_build (sole t) p q = absurd (p t q.0)
  tells_one no_build (several t) p q = absurd (p t q.0)
  tells_one no_build no_build p q = λ i. no_build

module _ (Fits Fits' : List ℕ → Type 0) (more : (s : List ℕ) → Fits s → Fits' s) where
  -- "a build on the first means one on the second, alphabetically no later; several stays several"
  pub tells_no_later : (v v' : Verdict) → Tells Fits v → Tells Fits' v' → NoLater v v'
  tells_no_later (sole s) (sole t) p q = sym (q.1 s (more s p.0))
  tells_no_later (sole s) (several t) p q = ⊎_map sym (λ b. b) (q.2 s (more s p.0))
  tells_no_later (sole s) no_build p q = q s (more s p.0)
  tells_no_later (several s) (sole t) p q =
      p.1.2 (q.1 p.1.0 (more p.1.0 p.1.1) ∙ sym (q.1 s (more s p.0)))
  tells_no_later (several s) (several t) p q = ⊎_map sym (λ b. b) (q.2 s (more s p.0))
  tells_no_later (several s) no_build p q = q s (more s p.0)
  tells_no_later no_build v' p q = tt

  -- a verdict says the same of the same sequences
  pub tells_same : ((s : List ℕ) → Fits' s → Fits s) → (v : Verdict) → Tells Fits v → Tells Fits' v
  tells_same back (sole s) p = (more s p.0, λ t f. p.1 t (back t f))
  tells_same back (several s) p =
      (more s p.0, (p.1.0, more p.1.0 p.1.1, p.1.2), λ t f. p.2 t (back t f))
  tells_same back no_build p = λ t f. p t (back t f)
