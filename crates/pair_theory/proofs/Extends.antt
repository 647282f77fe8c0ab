-- A closed choice extends: with the places of any arrangement for the entries that have none, it is an arrangement. No contract
-- cites this file. Assumes nothing.
use mathlib.Core.Path.{◌≡◌, refl, sym, ◌∙◌}
use mathlib.Core.Logic.{◌≢◌, inl, inr, ⊎_elim, by_cases, ite, if_pos, if_neg}
use Prim.Native.Nat.{ℕ, ◌<◌}
use native.Mathlib.Omega.{arith}
use native.Mathlib.Decide.{ℕ_discrete, dec_lt}
use Rattle.pair_theory.specs.Arranged.{Pairs, Inside, HasPlace, Goes, Arranged}
use Rattle.pair_theory.specs.Chosen.{Agrees, Closed, Refuted, Possible}
use Rattle.base_lists.proofs.Pigeons.{OneToOne, reached}

pub goes_sym : (c : Pairs) {e p f q : ℕ} → Goes c e p f q → Goes c f q e p
goes_sym c g = record { apart = λ h. g.apart (sym h); on = g.back; back = g.on }

-- s where it has a place, and σ elsewhere
pub over : Pairs → (ℕ → ℕ) → (ℕ → ℕ) → ℕ → ℕ
over c s σ e = ite (dec_lt (s e) c.m) (s e) (σ e)

module _ (c : Pairs) (s σ : ℕ → ℕ) where
  pub over_in : (e : ℕ) → s e < c.m → over c s σ e ≡ s e
  unfolding over
  over_in e h = if_pos (dec_lt (s e) c.m) h (s e) (σ e)

  pub over_out : (e : ℕ) → ¬ (s e < c.m) → over c s σ e ≡ σ e
  unfolding over
  over_out e h = if_neg (dec_lt (s e) c.m) h (s e) (σ e)

  pub over_agrees : Agrees c s (over c s σ)
  over_agrees e p h = over_in e h

  module _ (k : Closed c s) (a : Arranged c σ) where
    over_stands : (e : ℕ) → e < c.m → HasPlace c e (over c s σ e)
    over_stands e p =
        by_cases (dec_lt (s e) c.m)
        (λ h. rw (over_in e h) (k.allowed e p h))
        (λ h. rw (over_out e h) (a.allowed e p))

    -- a placed entry and any other
    over_clear : (e f : ℕ) → e < c.m → f < c.m → e ≢ f → s e < c.m → Goes c e (over c s σ e) f (over c s σ f)
    over_clear e f p q d h =
        rw (over_in e h)
        (⊎_elim (λ g. g) (λ g. absurd (g.1 (sym (over_in f g.0)))) (k.clear e f (over c s σ f) p q d h (over_stands f q)))

    pub extends : Arranged c (over c s σ)
    extends = record { allowed = over_stands; goes = two }
      where
        two : (e f : ℕ) → e < c.m → f < c.m → e ≢ f → Goes c e (over c s σ e) f (over c s σ f)
        two e f p q d =
            by_cases (dec_lt (s e) c.m) (over_clear e f p q d)
            (λ h. by_cases (dec_lt (s f) c.m) (λ g. goes_sym c (over_clear f e q p (λ x. d (sym x)) g))
            (λ g. rw (over_out e h, over_out f g) (a.goes e f p q d)))

-- a closed choice that has a place for every entry is an arrangement
pub all_placed : (c : Pairs) (s : ℕ → ℕ) → Closed c s → ((e : ℕ) → e < c.m → s e < c.m) → Arranged c s
all_placed c s k h = record { allowed = λ e p. k.allowed e p (h e p); goes = two }
  where
    two : (e f : ℕ) → e < c.m → f < c.m → e ≢ f → Goes c e (s e) f (s f)
    two e f p q d = ⊎_elim (λ g. g) (λ g. absurd (g.1 refl)) (k.clear e f (s f) p q d (h e p) (k.allowed f q (h f q)))

-- two entries of an arrangement at one place are one
pub one_there : (c : Pairs) (σ : ℕ → ℕ) → Arranged c σ → (e f t : ℕ) → e < c.m → f < c.m → σ e ≡ t → σ f ≡ t → e ≡ f
one_there c σ a e f t p q x y = by_cases (ℕ_discrete e f) (λ h. h) (λ d. absurd ((a.goes e f p q d).apart (x ∙ sym y)))

-- an arrangement sends different entries to different places
pub one_to_one : (c : Pairs) (σ : ℕ → ℕ) → Inside c → Arranged c σ → OneToOne c.m σ
one_to_one c σ i a = record { inside = in_range; apart = one_one }
  where
    in_range : (e : ℕ) → e < c.m → σ e < c.m
    in_range e p = ⊎_elim (λ h. rw h (i.ones e p)) (λ h. rw h (i.twos e p)) (a.allowed e p)

    one_one : (e f : ℕ) → e < c.m → f < c.m → σ e ≡ σ f → e ≡ f
    one_one e f p q h = by_cases (ℕ_discrete e f) (λ x. x) (λ d. absurd ((a.goes e f p q d).apart h))

-- it fills every place
pub filled : (c : Pairs) (σ : ℕ → ℕ) → Inside c → Arranged c σ → (t : ℕ) → t < c.m → (e : ℕ) × (e < c.m) × (σ e ≡ t)
filled c σ i a = reached c.m σ (one_to_one c σ i a)

-- an entry that stands at neither of its places after s: there is no arrangement at all
pub neither : (c : Pairs) (s : ℕ → ℕ) (e : ℕ) → Closed c s → e < c.m → Refuted c s e (c.one e)
    → Refuted c s e (c.two e)
    → (σ : ℕ → ℕ)
    → Arranged c σ
    → ⊥
neither c s e k p n1 n2 σ a =
    let b = extends c s σ k a in
    ⊎_elim (n1 (over c s σ) b (over_agrees c s σ)) (n2 (over c s σ) b (over_agrees c s σ)) (b.allowed e p)

-- what agrees with more agrees with less
pub agrees_less : (c : Pairs) (s r σ : ℕ → ℕ) → Agrees c s r → Agrees c r σ → Agrees c s σ
agrees_less c s r σ k a e p h = a e p (rw (k e p h) h) ∙ k e p h

-- with the places of s, an entry that stands at t was possible there
pub was_possible : (c : Pairs) (s σ : ℕ → ℕ) (t e : ℕ) → Arranged c σ → Agrees c s σ → e < c.m → σ e ≡ t → Possible c s t e
was_possible c s σ t e a g p h =
    (rw h at (a.allowed e p), by_cases (dec_lt (s e) c.m) (λ x. inr (sym (g e p x) ∙ h)) (λ x. inl (omega arith)))
