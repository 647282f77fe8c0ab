-- Three arrangements have at most two entries at a place, and the odd one out at each place is an arrangement again: so builds come
-- in powers of two (request 12). No contract cites this file. Assumes nothing.
use mathlib.Core.Path.{◌≡◌, refl, sym, ap, ◌∙◌}
use mathlib.Core.Logic.{◌≢◌, inl, inr, by_cases, ite, if_pos, if_neg}
use Prim.Native.Nat.{ℕ, suc, ◌<◌}
use native.Mathlib.Omega.{arith}
use native.Mathlib.Decide.{ℕ_discrete, dec_lt}
use Rattle.pair_theory.specs.Arranged.{Pairs, Inside, HasPlace, Arranged}
use Rattle.base_lists.proofs.Pigeons.{onto_apart}
use Rattle.pair_theory.proofs.Extends.{filled, one_there}

-- a map that reaches every number below n sends different numbers to different ones
onto_one : (n : ℕ) (f : ℕ → ℕ) → ((t : ℕ) → t < n → (i : ℕ) × (i < n) × (f i ≡ t)) → (i j : ℕ) → i < n → j < n → f i ≡ f j → i ≡ j
onto_one n f h = onto_apart n f (λ t. go t (dec_lt t n)) (λ t p. here t p (dec_lt t n))
  where
    go : (t : ℕ) → Dec (t < n) → ℕ
    go t (yes p) = (h t p).0
    go t (no _) = 0

    here : (t : ℕ) → t < n → (d : Dec (t < n)) → (go t d < n) × (f (go t d) ≡ t)
    here t p (yes q) = ((h t q).1, (h t q).2)
    here t p (no q) = absurd (q p)

-- an entry has at most two places
two_places : (c : Pairs) (e p q r : ℕ) → HasPlace c e p → HasPlace c e q → HasPlace c e r → p ≢ q → r ≢ p → r ≡ q
two_places c e p q r (inl x) (inl y) z d d' = absurd (d (x ∙ sym y))
two_places c e p q r (inr x) (inr y) z d d' = absurd (d (x ∙ sym y))
two_places c e p q r (inl x) (inr y) (inl z) d d' = absurd (d' (z ∙ sym x))
two_places c e p q r (inl x) (inr y) (inr z) d d' = z ∙ sym y
two_places c e p q r (inr x) (inl y) (inl z) d d' = z ∙ sym y
two_places c e p q r (inr x) (inl y) (inr z) d d' = absurd (d' (z ∙ sym x))

-- the other place of an entry that moves from σ₁ to σ₂ or to σ₃
moved : (ℕ → ℕ) → (ℕ → ℕ) → (ℕ → ℕ) → ℕ → ℕ
moved σ₁ σ₂ σ₃ e = ite (ℕ_discrete (σ₂ e) (σ₁ e)) (σ₃ e) (σ₂ e)

module _ (c : Pairs) (i : Inside c) {σ₁ σ₂ σ₃ : ℕ → ℕ} (a₁ : Arranged c σ₁) (a₂ : Arranged c σ₂) (a₃ : Arranged c σ₃) where
  stays : (e : ℕ) → σ₂ e ≡ σ₁ e → moved σ₁ σ₂ σ₃ e ≡ σ₃ e
  unfolding moved
  stays e h = if_pos (ℕ_discrete (σ₂ e) (σ₁ e)) h (σ₃ e) (σ₂ e)

  moves : (e : ℕ) → σ₂ e ≢ σ₁ e → moved σ₁ σ₂ σ₃ e ≡ σ₂ e
  unfolding moved
  moves e h = if_neg (ℕ_discrete (σ₂ e) (σ₁ e)) h (σ₃ e) (σ₂ e)

  -- an entry that is at t in σ₃ and not in σ₁, nor in σ₂
  third : (e t : ℕ) → e < c.m → σ₃ e ≡ t → σ₁ e ≢ t → σ₂ e ≢ t → moved σ₁ σ₂ σ₃ e ≡ t
  third e t p h d₁ d₂ =
      stays e
      (by_cases (ℕ_discrete (σ₂ e) (σ₁ e)) (λ x. x)
      (λ x. absurd (d₂ (two_places c e (σ₁ e) t (σ₂ e) (a₁.allowed e p) (rw h at (a₃.allowed e p)) (a₂.allowed e p) d₁ x)))) ∙ h

  second : (e t : ℕ) → σ₂ e ≡ t → σ₁ e ≢ t → moved σ₁ σ₂ σ₃ e ≡ t
  second e t h d = moves e (λ x. d (sym x ∙ h)) ∙ h

  -- every place is the other place of some entry
  onto : (t : ℕ) → t < c.m → (e : ℕ) × (e < c.m) × (moved σ₁ σ₂ σ₃ e ≡ t)
  onto t l = go (filled c σ₂ i a₂ t l) (filled c σ₃ i a₃ t l)
    where
      go : (a : ℕ) × (a < c.m) × (σ₂ a ≡ t) → (b : ℕ) × (b < c.m) × (σ₃ b ≡ t) → (e : ℕ) × (e < c.m) × (moved σ₁ σ₂ σ₃ e ≡ t)
      go (a, ap', x) (b, bp, y) =
          by_cases (ℕ_discrete (σ₁ a) t)
          (λ z. by_cases (ℕ_discrete (σ₁ b) t)
          (λ w. let s = one_there c σ₁ a₁ b a t bp ap' w z in (b, bp, stays b (ap σ₂ s ∙ x ∙ sym w) ∙ y))
          (λ w. (b, bp, third b t bp y w (λ v. w (ap σ₁ (one_there c σ₂ a₂ b a t bp ap' v x) ∙ z)))))
          (λ z. (a, ap', second a t x z))

  -- at most two entries at a place: of three, one in each, two are one
  pub two_there : (e₁ e₂ e₃ t : ℕ) → e₁ < c.m → e₂ < c.m → e₃ < c.m → σ₁ e₁ ≡ t → σ₂ e₂ ≡ t → σ₃ e₃ ≡ t → e₁ ≢ e₂ → e₁ ≢ e₃ → e₂ ≡ e₃
  two_there e₁ e₂ e₃ t p₁ p₂ p₃ h₁ h₂ h₃ d d' =
      by_cases (ℕ_discrete (σ₂ e₃) t) (λ x. one_there c σ₂ a₂ e₂ e₃ t p₂ p₃ h₂ x)
      (λ x. onto_one c.m (moved σ₁ σ₂ σ₃) onto e₂ e₃ p₂ p₃
      (second e₂ t h₂ (λ y. d (one_there c σ₁ a₁ e₁ e₂ t p₁ p₂ h₁ y)) ∙ sym (third e₃ t p₃ h₃ (λ y. d' (one_there c σ₁ a₁ e₁ e₃ t p₁ p₃ h₁ y)) x)))

-- ---- the odd one out

pub odd : ℕ → ℕ → ℕ → ℕ
odd x y z = ite (ℕ_discrete x y) z (ite (ℕ_discrete x z) y x)

-- two that are the same leave the third
pub odd_first : (x y z : ℕ) → y ≡ z → odd x y z ≡ x
unfolding odd
odd_first x y z h =
    by_cases (ℕ_discrete x y) (λ e. if_pos (ℕ_discrete x y) e z (ite (ℕ_discrete x z) y x) ∙ sym h ∙ sym e)
    (λ e. if_neg (ℕ_discrete x y) e z (ite (ℕ_discrete x z) y x) ∙ if_neg (ℕ_discrete x z) (λ d. e (d ∙ sym h)) y x)

pub odd_second : (x y z : ℕ) → x ≡ z → odd x y z ≡ y
unfolding odd
odd_second x y z h =
    by_cases (ℕ_discrete x y) (λ e. if_pos (ℕ_discrete x y) e z (ite (ℕ_discrete x z) y x) ∙ sym h ∙ e)
    (λ e. if_neg (ℕ_discrete x y) e z (ite (ℕ_discrete x z) y x) ∙ if_pos (ℕ_discrete x z) h y x)

pub odd_third : (x y z : ℕ) → x ≡ y → odd x y z ≡ z
unfolding odd
odd_third x y z h = if_pos (ℕ_discrete x y) h z (ite (ℕ_discrete x z) y x)

-- the odd one out of x, y and z, in the place of x, gives x back
pub odd_back : (x y z : ℕ) → (x ≢ y → x ≢ z → y ≡ z) → odd (odd x y z) y z ≡ x
odd_back x y z h =
    by_cases (ℕ_discrete x y) (λ e. rw (odd_third x y z e) (odd_second z y z refl ∙ sym e))
    (λ e. by_cases (ℕ_discrete x z) (λ d. rw (odd_second x y z d) (odd_third y y z refl ∙ sym d))
    (λ d. rw (odd_first x y z (h e d)) (odd_first x y z (h e d))))

-- p is where all three are, or where one of them is alone
pub data Odd (x y z p : ℕ) : Type 0 where
  all : x ≡ p → y ≡ p → z ≡ p → Odd x y z p
  one₁ : x ≡ p → y ≢ p → z ≢ p → Odd x y z p
  one₂ : x ≢ p → y ≡ p → z ≢ p → Odd x y z p
  one₃ : x ≢ p → y ≢ p → z ≡ p → Odd x y z p

odd_is : (x y z : ℕ) → (x ≢ y → x ≢ z → y ≡ z) → Odd x y z (odd x y z)
unfolding odd
odd_is x y z h =
    by_cases (ℕ_discrete x y)
    (λ e. rw (if_pos (ℕ_discrete x y) e z (ite (ℕ_discrete x z) y x))
    (by_cases (ℕ_discrete x z) (λ d. all d (sym e ∙ d) refl) (λ d. one₃ d (λ v. d (e ∙ v)) refl)))
    (λ e. rw (if_neg (ℕ_discrete x y) e z (ite (ℕ_discrete x z) y x))
    (by_cases (ℕ_discrete x z)
    (λ d. rw (if_pos (ℕ_discrete x z) d y x) (one₂ e refl (λ v. e (d ∙ v))))
    (λ d. rw (if_neg (ℕ_discrete x z) d y x) (one₁ refl (λ v. e (sym v)) (λ v. d (sym v))))))

-- ---- it is an arrangement

module _ (c : Pairs) (i : Inside c) where
  -- e alone at p, in α, and f alone at the place after it, in β
  crossed : {α β γ : ℕ → ℕ} → Arranged c α → Arranged c β → Arranged c γ → (e f p q : ℕ) → e < c.m → f < c.m → suc p ≡ q → q < c.m
      → α e ≡ p → β e ≢ p → γ e ≢ p → β f ≡ q → α f ≢ q → γ f ≢ q → c.tail e ≡ c.head f
  crossed {α} {β} {γ} a b d e f p q he hf next hq αe βe γe βf αf γf =
      go (filled c β i b p (omega arith)) (filled c γ i d p (omega arith)) (filled c α i a q hq) (filled c γ i d q hq)
    where
      go : (x : ℕ) × (x < c.m) × (β x ≡ p) → (y : ℕ) × (y < c.m) × (γ y ≡ p) → (g : ℕ) × (g < c.m) × (α g ≡ q)
          → (h : ℕ) × (h < c.m) × (γ h ≡ q) → c.tail e ≡ c.head f
      go (x, hx, βx) (y, hy, γy) (g, hg, αg) (h, hh, γh) =
          let same-p : x ≡ y = two_there c i a b d e x y p he hx hy αe βx γy (λ z. βe (ap β z ∙ βx)) (λ z. γe (ap γ z ∙ γy)) in
          let same-q : g ≡ h = two_there c i b a d f g h q hf hg hh βf αg γh (λ z. αf (ap α z ∙ αg)) (λ z. γf (ap γ z ∙ γh)) in
          let one : c.tail e ≡ c.head g = (a.goes e g he hg (λ z. omega (arith, ap α z))).on (omega arith) in
          let two : c.tail x ≡ c.head f = (b.goes x f hx hf (λ z. omega (arith, ap β z))).on (omega arith) in
          let γx : γ x ≡ p = ap γ same-p ∙ γy in
          let γg : γ g ≡ q = ap γ same-q ∙ γh in
          let three : c.tail x ≡ c.head g = (d.goes x g hx hg (λ z. omega (arith, ap γ z))).on (omega arith) in
          one ∙ sym three ∙ two

  -- alone at one place in two of them: not both
  parted : {α β γ : ℕ → ℕ} → Arranged c α → Arranged c β → Arranged c γ → (e f p : ℕ) → e < c.m → f < c.m → p < c.m
      → α e ≡ p → β e ≢ p → γ e ≢ p → β f ≡ p → γ f ≢ p → ⊥
  parted {α} {β} {γ} a b d e f p he hf hp αe βe γe βf γf =
      go (filled c γ i d p hp)
    where
      go : (g : ℕ) × (g < c.m) × (γ g ≡ p) → ⊥
      go (g, hg, γg) =
          γf (ap γ (two_there c i a b d e f g p he hf hg αe βf γg (λ z. βe (ap β z ∙ βf)) (λ z. γe (ap γ z ∙ γg))) ∙ γg)

module _ (c : Pairs) (i : Inside c) {σ₁ σ₂ σ₃ : ℕ → ℕ} (a₁ : Arranged c σ₁) (a₂ : Arranged c σ₂) (a₃ : Arranged c σ₃) where
  abbrev pub odd_out : ℕ → ℕ
  odd_out e = odd (σ₁ e) (σ₂ e) (σ₃ e)

  pub odd_at : (e : ℕ) → e < c.m → Odd (σ₁ e) (σ₂ e) (σ₃ e) (odd_out e)
  odd_at e h =
      odd_is (σ₁ e) (σ₂ e) (σ₃ e)
      (λ d₂ d₃. sym (two_places c e (σ₁ e) (σ₂ e) (σ₃ e) (a₁.allowed e h) (a₂.allowed e h) (a₃.allowed e h) d₂ (λ z. d₃ (sym z))))

  odd_stands : (e : ℕ) → e < c.m → {p : ℕ} → Odd (σ₁ e) (σ₂ e) (σ₃ e) p → HasPlace c e p
  odd_stands e h (all x y z) = rw x at (a₁.allowed e h)
  odd_stands e h (one₁ x y z) = rw x at (a₁.allowed e h)
  odd_stands e h (one₂ x y z) = rw y at (a₂.allowed e h)
  odd_stands e h (one₃ x y z) = rw z at (a₃.allowed e h)

  inside : (e : ℕ) → e < c.m → {p : ℕ} → HasPlace c e p → p < c.m
  inside e h (inl x) = rw x (i.ones e h)
  inside e h (inr x) = rw x (i.twos e h)

  module _ (e f : ℕ) (he : e < c.m) (hf : f < c.m) (apart-is : e ≢ f) where
    -- both at one place in one of them
    meet₁ : {p : ℕ} → σ₁ e ≡ p → σ₁ f ≡ p → ⊥
    meet₁ x y = apart-is (one_there c σ₁ a₁ e f _ he hf x y)

    meet₂ : {p : ℕ} → σ₂ e ≡ p → σ₂ f ≡ p → ⊥
    meet₂ x y = apart-is (one_there c σ₂ a₂ e f _ he hf x y)

    meet₃ : {p : ℕ} → σ₃ e ≡ p → σ₃ f ≡ p → ⊥
    meet₃ x y = apart-is (one_there c σ₃ a₃ e f _ he hf x y)

    odd_apart : {p : ℕ} → p < c.m → Odd (σ₁ e) (σ₂ e) (σ₃ e) p → Odd (σ₁ f) (σ₂ f) (σ₃ f) p → ⊥
    odd_apart h (all x y z) (all u v w) = meet₁ x u
    odd_apart h (all x y z) (one₁ u v w) = meet₁ x u
    odd_apart h (all x y z) (one₂ u v w) = meet₂ y v
    odd_apart h (all x y z) (one₃ u v w) = meet₃ z w
    odd_apart h (one₁ x y z) (all u v w) = meet₁ x u
    odd_apart h (one₁ x y z) (one₁ u v w) = meet₁ x u
    odd_apart {p} h (one₁ x y z) (one₂ u v w) = parted c i a₁ a₂ a₃ e f p he hf h x y z v w
    odd_apart {p} h (one₁ x y z) (one₃ u v w) = parted c i a₁ a₃ a₂ e f p he hf h x z y w v
    odd_apart h (one₂ x y z) (all u v w) = meet₂ y v
    odd_apart {p} h (one₂ x y z) (one₁ u v w) = parted c i a₂ a₁ a₃ e f p he hf h y x z u w
    odd_apart h (one₂ x y z) (one₂ u v w) = meet₂ y v
    odd_apart {p} h (one₂ x y z) (one₃ u v w) = parted c i a₂ a₃ a₁ e f p he hf h y z x w u
    odd_apart h (one₃ x y z) (all u v w) = meet₃ z w
    odd_apart {p} h (one₃ x y z) (one₁ u v w) = parted c i a₃ a₁ a₂ e f p he hf h z x y u v
    odd_apart {p} h (one₃ x y z) (one₂ u v w) = parted c i a₃ a₂ a₁ e f p he hf h z y x v u
    odd_apart h (one₃ x y z) (one₃ u v w) = meet₃ z w

    on₁ : {p q : ℕ} → suc p ≡ q → σ₁ e ≡ p → σ₁ f ≡ q → c.tail e ≡ c.head f
    on₁ n x y = (a₁.goes e f he hf apart-is).on (omega arith)

    on₂ : {p q : ℕ} → suc p ≡ q → σ₂ e ≡ p → σ₂ f ≡ q → c.tail e ≡ c.head f
    on₂ n x y = (a₂.goes e f he hf apart-is).on (omega arith)

    on₃ : {p q : ℕ} → suc p ≡ q → σ₃ e ≡ p → σ₃ f ≡ q → c.tail e ≡ c.head f
    on₃ n x y = (a₃.goes e f he hf apart-is).on (omega arith)

    odd_on : {p q : ℕ} → suc p ≡ q → q < c.m → Odd (σ₁ e) (σ₂ e) (σ₃ e) p → Odd (σ₁ f) (σ₂ f) (σ₃ f) q → c.tail e ≡ c.head f
    odd_on n h (all x y z) (all u v w) = on₁ n x u
    odd_on n h (all x y z) (one₁ u v w) = on₁ n x u
    odd_on n h (all x y z) (one₂ u v w) = on₂ n y v
    odd_on n h (all x y z) (one₃ u v w) = on₃ n z w
    odd_on n h (one₁ x y z) (all u v w) = on₁ n x u
    odd_on n h (one₁ x y z) (one₁ u v w) = on₁ n x u
    odd_on {p} {q} n h (one₁ x y z) (one₂ u v w) = crossed c i a₁ a₂ a₃ e f p q he hf n h x y z v u w
    odd_on {p} {q} n h (one₁ x y z) (one₃ u v w) = crossed c i a₁ a₃ a₂ e f p q he hf n h x z y w u v
    odd_on n h (one₂ x y z) (all u v w) = on₂ n y v
    odd_on {p} {q} n h (one₂ x y z) (one₁ u v w) = crossed c i a₂ a₁ a₃ e f p q he hf n h y x z u v w
    odd_on n h (one₂ x y z) (one₂ u v w) = on₂ n y v
    odd_on {p} {q} n h (one₂ x y z) (one₃ u v w) = crossed c i a₂ a₃ a₁ e f p q he hf n h y z x w v u
    odd_on n h (one₃ x y z) (all u v w) = on₃ n z w
    odd_on {p} {q} n h (one₃ x y z) (one₁ u v w) = crossed c i a₃ a₁ a₂ e f p q he hf n h z x y u w v
    odd_on {p} {q} n h (one₃ x y z) (one₂ u v w) = crossed c i a₃ a₂ a₁ e f p q he hf n h z y x v w u
    odd_on n h (one₃ x y z) (one₃ u v w) = on₃ n z w

  -- the odd one out of three arrangements is an arrangement
  pub odd_arranged : Arranged c odd_out
  odd_arranged = record {
    allowed = λ e h. odd_stands e h (odd_at e h);
    goes = λ e f he hf d. record {
      apart = λ s. odd_apart e f he hf d (inside f hf (odd_stands f hf (odd_at f hf))) (rw s at (odd_at e he)) (odd_at f hf);
      on = λ n. odd_on e f he hf d n (inside f hf (odd_stands f hf (odd_at f hf))) (odd_at e he) (odd_at f hf);
      back = λ n. odd_on f e hf he (λ z. d (sym z)) n (inside e he (odd_stands e he (odd_at e he))) (odd_at f hf) (odd_at e he);
    };
  }
