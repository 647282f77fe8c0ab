-- Laws of those of a list that pass a test. Assumes nothing.
use mathlib.Core.Path.{◌≡◌, refl, ap}
use mathlib.Core.Bool.{Bool, true, false, cond, ◌&&◌}
use mathlib.Core.List.{List, [], ◌∷◌}
use Rattle.base_lists.specs.Members.{In, first, later, keep}

module _ {A : Type 0} where
  pub keep_same : (f g : A → Bool) (l : List A) → ((x : A) → In x l → f x ≡ g x) → keep f l ≡ keep g l
  keep_same f g [] h = refl
  keep_same f g (x ∷ l) h = go (f x) (g x) (h x first) (keep_same f g l (λ y m. h y (later m)))
    where
      go : (a b : Bool) → a ≡ b → keep f l ≡ keep g l → cond a (x ∷ keep f l) (keep f l) ≡ cond b (x ∷ keep g l) (keep g l)
      go true true e t = ap (λ r. x ∷ r) t
      go true false e t = let z = e in cc
      go false true e t = let z = e in cc
      go false false e t = t

  pub keep_none : (f : A → Bool) (l : List A) → ((x : A) → In x l → f x ≡ false) → keep f l ≡ []
  keep_none f [] h = refl
  keep_none f (x ∷ l) h = rw (h x first) (keep_none f l (λ y m. h y (later m)))

  -- one test after the other
  pub keep_both : (f g : A → Bool) (l : List A) → keep (λ x. f x && g x) l ≡ keep g (keep f l)
  keep_both f g [] = refl
  keep_both f g (x ∷ l) = go (f x) (keep_both f g l)
    where
      go : (a : Bool) → keep (λ y. f y && g y) l ≡ keep g (keep f l)
          → cond (a && g x) (x ∷ keep (λ y. f y && g y) l) (keep (λ y. f y && g y) l) ≡ keep g (cond a (x ∷ keep f l) (keep f l))
      go true t = by (g x)
        where
          by : (b : Bool) → cond b (x ∷ keep (λ y. f y && g y) l) (keep (λ y. f y && g y) l)
              ≡ cond b (x ∷ keep g (keep f l)) (keep g (keep f l))
          by true = ap (λ r. x ∷ r) t
          by false = t
      go false t = t
