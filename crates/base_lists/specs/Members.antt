-- The members of a list, and lists by their members.
--   In x xs                == x is in the list
--   Taken e all rest       == `rest` is `all` with one e taken out, the others in their order
--   Reordered all order    == `order` has the members of `all`, each as often, in any order
--   Rising R xs            == each member stands in R to all that come after it
--   Paired R xs ys         == the members of the two lists pair off, each pair in R
--   choices xs             == each member with those that are left without it, in the order of the list
--   keep test xs           == those that pass the test, in their order
-- Assumes nothing.
use Rattle.std.specs.Prelude.{Bool, cond, List, [], ◌∷◌, map}

module _ {A : Type 0} where
  pub data In (x : A) : List A → Type 0 where
    first : {xs : List A} → In x (x ∷ xs)
    later : {y : A} {xs : List A} → In x xs → In x (y ∷ xs)

  pub data Taken (e : A) : List A → List A → Type 0 where
    here : {rest : List A} → Taken e (e ∷ rest) rest
    there : {x : A} {all rest : List A} → Taken e all rest → Taken e (x ∷ all) (x ∷ rest)

  pub data Reordered : List A → List A → Type 0 where
    empty : Reordered [] []
    next : {e : A} {all rest order : List A} → Taken e all rest → Reordered rest order → Reordered all (e ∷ order)

  pub data Rising (R : A → A → Type 0) : List A → Type 0 where
    flat : Rising R []
    rises : {x : A} {xs : List A} → ((y : A) → In y xs → R x y) → Rising R xs → Rising R (x ∷ xs)

  abbrev pub keep : (A → Bool) → List A → List A
  keep test [] = []
  keep test (x ∷ xs) = cond (test x) (x ∷ keep test xs) (keep test xs)

-- one that is taken out, and what is left
pub record Choice (A : Type 0) : Type 0 where
  pub entry : A
  pub left : List A

module _ {A : Type 0} where
  abbrev pub choice : A → List A → Choice A
  choice e rest = record { entry = e; left = rest }

  abbrev pub choices : List A → List (Choice A)
  choices [] = []
  choices (e ∷ es) = choice e es ∷ map (λ c. choice c.entry (e ∷ c.left)) (choices es)

pub data Paired {A : Type 0} (R : A → A → Type 0) : List A → List A → Type 0 where
  nobody : Paired R [] []
  pair : {a b : A} {l l' m m' : List A} → R a b → Taken a l l' → Taken b m m' → Paired R l' m' → Paired R l m
