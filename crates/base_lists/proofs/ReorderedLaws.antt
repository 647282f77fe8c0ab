-- Laws of lists in another order and of lists that pair off, and of what a map does to them. Assumes nothing.
use mathlib.Core.Path.{◌≡◌, refl, ap}
use mathlib.Core.Logic.{⊎_elim}
use mathlib.Core.List.{List, [], ◌∷◌, map, nil≢cons}
use native.Mathlib.Omega.{arith}
use lib.ListN.{length}
use Rattle.base_lists.specs.Members.{In, Taken, here, there, Reordered, empty, next, Paired, nobody, pair}
use Rattle.base_lists.proofs.ListLaws.{in_cons, in_cast, in_left, length_taken, taken_is_in}

pub reordered_length : {A : Type 0} {l o : List A} → Reordered l o → length o ≡ length l
reordered_length empty = refl
reordered_length (next t r) = let h = reordered_length r in omega (arith, length_taken t)

pub reordered_in : {A : Type 0} {all order : List A} {x : A} → Reordered all order → In x order → In x all
reordered_in (next t r) h = ⊎_elim (λ e. in_cast e (taken_is_in t)) (λ g. in_left t (reordered_in r g)) (in_cons h)
reordered_in {A = A} empty h = elim h [ ]

module _ {A B : Type 0} (f : A → B) where
  taken_map : {a : A} {l m : List A} → Taken a l m → Taken (f a) (map f l) (map f m)
  taken_map here = here
  taken_map (there t) = there (taken_map t)

  pub reordered_map : {l m : List A} → Reordered l m → Reordered (map f l) (map f m)
  reordered_map empty = empty
  reordered_map (next t r) = next (taken_map t) (reordered_map r)

  map_taken : {b : B} (l : List A) {m : List B} → Taken b (map f l) m → (a : A) × (k : List A) × Taken a l k × (b ≡ f a) × (m ≡ map f k)
  map_taken {b = b} [] {m = m} t = elim t [ ]
  map_taken {b = b} (x ∷ l) {m = m} t = go x b (λ m t. map_taken l t) t
    where
      Found : List A → B → List B → Type 0
      Found l b m = (a : A) × (k : List A) × Taken a l k × (b ≡ f a) × (m ≡ map f k)

      go : (x : A) (b : B) → ((m : List B) → Taken b (map f l) m → Found l b m) → {m : List B} → Taken b (f x ∷ map f l) m → Found (x ∷ l) b m
      go x b rest here = (x, l, here, refl, refl)
      go x b rest (there t) = let s = rest _ t in (s.0, x ∷ s.1, there s.2, s.3, ap (λ r. f x ∷ r) s.4)

  -- what a map gives, in another order, is the map of the list in that order
  pub map_reordered : {m o : List B} (l : List A) → m ≡ map f l → Reordered m o → (k : List A) × Reordered l k × (o ≡ map f k)
  map_reordered [] e empty = ([], empty, refl)
  map_reordered (x ∷ l) e empty = absurd (nil≢cons e)
  map_reordered l e (next t r) =
      let s = map_taken l (rw e at t) in
      let u = map_reordered s.1 s.4 r in
      (s.0 ∷ u.0, next s.2 u.1, cc)

  -- lists that pair off after a map pair off before it
  pub map_paired : {R : B → B → Type 0} {m n : List B} (l l' : List A) → m ≡ map f l → n ≡ map f l' → Paired R m n
      → Paired (λ a b. R (f a) (f b)) l l'
  map_paired [] [] e d nobody = nobody
  map_paired [] (x ∷ l') e d nobody = absurd (nil≢cons d)
  map_paired (x ∷ l) l' e d nobody = absurd (nil≢cons e)
  map_paired l l' e d (pair r p q more) =
      let s = map_taken l (rw e at p) in
      let t = map_taken l' (rw d at q) in
      pair (rw (s.3, t.3) at r) s.2 t.2 (map_paired s.1 t.1 s.4 t.4 more)

-- each pair that is in R is in S
pub paired_each : {A : Type 0} {R S : A → A → Type 0} {l m : List A} → ((a b : A) → In a l → R a b → S a b) → Paired R l m → Paired S l m
paired_each h nobody = nobody
paired_each h (pair {a} {b} r p q more) = pair (h a b (taken_is_in p) r) p q (paired_each (λ x y g. h x y (in_left p g)) more)
