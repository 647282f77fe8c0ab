-- Laws of members, of taking one out of a list, of rising order, of pairing off and of lists by their parts. Assumes nothing.
use mathlib.Core.Path.{◌≡◌, refl, ap, sym, ◌∙◌, subst}
use mathlib.Core.List.{List, [], ◌∷◌, ◌++◌, map, flat_map}
use mathlib.Core.Logic.{◌⊎◌, inl, inr, ⊎_elim, ⊎_map, by_cases}
use mathlib.Core.Bool.{Bool, true, false, cond}
use Prim.Native.Nat.{ℕ, zero, suc, ◌+◌, ◌≤◌, ◌<◌}
use native.Mathlib.Omega.{arith}
use native.Mathlib.Decide.{ℕ_discrete}
use lib.ListN.{length}
use lib.Dec.{T}
use Rattle.base_lists.specs.Row.{row}
use Rattle.base_lists.proofs.RowLaws.{row_none, row_first}
use Rattle.base_lists.specs.Members.{In, first, later, Taken, here, there, Paired, nobody}
use Rattle.base_lists.specs.Members.{pair, Rising, flat, rises, Choice, choice, choices, keep}

module _ {A : Type 0} where
  -- ---- taking out

  -- two taken out in turn can be taken out the other way round
  pub taken_swap : {a b : A} {l m n : List A} → Taken a l m → Taken b m n → (k : List A) × Taken b l k × Taken a k n
  taken_swap here q = (_, there q, here)
  taken_swap (there p) here = (_, here, p)
  taken_swap (there p) (there q) = let s = taken_swap p q in (_, there s.1, there s.2)

  -- two ways to take one out take the same, or each leaves what the other takes
  pub taken_two : {a b : A} {l m n : List A} → Taken a l m → Taken b l n → ((a ≡ b) × (m ≡ n)) ⊎ ((k : List A) × Taken b m k × Taken a n k)
  taken_two here here = inl (refl, refl)
  taken_two here (there q) = inr (_, q, here)
  taken_two (there p) here = inr (_, here, p)
  taken_two (there {x} p) (there q) =
      ⊎_elim (λ s. inl (s.0, ap (λ r. x ∷ r) s.1)) (λ s. inr (x ∷ s.0, there s.1, there s.2)) (taken_two p q)

  pub length_taken : {a : A} {l m : List A} → Taken a l m → length l ≡ suc (length m)
  length_taken here = refl
  length_taken (there p) = ap suc (length_taken p)

  -- ---- members

  pub not_in_nil : {x : A} → In x [] → ⊥
  not_in_nil h = elim h [ ]

  pub in_cons : {x y : A} {l : List A} → In x (y ∷ l) → (x ≡ y) ⊎ In x l
  in_cons first = inl refl
  in_cons (later h) = inr h

  pub in_cast : {x y : A} {l : List A} → x ≡ y → In y l → In x l
  in_cast {l} e h = rw e h

  pub taken_is_in : {a : A} {l m : List A} → Taken a l m → In a l
  taken_is_in here = first
  taken_is_in (there p) = later (taken_is_in p)

  pub in_is_taken : {a : A} {l : List A} → In a l → (m : List A) × Taken a l m
  in_is_taken first = (_, here)
  in_is_taken (later h) = let s = in_is_taken h in (_, there s.1)

  -- what is left was there
  pub in_left : {a x : A} {l m : List A} → Taken a l m → In x m → In x l
  in_left here h = later h
  in_left (there p) first = first
  in_left (there p) (later h) = later (in_left p h)

  -- what was there is taken or left
  pub taken_or_left : {a x : A} {l m : List A} → Taken a l m → In x l → (x ≡ a) ⊎ In x m
  taken_or_left here first = inl refl
  taken_or_left here (later h) = inr h
  taken_or_left (there p) first = inr first
  taken_or_left (there p) (later h) = ⊎_map (λ e. e) later (taken_or_left p h)

  pub in_append_left : {x : A} {l : List A} (m : List A) → In x l → In x (l ++ m)
  in_append_left m first = first
  in_append_left m (later h) = later (in_append_left m h)

  pub in_append_right : {x : A} (l : List A) {m : List A} → In x m → In x (l ++ m)
  in_append_right [] h = h
  in_append_right (y ∷ l) h = later (in_append_right l h)

  pub in_append : {x : A} (l : List A) {m : List A} → In x (l ++ m) → In x l ⊎ In x m
  in_append [] h = inr h
  in_append (y ∷ l) first = inl first
  in_append (y ∷ l) (later h) = ⊎_map later (λ r. r) (in_append l h)

  -- ---- those that pass a test

  pub in_keep : (test : A → Bool) {x : A} (l : List A) → In x (keep test l) → In x l × T (test x)
  in_keep test {x} (y ∷ l) h = go (test y) refl (in_keep test l) h
    where
      go : (t : Bool) → test y ≡ t → (In x (keep test l) → In x l × T (test x)) → In x (cond t (y ∷ keep test l) (keep test l))
          → In x (y ∷ l) × T (test x)
      go true e more h = ⊎_elim (λ q. (rw q first, rw q (rw e tt))) (λ h'. (later (more h').0, (more h').1)) (in_cons h)
      go false e more h = (later (more h).0, (more h).1)
  in_keep test {x = x} [] h = elim h [ ]

  pub keep_in : (test : A → Bool) {x : A} {l : List A} → In x l → T (test x) → In x (keep test l)
  keep_in test {x} (first {xs}) t = go (test x) t
    where
      go : (b : Bool) → T b → In x (cond b (x ∷ keep test xs) (keep test xs))
      go true t = first
      go false t = elim t [ ]
  keep_in test {x} (later {y} {xs} h) t = go (test y) (keep_in test h t)
    where
      go : (b : Bool) → In x (keep test xs) → In x (cond b (y ∷ keep test xs) (keep test xs))
      go true h = later h
      go false h = h

  -- ---- rising order

  module _ {R : A → A → Type 0} where
    pub rising_append : {l m : List A} → Rising R l → Rising R m → ((x y : A) → In x l → In y m → R x y) → Rising R (l ++ m)
    rising_append flat s h = s
    rising_append (rises {x = a} {xs = l} up r) s h =
        rises (λ y g. ⊎_elim (λ k. up y k) (λ k. h a y first k) (in_append l g)) (rising_append r s (λ x y k k'. h x y (later k) k'))

    pub rising_keep : (test : A → Bool) {l : List A} → Rising R l → Rising R (keep test l)
    rising_keep test flat = flat
    rising_keep test (rises {x = a} {xs = l} up r) = go (test a) (rising_keep test r)
      where
        go : (t : Bool) → Rising R (keep test l) → Rising R (cond t (a ∷ keep test l) (keep test l))
        go true s = rises (λ y h. up y (in_keep test l h).0) s
        go false s = s

    -- a rising list has no member twice, so a list that has all its members is no shorter
    pub rising_shorter : ((x : A) → R x x → ⊥) → {l : List A} (m : List A) → Rising R l → ((x : A) → In x l → In x m) → length l ≤ length m
    rising_shorter irr m flat h = omega arith
    rising_shorter irr m (rises {x = a} up r) h =
        let t = in_is_taken (h a first) in
        let more = rising_shorter irr t.0 r
        (λ x k. ⊎_elim (λ e. absurd (irr a (rw e at (up x k)))) (λ g. g) (taken_or_left t.1 (h x (later k)))) in
        omega (arith, length_taken t.1)

    -- two rising lists with the same members are one
    pub rising_one : ((x y : A) → R x y → R y x → ⊥) → {l m : List A} → Rising R l → Rising R m → ((x : A) → In x l → In x m)
        → ((x : A) → In x m → In x l) → l ≡ m
    rising_one asym flat flat f g = refl
    rising_one asym flat (rises {x = b} up s) f g = absurd (not_in_nil (g b first))
    rising_one asym (rises {x = a} up r) flat f g = absurd (not_in_nil (f a first))
    rising_one asym (rises {x = a} {xs = l} up r) (rises {x = b} {xs = m} down s) f g =
        let e : a ≡ b = ⊎_elim (λ q. q) (λ h. ⊎_elim (λ q. sym q) (λ k. absurd (asym a b (up b k) (down a h))) (in_cons (g b first)))
        (in_cons (f a first)) in
        let t : l ≡ m = rising_one asym r s
        (λ x h. ⊎_elim (λ q. absurd (let z = subst (λ y. R a y) (q ∙ sym e) (up x h) in asym a a z z)) (λ k. k) (in_cons (f x (later h))))
        (λ x h. ⊎_elim (λ q. absurd (let z = subst (λ y. R b y) (q ∙ e) (down x h) in asym b b z z)) (λ k. k) (in_cons (g x (later h)))) in
        cc

  -- ---- pairing off

  module _ {R : A → A → Type 0} where
    pub paired_refl : ((a : A) → R a a) → (l : List A) → Paired R l l
    paired_refl r [] = nobody
    paired_refl r (x ∷ l) = pair (r x) here here (paired_refl r l)

    -- whatever is taken out on the left has its partner on the right
    pub paired_take : {a : A} {l l' m : List A} → Paired R l m → Taken a l l'
        → (b : A) × (m' : List A) × R a b × Taken b m m' × Paired R l' m'
    paired_take (pair {b} {m'} r p q ps) t =
        ⊎_elim (λ s. (b, m', rw s.0 at r, q, rw s.1 at ps))
        (λ s.
        let u = paired_take {l' = s.0} ps s.1 in
        let v = taken_swap q u.3 in
        (u.0, v.0, u.2, v.1, pair r s.2 v.2 u.4))
        (taken_two p t)
    paired_take {a = a} nobody t = elim t [ ]

    -- whoever is on the right has a partner on the left
    pub paired_in : {b : A} {l m : List A} → Paired R l m → In b m → (a : A) × R a b × In a l
    paired_in (pair {a} r p q ps) h =
        ⊎_elim (λ e. (a, rw e r, taken_is_in p)) (λ h'. let u = paired_in ps h' in (u.0, u.1, in_left p u.2)) (taken_or_left q h)
    paired_in {b = b} nobody h = elim h [ ]

-- ---- maps

module _ {A B : Type 0} where
  pub map_in : (f : A → B) {x : A} {l : List A} → In x l → In (f x) (map f l)
  map_in f first = first
  map_in f (later h) = later (map_in f h)

  pub in_map : (f : A → B) {y : B} (l : List A) → In y (map f l) → (x : A) × In x l × (y ≡ f x)
  in_map f {y = y} [] h = elim h [ ]
  in_map f {y = y} (a ∷ l) h = go a y (λ h. in_map f l h) h
    where
      go : (a : A) (y : B) → (In y (map f l) → (x : A) × In x l × (y ≡ f x)) → In y (f a ∷ map f l) → (x : A) × In x (a ∷ l) × (y ≡ f x)
      go a y rest first = (a, first, refl)
      go a y rest (later h) = let s = rest h in (s.0, later s.1, s.2)

  pub rising_map : {R : A → A → Type 0} {S : B → B → Type 0} (f : A → B) → ((x y : A) → R x y → S (f x) (f y)) → {l : List A} → Rising R l
      → Rising S (map f l)
  rising_map f mono flat = flat
  rising_map f mono (rises {x = a} {xs = l} up r) =
      rises {x = f a} (λ y h. let s = in_map f l h in rw s.2 (mono a s.0 (up s.0 s.1))) (rising_map f mono r)

  -- two maps of a list pair off
  pub paired_map : {R : B → B → Type 0} (f g : A → B) (l : List A) → ((x : A) → In x l → R (f x) (g x)) → Paired R (map f l) (map g l)
  paired_map f g [] each = nobody
  paired_map f g (x ∷ l) each = pair (each x first) here here (paired_map f g l (λ y h. each y (later h)))

  pub flat_map_in : (f : A → List B) {x : A} {y : B} {l : List A} → In x l → In y (f x) → In y (flat_map f l)
  unfolding flat_map
  flat_map_in f (first {xs}) h = in_append_left (flat_map f xs) h
  flat_map_in f (later {y = a} m) h = in_append_right (f a) (flat_map_in f m h)

  pub in_flat_map : (f : A → List B) {y : B} (l : List A) → In y (flat_map f l) → (x : A) × In x l × In y (f x)
  unfolding flat_map
  in_flat_map f (a ∷ l) h = ⊎_elim (λ g. (a, first, g)) (λ g. let s = in_flat_map f l g in (s.0, later s.1, s.2)) (in_append (f a) h)
  in_flat_map f {y = y} [] h = elim h [ ]

  pub rising_flat_map : {R : A → A → Type 0} {S : B → B → Type 0} (f : A → List B) → ((a : A) → Rising S (f a))
      → ((a b : A) (x y : B) → R a b → In x (f a) → In y (f b) → S x y) → {l : List A} → Rising R l → Rising S (flat_map f l)
  unfolding flat_map
  rising_flat_map f each between flat = flat
  rising_flat_map f each between (rises {x = a} {xs = l} up r) =
      rising_append (each a) (rising_flat_map f each between r)
      (λ x y g h. let s = in_flat_map f l h in between a s.0 x y (up s.0 s.1) g s.2)

-- ---- a list by its parts

-- a member is one of the parts
pub in_row : {A : Type 0} (f : ℕ → A) (k n : ℕ) {x : A} → In x (row f k n) → (i : ℕ) × (i < k + n) × (x ≡ f i)
in_row f k zero h = absurd (not_in_nil (rw (row_none f k) at h))
in_row f k (suc n) h =
    ⊎_elim (λ e. (k, omega arith, e)) (λ g. let s = in_row f (suc k) n g in (s.0, omega (arith, s.1), s.2))
    (in_cons (rw (row_first f k n) at h))

-- and each part is a member
pub row_in : {A : Type 0} (f : ℕ → A) (k n i : ℕ) → k ≤ i → i < k + n → In (f i) (row f k n)
row_in f k zero i low high = absurd (omega arith)
row_in f k (suc n) i low high =
    rw (row_first f k n)
    (by_cases (ℕ_discrete i k) (λ e. rw e first) (λ d. later (row_in f (suc k) n i (omega (arith, d)) (omega arith))))

-- ---- choices

module _ {A : Type 0} where
  pub taken_choice : {e : A} {all rest : List A} → Taken e all rest → In (choice e rest) (choices all)
  taken_choice here = first
  taken_choice (there {x} t) = later (map_in (λ c. choice c.entry (x ∷ c.left)) (taken_choice t))

  pub choice_taken : {c : Choice A} (all : List A) → In c (choices all) → Taken c.entry all c.left
  choice_taken {c = c} [] h = elim h [ ]
  choice_taken {c = c} (e ∷ es) h =
      ⊎_elim (λ q. rw q here)
      (λ g. let s = in_map (λ c. choice c.entry (e ∷ c.left)) (choices es) g in rw s.2 (there (choice_taken {c = s.0} es s.1)))
      (in_cons h)
