-- A list in another order, by the index that each place has its member from.
--   Reindexed d xs ys   == each place of ys has a member of xs, by a map of places to indices that sends no two to one
-- Assumes nothing.
use mathlib.Core.Path.{◌≡◌, refl, sym, ap, ◌∙◌}
use mathlib.Core.List.{List, [], ◌∷◌}
use Prim.Native.Nat.{ℕ, zero, suc, ◌<◌}
use native.Mathlib.Omega.{arith}
use lib.ListN.{length, get_or}
use Rattle.base_lists.specs.Members.{In, Taken, here, there, Reordered, empty, next}
use Rattle.base_lists.proofs.ListLaws.{length_taken, in_is_taken}
use Rattle.base_lists.proofs.Pigeons.{OneToOne}
use Rattle.base_lists.proofs.Skips.{skip, unskip, skip_unskip, add_place, add_apart, others_off, drop_place}

pub record Reindexed {A : Type 0} (d : A) (xs ys : List A) : Type 0 where
  pub index : ℕ → ℕ
  pub apart : OneToOne (length xs) index
  pub has : (t : ℕ) → t < length xs → get_or ys t d ≡ get_or xs (index t) d

module _ {A : Type 0} (d : A) where
  -- those that are left, by their indices before one was taken out
  abbrev Left : List A → List A → ℕ → Type 0
  Left all rest k = (i : ℕ) → get_or rest i d ≡ get_or all (skip k i) d

  -- with one more in front
  left_more : (x : A) (all rest : List A) (k : ℕ) → Left all rest k → Left (x ∷ all) (x ∷ rest) (suc k)
  left_more x all rest k h zero = refl
  left_more x all rest k h (suc i) = h i

  -- the index of one that is taken out
  taken_index : {e : A} {all rest : List A} → Taken e all rest → (k : ℕ) × (k < length all) × (e ≡ get_or all k d) × Left all rest k
  taken_index here = (0, omega arith, refl, λ i. refl)
  taken_index (there {x} {all} {rest} t) =
      let u = taken_index t in (suc u.0, omega (arith, u.1), u.2, left_more x all rest u.0 u.3)

  -- the index of a member
  pub in_index : {x : A} {xs : List A} → In x xs → (i : ℕ) × (i < length xs) × (x ≡ get_or xs i d)
  in_index h = let u = taken_index (in_is_taken h).1 in (u.0, u.1, u.2)

  -- what stands at an index can be taken out
  index_taken : (all : List A) (k : ℕ) → k < length all → (rest : List A) × Taken (get_or all k d) all rest × Left all rest k
  index_taken [] k h = absurd (omega arith)
  index_taken (x ∷ all) zero h = (all, here, λ i. refl)
  index_taken (x ∷ all) (suc k) h =
      let u = index_taken all k (omega arith) in (x ∷ u.0, there u.1, left_more x all u.0 k u.2)

  -- a list in another order has its members by their indices
  pub reordered_index : {xs ys : List A} → Reordered xs ys → Reindexed d xs ys
  unfolding add_place
  reordered_index empty =
      record { index = λ t. t; apart = record { inside = λ t p. p; apart = λ s t p q e. e }; has = λ t p. absurd (omega arith) }
  reordered_index (next {e} {all} {rest} {order} t r) = go (reordered_index r) (taken_index t)
    where
      go : Reindexed d rest order → (k : ℕ) × (k < length all) × (e ≡ get_or all k d) × Left all rest k → Reindexed d all (e ∷ order)
      go u (k, h, is, left) =
          record {
            index = add_place k u.index;
            apart = rw (length_taken t) (add_apart (length rest) k u.index (omega (arith, length_taken t)) u.apart);
            has = at;
          }
        where
          at : (s : ℕ) → s < length all → get_or (e ∷ order) s d ≡ get_or all (add_place k u.index s) d
          at zero p = is
          at (suc s) p = u.has s (omega (arith, length_taken t)) ∙ left (u.index s)

  -- a list that has the members of another by their indices is that one in another order
  pub index_reordered : (xs ys : List A) → length ys ≡ length xs → Reindexed d xs ys → Reordered xs ys
  index_reordered [] [] n u = empty
  index_reordered (x ∷ xs) [] n u = absurd (omega arith)
  index_reordered xs (y ∷ ys) n u =
      let first-in : 0 < length xs = omega arith in
      let k = u.index 0 in
      let tk = index_taken xs k (u.apart.inside 0 first-in) in
      let rest = tk.0 in
      let many = length_taken tk.1 in
      let o : OneToOne (suc (length rest)) u.index = rw many at u.apart in
      let left : Reindexed d rest ys =
      record {
        index = λ t. unskip k (u.index (suc t));
        apart = drop_place (length rest) u.index o;
        has = λ t p.
            u.has (suc t) (omega arith)
            ∙ ap (λ i. get_or xs i d) (sym (skip_unskip k (u.index (suc t)) (others_off (length rest) u.index o t p)))
            ∙ sym (tk.2 (unskip k (u.index (suc t))));
      } in
      rw (u.has 0 first-in) (next tk.1 (index_reordered rest ys (omega arith) left))
