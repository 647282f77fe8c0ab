-- The laws by which a loop over a list meets its hash, whatever the width of the elements. No contract cites this file. Assumes nothing.
use mathlib.Core.Path.{◌≡◌, refl, sym, ◌∙◌}
use mathlib.Core.List.{List, foldl}
use Prim.Native.Nat.{ℕ, ◌+◌, ◌*◌, ◌≤◌, ◌<◌}
use native.Mathlib.Nat.{mod-lt}
use native.Mathlib.Omega.{arith}
use lib.ListN.{length, get_or, drop}
use Rattle.base_lists.proofs.Fold.{fold_turn, fold_end}
use Rattle.test_records.specs.Hash.{modulus, mixed, hash_of}

-- h is the hash of the first i elements: what is left of s, from h on, gives the hash of s
pub record SoFar (s : List ℕ) (h i : ℕ) : Type 0 where
  pub within : i ≤ length s
  pub small : h < modulus
  pub left : foldl mixed h (drop i s) ≡ hash_of s

pub so_far_none : (s : List ℕ) → SoFar s 1 0
unfolding hash_of
so_far_none s = record { within = omega arith; small = omega arith; left = refl }

pub so_far_more : {s : List ℕ} {h i : ℕ} (r : ℕ) → SoFar s h i → i < length s → r ≡ mixed h (get_or s i 0) → SoFar s r (i + 1)
so_far_more {s} {h} {i} r so t e =
    record {
      within = omega arith;
      small = rw e (mod-lt (h * 257 + get_or s i 0) (omega arith));
      left = rw e (fold_turn mixed h s i t ∙ so.left);
    }

pub so_far_all : {s : List ℕ} {h i : ℕ} → SoFar s h i → length s ≤ i → h ≡ hash_of s
so_far_all {s} {h} {i} so t = sym (fold_end mixed h s i t) ∙ so.left
