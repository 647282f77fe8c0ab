-- Laws of a loop over a list of numbers from its end: `xs` are the elements so far, which the iterator has given. Assumes nothing.
use denote.Ref.{Bor}
use mathlib.Core.Path.{◌≡◌, ap, ◌∙◌}
use mathlib.Core.List.{List, [], ◌∷◌, ◌++◌}
use Prim.Native.Nat.{ℕ, ◌-◌, ◌≤◌, ◌<◌}
use native.Mathlib.Omega.{arith}
use lib.ListN.{length, get_or}
use Rattle.std.specs.Prelude.{Option, None, Some}
use Rattle.std.specs.Iterator.{Yields}
use Rattle.std.specs.Iterator.Adapters.{rev_source, rev_steps}
use Rattle.std.specs.Slice.Iter.{iter_rest, iter_steps_back}
use Rattle.std.specs.declared.iter.Rev.{Rev}
use Rattle.std.specs.declared.slice.Iter.{Iter}
use Rattle.std.proofs.lemmas.List.{get_or-reverse, length-reverse, length_push}
use Rattle.std.proofs.lemmas.Grind.{get_or_default_zero}
use Rattle.std.proofs.lemmas.Iterator.Adapters.{YieldsList-from_rev_slice}
use Rattle.std.proofs.lemmas.Iterator.Consumers.{YieldsList-turn, YieldsList-end}
use Rattle.base_lists.specs.Members.{In}
use Rattle.base_lists.proofs.FillingLaws.{get_d_in}

module _ (list : List ℕ) (xs : List (Bor ℕ)) where
  -- the slot where the part of the list begins that was gone over
  abbrev pub from : ℕ
  from = length list - length xs

  pub from_more : (x : Bor ℕ) → length list - length (xs ++ x ∷ []) ≡ from - 1
  from_more x = omega (arith, length_push xs x)

  module _ (s : Rev (Iter ℕ)) (whole : iter_rest (rev_source s) ≡ list) (t : Rev (Iter ℕ)) (y : Yields (rev_steps iter_steps_back) s xs t)
      (r : Option (Bor ℕ)) (u : Rev (Iter ℕ)) (step : rev_steps iter_steps_back t r u) where
    pub next_back : {x : Bor ℕ} → r ≡ Some x → (0 < from) × (x.now ≡ get_or list (from - 1) 0) × In x.now list
    next_back {x} is =
        let turn = YieldsList-turn (YieldsList-from_rev_slice list whole) xs t y r u x is step in
        let some : length xs < length list = omega (arith, turn.0, length-reverse list) in
        let same : length list - 1 - length xs ≡ from - 1 = omega arith in
        let own : x.now ≡ get_or list (from - 1) 0 =
        turn.1 ∙ get_or-reverse list (length xs) x.now some
        ∙ get_or_default_zero list (length list - 1 - length xs) x.now (omega (arith, some)) ∙ ap (λ k. get_or list k 0) same in
        (omega (arith, some), own, rw own (get_d_in list (from - 1) (omega (arith, some))))

    pub none_back : r ≡ None → from ≤ 0
    none_back is =
        let end = YieldsList-end (YieldsList-from_rev_slice list whole) xs t y r u is step in
        omega (arith, end.1, length-reverse list)
