-- The run at a place, as the code makes it: a fold over what is tried from a slot on, each a placement and the run below it. What the code
-- keeps shows the run. Assumes nothing.
use mathlib.Core.Path.{◌≡◌, refl, sym, ap, ◌∙◌}
use mathlib.Core.Bool.{Bool, true, false, cond}
use mathlib.Core.List.{List, [], ◌∷◌, ◌++◌, foldl}
use Prim.Native.Nat.{ℕ, suc, ◌+◌, ◌<◌}
use native.Mathlib.Omega.{arith}
use native.Mathlib.Numerals.{add-one}
use lib.ListN.{length, set, take, length-append, length-set}
use lib.Seq.{take_all, take-take, take_at, take-suc-set}
use lib.Dec.{eqb}
use borrow.Author.Tests.{eqb-true, eqb-false, le-leb, lt-leb}
use Rattle.base_lists.specs.Members.{In, first, later}
use Rattle.span_theory.specs.Run.{Run, searching, one, two, spent, reach}
use Rattle.span_theory.proofs.Runs.{reach_searching, reach_one}
use Rattle.span_memory.specs.declared.tally.Tally.{Tally}
use Rattle.span_memory.specs.Tally.{PlacedOne}
use Rattle.span_walk.specs.Going.{Shows, none_yet, one_build, two_builds, stopped}

-- ---- folds

pub fold_same : {A B : Type 0} (f g : B → A → B) (l : List A) (b : B) → ((c : B) (x : A) → In x l → f c x ≡ g c x)
    → foldl f b l ≡ foldl g b l
fold_same f g [] b h = refl
fold_same f g (x ∷ l) b h =
    ap (λ c. foldl f c l) (h b x first) ∙ fold_same f g l (g b x) (λ c y m. h c y (later m))

-- ---- what the code keeps

pub shows_prefix : (path : List ℕ) {first : List ℕ} (w : ℕ) {n state : ℕ} {r : Run} → Shows (path ++ (w ∷ [])) n state first r
    → Shows path n state first r
shows_prefix path w (none_yet {first = kept} e) =
    none_yet (sym (take-take (length path) (length (path ++ (w ∷ []))) kept (omega (arith, length-append path (w ∷ []))))
    ∙ ap (take (length path)) e ∙ take_at path (w ∷ []) (length path) refl)
shows_prefix path w one_build = one_build
shows_prefix path w two_builds = two_builds
shows_prefix path w stopped = stopped

-- a placement that is to be made where the budget is spent
pub shows_spent : (m budget : ℕ) {path first : List ℕ} {n state : ℕ} {r : Run} → Shows path n state first r → state < 2 → n ≡ budget
    → (ws : List ℕ) → reach m budget r ws ≡ spent
shows_spent m budget (none_yet {n} e) h q ws = rw (reach_searching m budget n ws, le-leb budget n (omega arith))
shows_spent m budget (one_build {n} {first}) h q ws = rw (reach_one m budget first n ws, le-leb budget n (omega arith))
shows_spent m budget two_builds h q ws = absurd (omega arith)
shows_spent m budget stopped h q ws = absurd (omega arith)

-- ---- a placement

-- the words that stand after it
after_set : (path kept : List ℕ) (w : ℕ) → length path < length kept → take (length path) kept ≡ path
    → take (length (path ++ (w ∷ []))) (set kept (length path) w) ≡ path ++ (w ∷ [])
after_set path kept w h e =
    let n : length (path ++ (w ∷ [])) ≡ suc (length path) = omega (arith, length-append path (w ∷ [])) in
    rw n (take-suc-set kept (length path) w h) ∙ ap (λ l. l ++ (w ∷ [])) e

-- at the last place they are all
all_set : (path kept : List ℕ) (w : ℕ) → length kept ≡ length path + 1 → take (length path) kept ≡ path
    → set kept (length path) w ≡ path ++ (w ∷ [])
all_set path kept w h e =
    sym (take_all (length (path ++ (w ∷ []))) (set kept (length path) w)
    (omega (arith, length-append path (w ∷ []), length-set kept (length path) w)))
    ∙ after_set path kept w (omega arith) e

abbrev tallied : ℕ → ℕ → Tally
tallied n state = record { placed = n; builds = state }

pub shows_reach : (m budget w : ℕ) {path first : List ℕ} {n state n' state' : ℕ} {r : Run} → Shows path n state first r
    → state < 2 → n < budget
    → length first ≡ m → length path < m → PlacedOne (length path) m (tallied n state) (tallied n' state')
    → Shows (path ++ (w ∷ [])) n' state' (cond (eqb state 0) (set first (length path) w) first) (reach m budget r (path ++ (w ∷ [])))
shows_reach m budget w {path} {n'} {state'} (none_yet {n} {first = kept} e) h lt all inside p =
    rw (reach_searching m budget n (path ++ (w ∷ [])), lt-leb budget n lt) (go (eqb (length (path ++ (w ∷ []))) m) refl)
  where
    count : n' ≡ suc n
    count = p.count ∙ add-one n

    go : (t : Bool) → eqb (length (path ++ (w ∷ []))) m ≡ t
        → Shows (path ++ (w ∷ [])) n' state' (set kept (length path) w) (cond t (one (path ++ (w ∷ [])) (suc n)) (searching (suc n)))
    go true q =
        let last : length path + 1 ≡ m = omega (arith, eqb-true (length (path ++ (w ∷ []))) m q, length-append path (w ∷ [])) in
        rw (p.last last, count, all_set path kept w (omega arith) e) one_build
    go false q =
        let other : length path + 1 < m = omega (arith, eqb-false (length (path ++ (w ∷ []))) m q, length-append path (w ∷ [])) in
        rw (p.other other, count) (none_yet (after_set path kept w (omega arith) e))
shows_reach m budget w {path} {n'} {state'} (one_build {n} {first = kept}) h lt all inside p =
    rw (reach_one m budget kept n (path ++ (w ∷ [])), lt-leb budget n lt) (go (eqb (length (path ++ (w ∷ []))) m) refl)
  where
    count : n' ≡ suc n
    count = p.count ∙ add-one n

    go : (t : Bool) → eqb (length (path ++ (w ∷ []))) m ≡ t
        → Shows (path ++ (w ∷ [])) n' state' kept (cond t (two kept (suc n)) (one kept (suc n)))
    go true q =
        let last : length path + 1 ≡ m = omega (arith, eqb-true (length (path ++ (w ∷ []))) m q, length-append path (w ∷ [])) in
        rw (p.last last, count) two_builds
    go false q =
        let other : length path + 1 < m = omega (arith, eqb-false (length (path ++ (w ∷ []))) m q, length-append path (w ∷ [])) in
        rw (p.other other, count) one_build
shows_reach m budget w two_builds h lt all inside p = absurd (omega arith)
shows_reach m budget w stopped h lt all inside p = absurd (omega arith)
