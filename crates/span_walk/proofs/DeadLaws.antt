-- What a run makes of a state from which no build is reached, and how a run tells one. Assumes nothing.
use mathlib.Core.Path.{◌≡◌, refl, ◌∙◌}
use mathlib.Core.Bool.{Bool, true, false, cond}
use mathlib.Core.List.{List, [], ◌∷◌, ◌++◌, map}
use Prim.Native.Nat.{ℕ, suc, ◌+◌, ◌≤◌, ◌<◌}
use native.Mathlib.Omega.{arith}
use lib.ListN.{length, length-append}
use lib.Dec.{eqb, leb}
use borrow.Author.Tests.{leb-true, leb-false, lt-leb, eqb-false, ne_eqb}
use Rattle.span_theory.specs.Run.{Run, searching, one, two, spent, state_of, reach, run}
use Rattle.span_theory.proofs.Runs.{reach_searching, reach_one, run_none, run_more, run_rises, run_spent}
use Rattle.span_walk.specs.Going.{Shows, none_yet, one_build, two_builds, stopped}
use Rattle.span_walk.specs.Recalling.{Dead, none, more}
use Rattle.span_walk.proofs.RunLaws.{shows_spent}

-- ---- the words before

module _ (path : List ℕ) (n m : ℕ) (sum : length path + n ≡ m) where
  pub dead_after : {reached : List (List ℕ)} → Dead n reached → Dead m (map (λ ws. path ++ ws) reached)
  dead_after none = none
  dead_after (more {ws} short d) =
      more (ne_eqb (length (path ++ ws)) m (λ e. omega (arith, eqb-false (length ws) n short, length-append path ws))) (dead_after d)

  pub after_dead : (reached : List (List ℕ)) → Dead m (map (λ ws. path ++ ws) reached) → Dead n reached
  after_dead [] d = none
  after_dead (ws ∷ reached) (more short d) =
      more (ne_eqb (length ws) n (λ e. omega (arith, eqb-false (length (path ++ ws)) m short, length-append path ws))) (after_dead reached d)

-- ---- the state that the code keeps is that of the run

shows_state : {path first : List ℕ} {n state : ℕ} {r : Run} → Shows path n state first r → state_of r ≡ state
shows_state (none_yet e) = refl
shows_state one_build = refl
shows_state two_builds = refl
shows_state stopped = refl

placed_same : {path path' kept kept' : List ℕ} {n n' state : ℕ} {r : Run} → Shows path n state kept r → state < 2
    → Shows path' n' state kept' r → n' ≡ n
placed_same (none_yet e) h (none_yet f) = refl
placed_same one_build h one_build = refl
placed_same two_builds h t = absurd (omega arith)
placed_same stopped h t = absurd (omega arith)

module _ (m budget : ℕ) where
  -- ---- a placement that completes no build, and one that is made

  reach_on : {path kept : List ℕ} {n state : ℕ} {r : Run} → Shows path n state kept r → state < 2 → n < budget
      → (ws : List ℕ) → eqb (length ws) m ≡ false → Shows path (suc n) state kept (reach m budget r ws)
  reach_on (none_yet {n} e) h lt ws short = rw (reach_searching m budget n ws, lt-leb budget n lt, short) (none_yet e)
  reach_on (one_build {n} {first}) h lt ws short = rw (reach_one m budget first n ws, lt-leb budget n lt, short) one_build
  reach_on two_builds h lt ws short = absurd (omega arith)
  reach_on stopped h lt ws short = absurd (omega arith)

  data Reaches (path : List ℕ) (n state : ℕ) (kept ws : List ℕ) (r : Run) : Type 0 where
    rises : state < state_of r → Reaches path n state kept ws r
    goes : eqb (length ws) m ≡ false → Shows path (suc n) state kept r → Reaches path n state kept ws r

  reaches : {path kept : List ℕ} {n state : ℕ} {r : Run} → Shows path n state kept r → state < 2 → (ws : List ℕ)
      → Reaches path n state kept ws (reach m budget r ws)
  reaches {path} (none_yet {n} {first = kept} e) h ws = rw (reach_searching m budget n ws) (go (leb budget n) (eqb (length ws) m) refl)
    where
      go : (s t : Bool) → eqb (length ws) m ≡ t → Reaches path n 0 kept ws (cond s spent (cond t (one ws (suc n)) (searching (suc n))))
      go true t q = rises (omega arith)
      go false true q = rises (omega arith)
      go false false q = goes q (none_yet e)
  reaches {path} (one_build {n} {first = kept}) h ws = rw (reach_one m budget kept n ws) (go (leb budget n) (eqb (length ws) m) refl)
    where
      go : (s t : Bool) → eqb (length ws) m ≡ t → Reaches path n 1 kept ws (cond s spent (cond t (two kept (suc n)) (one kept (suc n))))
      go true t q = rises (omega arith)
      go false true q = rises (omega arith)
      go false false q = goes q one_build
  reaches two_builds h ws = absurd (omega arith)
  reaches stopped h ws = absurd (omega arith)

  -- ---- the run over what completes no build

  pub run_over : {path kept : List ℕ} {n state : ℕ} {r : Run} {reached : List (List ℕ)} → Dead m reached → Shows path n state kept r
      → state < 2 → n ≤ budget → budget < n + length reached → run m budget r reached ≡ spent
  run_over none s h le over = absurd (omega arith)
  run_over {path} {kept} {n} {state} {r} (more {ws} {reached} short d) s h le over =
      run_more m budget r ws reached ∙ go (leb budget n) refl (λ lt. run_over {n = suc n} d (reach_on s h lt ws short) h (omega arith) (omega arith))
    where
      go : (b : Bool) → leb budget n ≡ b → (n < budget → run m budget (reach m budget r ws) reached ≡ spent)
          → run m budget (reach m budget r ws) reached ≡ spent
      go true e below = rw (shows_spent m budget s h (omega (arith, leb-true budget n e)) ws) (run_spent m budget reached)
      go false e below = below (leb-false budget n e)

  pub run_fits : {path kept : List ℕ} {n state : ℕ} {r : Run} {reached : List (List ℕ)} → Dead m reached → Shows path n state kept r
      → state < 2 → n + length reached ≤ budget → Shows path (n + length reached) state kept (run m budget r reached)
  run_fits {n} {r} none s h le = let z : n + 0 ≡ n = omega arith in rw (z, run_none m budget r) s
  run_fits {n} {r} (more {ws} {reached} short d) s h le =
      let z : n + suc (length reached) ≡ suc n + length reached = omega arith in
      rw (z, run_more m budget r ws reached) (run_fits {n = suc n} d (reach_on s h (omega arith) ws short) h (omega arith))

  -- ---- a run that completes no build and is not stopped tells it

  pub run_kept : {path path' kept kept' : List ℕ} {n n' state : ℕ} {r : Run} (reached : List (List ℕ)) → Shows path n state kept r
      → state < 2 → Shows path' n' state kept' (run m budget r reached)
      → Dead m reached × (n + length reached ≡ n')
  run_kept {r} [] s h t = (none, omega (arith, placed_same s h (rw (run_none m budget r) at t)))
  run_kept {path} {path'} {kept} {kept'} {n} {n'} {state} {r} (ws ∷ reached) s h t = go (reaches s h ws) (λ v. run_kept {n = suc n} reached v h t')
    where
      t' : Shows path' n' state kept' (run m budget (reach m budget r ws) reached)
      t' = rw (run_more m budget r ws reached) at t

      go : Reaches path n state kept ws (reach m budget r ws)
          → (Shows path (suc n) state kept (reach m budget r ws) → Dead m reached × (suc n + length reached ≡ n'))
          → Dead m (ws ∷ reached) × (n + suc (length reached) ≡ n')
      go (rises up) below = absurd (omega (arith, run_rises m budget reached (reach m budget r ws), shows_state t'))
      go (goes short v) below = let k = below v in (more short k.0, omega (arith, k.1))
