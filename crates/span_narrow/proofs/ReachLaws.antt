-- Laws of keeping the states that can be reached: where all states below a cell were seen, whatever follows on one of them that is kept is
-- kept; so is the first one. Assumes nothing.
use mathlib.Core.Path.{◌≡◌, refl, sym, ◌∙◌}
use mathlib.Core.Logic.{⊎_elim}
use mathlib.Core.Bool.{true, true≢false}
use mathlib.Core.List.{List}
use Prim.Native.Nat.{ℕ, ◌+◌, ◌*◌, ◌^◌, ◌≤◌, ◌<◌}
use native.Mathlib.Omega.{arith}
use lib.ListN.{length, get_or, set}
use borrow.Author.Tests.{eq-eqb}
use Rattle.base_lists.specs.Members.{In}
use Rattle.base_lists.proofs.FillingLaws.{same_or_not}
use Rattle.span_memory.specs.Memory.{bits_of}
use Rattle.span_narrow.specs.Plan.{Plan, list_on, Planned}
use Rattle.span_narrow.specs.States.{cells_over, Sides, cell_of, tried_at, is_kept}
use Rattle.span_narrow.specs.Keeping.{KeptAfter, KeptBelow}
use Rattle.span_narrow.specs.Sweeping.{Half}
use Rattle.span_narrow.proofs.PlaceLaws.{states_one}
use Rattle.span_narrow.proofs.SweepLaws.{cell_low, sets_few}

-- ---- all states below a cell

module _ {plan : Plan} (planned : Planned plan) where
  module _ {table : List ℕ} (i b : ℕ) (u : KeptBelow plan table (cells_over * i + b)) where
    -- a state that is not kept
    pub below_skip : get_or table (cells_over * i + b) 0 ≡ 0 → KeptBelow plan table (cells_over * i + (b + 1))
    below_skip none = record {
      room = u.room;
      begun = u.begun;
      closed = λ marks j e h sides kept m g. ⊎_elim
          (λ q. absurd (true≢false (sym kept ∙ rw q (rw (eq-eqb _ 0 none)))))
          (λ n. u.closed marks j e h sides kept m (omega arith)) (same_or_not (cell_of (list_on plan j) marks j) (cells_over * i + b));
    }

    -- one that is kept, with those that follow on it
    pub below_follow : {table' marks : List ℕ} → i + 1 < length plan.words → b < cells_over → Sides plan marks i (i + 1)
        → bits_of marks (list_on plan i) ≡ b
        → KeptAfter plan marks table table' i
        → KeptBelow plan table' (cells_over * i + (b + 1))
    below_follow {table'} {marks} inside few sides digits f = record {
      room = omega (arith, u.room, f.grows.all);
      begun = λ e. u.begun (sym (f.grows.same 0 (omega arith)) ∙ e);
      closed = λ marks' j e h sides' kept m g. ⊎_elim
          (λ q. own marks' j e h sides' m q)
          (λ n. f.grows.keeps _ (u.closed marks' j e h sides' (before marks' j g kept) m (omega arith)))
          (same_or_not (cell_of (list_on plan j) marks' j) (cells_over * i + b));
    }
      where
        before : (marks' : List ℕ) (j : ℕ) → cell_of (list_on plan j) marks' j < cells_over * i + (b + 1)
            → is_kept plan marks' table' j ≡ true → is_kept plan marks' table j ≡ true
        before marks' j g kept = rw (f.grows.same (cell_of (list_on plan j) marks' j) (omega arith)) at kept

        own : (marks' : List ℕ) (j e : ℕ) → j + 1 < length plan.words → Sides plan marks' j (j + 1)
            → In e (tried_at plan marks' j)
            → cell_of (list_on plan j) marks' j ≡ cells_over * i + b
            → is_kept plan (set marks' e 1) table' (j + 1) ≡ true
        own marks' j e h sides' m q =
            let low = cell_low planned marks' j (omega arith) in
            let place : j ≡ i = omega arith in
            let bits : bits_of marks' (list_on plan i) ≡ b = rw place at (same_bits place) in
            let one : marks' ≡ marks = states_one planned (rw place at sides') sides (omega arith) (bits ∙ sym digits) in
            rw (one, place) (f.kept e (rw (one, place) at m))
          where
            same_bits : j ≡ i → bits_of marks' (list_on plan j) ≡ b
            same_bits p = omega arith

  -- the place is done
  pub below_place : {table : List ℕ} (i : ℕ) {b : ℕ} → KeptBelow plan table (cells_over * i + b) → i < length plan.words
      → 2 ^ length (list_on plan i) ≤ b
      → KeptBelow plan table (cells_over * (i + 1))
  below_place i {b} u inside all = record {
    room = u.room;
    begun = u.begun;
    closed = λ marks j e h sides kept m g. u.closed marks j e h sides kept m (low marks j (omega arith) g);
  }
    where
      low : (marks : List ℕ) (j : ℕ) → j < length plan.words → cell_of (list_on plan j) marks j < cells_over * (i + 1)
          → cell_of (list_on plan j) marks j < cells_over * i + b
      low marks j h g = ⊎_elim
          (λ q. let few : bits_of marks (list_on plan i) < 2 ^ length (list_on plan i) =
          (sets_few planned {b = 2 ^ length (list_on plan i)} inside refl).1 marks in
          rw q (omega arith))
          (λ n. omega (arith, cell_low planned marks j h)) (same_or_not j i)

  -- all places are done
  pub below_half : {table : List ℕ} (i : ℕ) → KeptBelow plan table (cells_over * i) → length plan.words ≤ i + 1
      → Half plan table (length plan.words) 0
  below_half {table} i u h = record {
    keeps = table;
    closed = record {
      next = λ marks j e low sides kept m. u.closed marks j e low sides kept m (omega (arith, cell_low planned marks j (omega arith)));
    };
    begun = u.begun;
    room = u.room;
    same = λ k g. refl;
    exact = record { each = λ marks j from inside sides kept. absurd (omega arith) };
    here = λ marks inside sides kept b. absurd (omega arith);
  }
