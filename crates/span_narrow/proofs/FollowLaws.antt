-- Laws of keeping what follows on one state: the list of a place is short, what is kept stays kept, and once the whole list was tried
-- whatever follows is kept. Assumes nothing.
use mathlib.Core.Path.{◌≡◌, refl, sym, ap, ◌∙◌}
use mathlib.Core.Logic.{◌⊎◌, inl, inr, ⊎_elim}
use mathlib.Core.Bool.{Bool, true, false, true≢false}
use mathlib.Core.List.{List, ◌∷◌}
use Prim.Native.Nat.{ℕ, suc, ◌+◌, ◌*◌, ◌≤◌, ◌<◌}
use native.Mathlib.Omega.{arith}
use native.Mathlib.Numerals.{add-one}
use lib.ListN.{length, get_or, set, length-set}
use lib.Seq.{get_or-set_same, get_or-set_other, length-slice}
use Rattle.base_lists.proofs.TestLaws.{both}
use Rattle.base_lists.specs.Members.{In}
use Rattle.base_lists.proofs.ListLaws.{not_in_nil, in_cons}
use Rattle.base_lists.proofs.FillingLaws.{same_or_not}
use Rattle.span_layers.specs.Narrow.{most_over}
use Rattle.span_tables.specs.Prepared.{list_at}
use Rattle.span_steps.specs.Steps.{is_left, tries}
use Rattle.span_steps.proofs.StepLaws.{part_cons, part_none, in_part, list_is}
use Rattle.span_steps.proofs.TriedLaws.{tries_none, tries_skip, tries_take}
use Rattle.span_narrow.specs.declared.chances.Turn.{Turn}
use Rattle.span_narrow.specs.Plan.{Plan, list_on}
use Rattle.span_narrow.specs.States.{cells_over, cell_of, dues_in, can_stand, tried_at, is_kept}
use Rattle.span_narrow.specs.Stepping.{list_from, next_turn}
use Rattle.span_narrow.specs.Keeping.{ListThere, Keepable, Grows, is_tried, KeptIfTried, KeptAfter}
use Rattle.span_narrow.proofs.StateLaws.{cell_is}

-- ---- the list of a place

module _ {starts slots : List ℕ} {i m : ℕ} (there : ListThere starts slots i m) where
  pub there_few : length (list_at starts slots i) ≤ most_over
  there_few =
      omega (
        arith,
        there.few,
        length-slice (get_or starts i 0) (get_or starts (suc i) 0) slots (rw (← add-one i) there.ends),
        ap (λ n. get_or starts n 0) (add-one i),
      )

  pub there_entry : (k : ℕ) → get_or starts i 0 ≤ k → k < get_or starts (i + 1) 0 → get_or slots k 0 < m
  there_entry k h g =
      there.entries.each _
      (rw (list_is slots starts i {lo = get_or starts i 0} {hi = get_or starts (i + 1) 0} refl refl) at (in_part slots (get_or starts i 0)
      (get_or starts (i + 1) 0) k h g there.ends))

-- the cell of a state at the place is one of the table's
pub there_cell : {starts slots : List ℕ} {i m n : ℕ} (marks : List ℕ) → ListThere starts slots i m → cells_over * (i + 1) ≤ n
    → cell_of (list_at starts slots i) marks i < n
there_cell {starts} {slots} {i} marks there room =
    let low = (cell_is (list_at starts slots i) marks i (there_few there) refl).low in
    omega arith

-- ---- a table that grows

grows_not : (from : ℕ) (table : List ℕ) → Grows from table table
grows_not from table = record { all = refl; same = λ k h. refl; keeps = λ k h. h }

grows_on : {from : ℕ} {a b c : List ℕ} → Grows from a b → Grows from b c → Grows from a c
grows_on g h = record {
  all = h.all ∙ g.all;
  same = λ k low. h.same k low ∙ g.same k low;
  keeps = λ k n. h.keeps k (g.keeps k n);
}

grows_set : {from cell : ℕ} (table : List ℕ) → from ≤ cell → cell < length table → Grows from table (set table cell 1)
grows_set {from} {cell} table h there = record {
  all = length-set table cell 1;
  same = λ k low. get_or-set_other table cell k 1 0 (λ e. omega arith);
  keeps = λ k n. ⊎_elim (λ e. rw e (rw (get_or-set_same table cell 1 0 there)))
      (λ q. rw (get_or-set_other table cell k 1 0 q) n) (same_or_not k cell);
}

-- ---- one entry more

-- who is tried is left
pub tried_left : (plan : Plan) (marks : List ℕ) (at : Turn) (tried : ℕ) → is_tried plan marks at tried ≡ true
    → is_left marks (get_or plan.slots at.k 0) ≡ true
unfolding can_stand
tried_left plan marks at tried e =
    let own = get_or plan.slots at.k 0 in
    (both (is_left marks own) _ (both (can_stand plan.twos marks at.i at.due own) _ e).0).0

-- the cell of the state after an entry
abbrev next_cell : Plan → List ℕ → Turn → ℕ → ℕ
next_cell plan marks at e = cell_of (list_on plan (at.i + 1)) (set marks e 1) (at.i + 1)

module _ {plan : Plan} {marks table : List ℕ} {at : Turn} {tried : ℕ} where
  pub kept_skip : is_tried plan marks at tried ≡ false → KeptIfTried plan marks table table at tried tried
  kept_skip e = record {
    grows = grows_not _ table;
    skipped = λ q. refl;
    taken = λ q. absurd (true≢false (sym q ∙ e));
  }

  pub kept_take : {e r : ℕ} {table' : List ℕ} → e ≡ get_or plan.slots at.k 0 → is_tried plan marks at tried ≡ true → r ≡ get_or plan.words e 0
      → next_cell plan marks at e < length table
      → table' ≡ set table (next_cell plan marks at e) 1
      → KeptIfTried plan marks table table' at tried r
  kept_take {e} own is-tried is there now-is = rw now-is record {
    grows = grows_set table (omega arith) there;
    skipped = λ q. absurd (true≢false (sym is-tried ∙ q));
    taken = λ q. rw (← own) (is, rw (get_or-set_same table (next_cell plan marks at e) 1 0 there));
  }

-- ---- all of the place's list

module _ (plan : Plan) (marks table₀ : List ℕ) where
  -- whoever is tried is still to come, or the state after it is kept
  pub record Visiting (at : Turn) (tried : ℕ) (table : List ℕ) : Type 0 where
    pub can : Keepable plan marks table₀ at.i
    pub due_is : at.due ≡ dues_in plan.twos marks at.i (list_on plan at.i)
    pub from : get_or plan.starts at.i 0 ≤ at.k
    pub to : at.k ≤ get_or plan.starts (at.i + 1) 0
    pub grows : Grows (cells_over * (at.i + 1)) table₀ table
    pub each : (j : ℕ) → In j (tried_at plan marks at.i)
        → In j (tries (can_stand plan.twos marks at.i at.due) (λ x. get_or plan.words x 0) tried (list_from plan at.i at.k))
        ⊎ (is_kept plan (set marks j 1) table (at.i + 1) ≡ true)

module _ {plan : Plan} {marks table₀ : List ℕ} {at : Turn} {tried : ℕ} {table : List ℕ} (s : Visiting plan marks table₀ at tried table) where
  abbrev end : ℕ
  end = get_or plan.starts (at.i + 1) 0

  abbrev ok : ℕ → Bool
  ok = can_stand plan.twos marks at.i at.due

  abbrev word : ℕ → ℕ
  word j = get_or plan.words j 0

  pub visiting_turn : {table' : List ℕ} {r : ℕ} → at.k < end → KeptIfTried plan marks table table' at tried r
      → Visiting plan marks table₀ (next_turn at) r table'
  visiting_turn {table'} {r} h step = record {
    can = s.can;
    due_is = s.due_is;
    from = omega (arith, s.from);
    to = omega arith;
    grows = grows_on s.grows step.grows;
    each = λ j m. ⊎_elim (λ q. go j (is_tried plan marks at tried) refl (rw one_more at q)) (λ q. inr (step.grows.keeps _ q)) (s.each j m);
  }
    where
      own : ℕ
      own = get_or plan.slots at.k 0

      rest : List ℕ
      rest = list_from plan at.i (at.k + 1)

      one_more : list_from plan at.i at.k ≡ own ∷ rest
      one_more = part_cons plan.slots at.k end h s.can.here.ends

      go : (j : ℕ) (b : Bool) → is_tried plan marks at tried ≡ b → In j (tries ok word tried (own ∷ rest))
          → In j (tries ok word r rest) ⊎ (is_kept plan (set marks j 1) table' (at.i + 1) ≡ true)
      go j true e q =
          let taken = step.taken e in
          ⊎_elim (λ x. inr (rw x taken.1)) (λ x. inl (rw taken.0 x)) (in_cons (rw (tries_take ok word tried own rest e) at q))
      go j false e q = inl (rw (step.skipped e) (rw (tries_skip ok word tried own rest e) at q))

  pub visiting_all : end ≤ at.k → KeptAfter plan marks table₀ table at.i
  visiting_all h = record {
    grows = s.grows;
    kept = λ j m. ⊎_elim
        (λ q. absurd (not_in_nil (rw (part_none plan.slots at.k end h s.can.here.ends, tries_none ok word tried) at q)))
        (λ q. q) (s.each j m);
  }

-- the same with marks that are as they were
pub kept_same : {plan : Plan} {marks marks' table table' : List ℕ} {at : Turn} {tried r : ℕ} → marks' ≡ marks
    → KeptIfTried plan marks' table table' at tried r
    → KeptIfTried plan marks table table' at tried r
kept_same e s = rw e at s
