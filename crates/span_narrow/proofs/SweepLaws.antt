-- Laws of the sweep back over the places: a state that is not kept is passed over, the chances of one that is kept take its cell, and where
-- the states of a place are done the next place has its turn. Assumes nothing.
use mathlib.Core.Path.{◌≡◌, sym, ap, ◌∙◌}
use mathlib.Core.Logic.{⊎_elim}
use mathlib.Core.Bool.{true, not, true≢false}
use mathlib.Core.List.{List}
use Prim.Native.Nat.{ℕ, ◌+◌, ◌*◌, ◌^◌, ◌≤◌, ◌<◌}
use native.Mathlib.Omega.{arith}
use lib.ListN.{length, get_or, set, length-set}
use lib.Seq.{get_or-set_same, get_or-set_other}
use lib.Pow.{pow_mono}
use lib.Dec.{eqb}
use borrow.Author.Tests.{eq-eqb, ne_eqb}
use Rattle.base_lists.proofs.FillingLaws.{same_or_not}
use Rattle.span_layers.specs.Narrow.{most_over}
use Rattle.span_memory.specs.Memory.{bits_of}
use Rattle.span_memory.proofs.KeyLaws.{bits_none, bits_few}
use Rattle.span_steps.specs.Steps.{Unmarked}
use Rattle.span_narrow.specs.Plan.{Plan, list_on, Planned}
use Rattle.span_narrow.specs.States.{cells_over, Sides, cell_of, Chances, is_kept, HasChances}
use Rattle.span_narrow.specs.Stepping.{Trying}
use Rattle.span_narrow.specs.Sweeping.{Half}
use Rattle.span_narrow.proofs.PlaceLaws.{tried_next, states_one}
use Rattle.span_narrow.proofs.StateLaws.{list_few}

-- a number that is not 0 keeps a state
kept_is : (x : ℕ) → (x ≡ 0 → ⊥) → not (eqb x 0) ≡ true
kept_is x n = rw (ne_eqb x 0 n)

is_kept_lem : (x : ℕ) → not (eqb x 0) ≡ true → x ≡ 0 → ⊥
is_kept_lem x h e = true≢false (sym (rw (eq-eqb x 0 e) at h))

module _ {plan : Plan} (planned : Planned plan) where
  -- the cell of a state is one of its place's
  pub cell_low : (marks : List ℕ) (i : ℕ) → i < length plan.words → cell_of (list_on plan i) marks i < cells_over * (i + 1)
  cell_low marks i inside =
      let low : 2 ^ length (list_on plan i) ≤ 2 ^ most_over =
      pow_mono {i = length (list_on plan i)} {j = most_over} (list_few planned inside) in
      omega (arith, bits_few marks (list_on plan i))

  -- as many as the sets of a place's entries
  pub sets_few : {i b : ℕ} → i < length plan.words → b ≡ 2 ^ length (list_on plan i)
      → (b ≤ cells_over) × ((marks : List ℕ) → bits_of marks (list_on plan i) < b)
  sets_few {i} {b} inside is =
      let low : 2 ^ length (list_on plan i) ≤ 2 ^ most_over =
      pow_mono {i = length (list_on plan i)} {j = most_over} (list_few planned inside) in
      (omega arith, λ marks. omega (arith, bits_few marks (list_on plan i)))

  -- the next place has its turn
  pub half_next : {table : List ℕ} (i : ℕ) {b : ℕ} → Half plan table (i + 1) 0 → i < length plan.words
      → b ≡ 2 ^ length (list_on plan i)
      → Half plan table i b
  half_next {table} i {b} h low is =
      let few = sets_few {b = b} low is in
      record {
        keeps = h.keeps;
        closed = h.closed;
        begun = h.begun;
        room = h.room;
        same = λ k g. h.same k (omega (arith, few.0));
        exact = record {
          each = λ marks j from inside sides kept. ⊎_elim
              (λ e. rw e (h.here marks (rw e at inside) (rw e at sides) (rw e at kept) (omega arith)))
              (λ n. h.exact.each marks j (omega arith) inside sides kept) (same_or_not j (i + 1));
        };
        here = λ marks inside sides kept g. absurd (omega (arith, few.1 marks));
      }

  module _ {table : List ℕ} {i : ℕ} (b : ℕ) (h : Half plan table i (b + 1)) (inside : i < length plan.words) where
    abbrev cell : ℕ
    cell = cells_over * i + b

    cell_same : get_or table cell 0 ≡ get_or h.keeps cell 0
    cell_same = h.same cell (omega arith)

    -- a state that is not kept
    pub half_skip : get_or table cell 0 ≡ 0 → Half plan table i b
    half_skip none = record {
      keeps = h.keeps;
      closed = h.closed;
      begun = h.begun;
      room = h.room;
      same = λ k g. h.same k (omega arith);
      exact = h.exact;
      here = λ marks low sides kept g. ⊎_elim
          (λ e. absurd (is_kept_lem _ kept (ap (λ x. get_or h.keeps (cells_over * i + x) 0) (sym e) ∙ sym cell_same ∙ none)))
          (λ n. h.here marks low sides kept (omega arith)) (same_or_not b (bits_of marks (list_on plan i)));
    }

    module _ {marks : List ℕ} (sides : Sides plan marks i (i + 1)) (digits : bits_of marks (list_on plan i) ≡ b) where
      -- one that is kept
      kept_here : (get_or table cell 0 ≡ 0 → ⊥) → is_kept plan marks h.keeps i ≡ true
      kept_here n = rw digits (kept_is _ (λ e. n (cell_same ∙ e)))

      -- of the states that follow on it the table has the chances
      pub half_trying : (get_or table cell 0 ≡ 0 → ⊥) → Trying plan marks table i
      half_trying n = record {
        planned = planned;
        inside = inside;
        room = h.room;
        sides = sides;
        told = λ j m low. h.exact.each (set marks j 1) (i + 1) (omega arith) low (tried_next planned sides inside j m)
            (h.closed.next marks i j low sides (kept_here n) m);
      }

      -- and its own take its cell
      pub half_store : (c : ℕ) → b < cells_over → Chances plan marks i c
          → Half plan (set table cell c) i b
      half_store c few chances = record {
        keeps = h.keeps;
        closed = h.closed;
        begun = h.begun;
        room = omega (arith, h.room, length-set table cell c);
        same = λ k g. get_or-set_other table cell k c 0 (λ e. omega arith) ∙ h.same k (omega arith);
        exact = record {
          each = λ marks' j from low sides' kept.
              rw (get_or-set_other table cell (cell_of (list_on plan j) marks' j) c 0 (λ e. omega (arith, from)))
              (h.exact.each marks' j from low sides' kept);
        };
        here = λ marks' low sides' kept g. ⊎_elim
            (λ e. own marks' sides' (sym e))
            (λ n. rw (get_or-set_other table cell (cell_of (list_on plan i) marks' i) c 0 (λ e. n (omega arith)))
            (h.here marks' low sides' kept (omega arith)))
            (same_or_not b (bits_of marks' (list_on plan i)));
      }
        where
          there : cell < length table
          there = omega (arith, h.room)

          own : (marks' : List ℕ) → Sides plan marks' i (i + 1) → bits_of marks' (list_on plan i) ≡ b
              → HasChances plan marks' (set table cell c) i
          own marks' sides' e =
              let one = states_one planned sides' sides inside (e ∙ sym digits) in
              rw one (rw digits (rw (get_or-set_same table cell c 0 there) chances))

-- where no set is left the place is done
pub half_done : {plan : Plan} {table : List ℕ} {i b : ℕ} → Half plan table i b → b ≡ 0
    → Half plan table i 0
half_done h e = rw e at h

-- where all places are done, of every state that is kept the table has the chances
pub half_told : {plan : Plan} {table marks : List ℕ} {i : ℕ} (h : Half plan table 0 0)
    → i < length plan.words
    → Sides plan marks i (i + 1)
    → is_kept plan marks h.keeps i ≡ true
    → HasChances plan marks table i
half_told {marks = marks} {i = i} h inside sides kept =
    ⊎_elim (λ e. rw e (h.here marks (rw e at inside) (rw e at sides) (rw e at kept) (omega arith)))
    (λ n. h.exact.each marks i (omega (arith, n)) inside sides kept) (same_or_not i 0)

-- the state in which every entry is left is kept
pub begun_kept : {plan : Plan} {table marks : List ℕ} {i b : ℕ} (h : Half plan table i b)
    → Planned plan
    → Unmarked marks
    → length marks ≡ length plan.words
    → 0 < length plan.words
    → is_kept plan marks h.keeps 0 ≡ true
begun_kept {plan} {marks = marks} h planned u all some =
    let none : bits_of marks (list_on plan 0) ≡ 0 =
    bits_none marks (list_on plan 0) (λ j m. u.each j (omega (arith, (planned.prepared.here 0 j some m).0))) in
    rw none (kept_is _ h.begun)
